-- Laws of replies: what the record holds, also once packets are added.
-- Assumes nothing.
use Rattle.std.proofs.Common.{◌≡◌, ℕ, suc, ◌+◌, ◌-◌, ◌<◌, ◌≤◌, List, [], ◌∷◌, ◌++◌, map, length, get_or, take, drop, replicate, refl, append-nil, add-one, arith, length-append, drop_of_length-le, length-take, drop-cons, take_at}
use mathlib.Core.List.{map-append}
use borrow.Author.Tests.{lt-leb}
use lib.ListN.{length-map, get_or-map}
use lib.Seq.{split_at}
use Rattle.laws.specs.Each.{Each}
use Rattle.laws.proofs.Each.{each_right}
use Rattle.laws.proofs.Stores.{seam}
use Rattle.options.specs.Wire.{max_packet, pkt_of, content_of}
use Rattle.options.specs.declared.wire.Packet.{Packet}
use Rattle.options.proofs.Wires.{content_pkt, len_pkt}
use Rattle.options.proofs.Fair as packet
use Rattle.negotiation.specs.Replies.{max_replies, replies_of, contents, Short, added, joined}
use Rattle.negotiation.specs.declared.replies.Replies.{Replies}

-- ---- packets added

-- one more packet
pub add_replies : (ps : List (List ℕ)) (l : List ℕ) → length ps < max_replies → added (replies_of ps) (pkt_of l) ≡ replies_of (ps ++ l ∷ [])
unfolding replies_of
add_replies ps l h =
    let m : length (map pkt_of ps) ≡ length ps = length-map ps pkt_of in
    let k : length (map pkt_of ps) < max_replies = rw m h in
    rw (rw m at (seam max_replies (map pkt_of ps) (pkt_of l) (pkt_of []) k), length-append, map-append) refl

-- at most one packet behind those of a record that is not full
pub join_replies : (ps qs : List (List ℕ)) → length ps < max_replies → length qs ≤ 1 → joined (replies_of ps) (replies_of qs) ≡ replies_of (ps ++ qs)
unfolding replies_of
join_replies ps [] h k = rw append-nil refl
join_replies ps (l ∷ []) h k = rw (lt-leb max_replies (length ps) h) (add_replies ps l h)
join_replies ps (l ∷ m ∷ qs) h k = absurd (omega arith)

-- ---- the packets that a record holds

-- the first packets of a record are those that it was made of
first_made : (ps : List (List ℕ)) → take (length ps) (map pkt_of ps ++ replicate (max_replies - length ps) (pkt_of [])) ≡ map pkt_of ps
first_made ps = take_at (map pkt_of ps) _ (length ps) (length-map ps pkt_of)

pub contents_made : (ps : List (List ℕ)) → contents (replies_of ps) ≡ ps
unfolding contents replies_of
contents_made ps = rw (first_made ps) (each_back ps)
  where
    each_back : (ps : List (List ℕ)) → map content_of (map pkt_of ps) ≡ ps
    each_back [] = refl
    each_back (p ∷ ps) = rw (content_pkt p, each_back ps) refl

pub short_made : (ps : List (List ℕ)) → length ps ≤ max_replies → Each packet.Short ps → Short (replies_of ps)
unfolding replies_of
short_made ps few short = record { few = few; each = rw (first_made ps) (each_short ps short) }
  where
    each_short : (ps : List (List ℕ)) → Each packet.Short ps → Each (λ (p : Packet). p.len ≤ max_packet) (map pkt_of ps)
    each_short [] h = tt
    each_short (p ∷ ps) h = (rw (len_pkt p) h.0, each_short ps h.1)

module _ (rs : Replies) (i : ℕ) where
  abbrev first : List Packet
  first = take rs.count rs.packets

  module _ (d : Packet) (h : i < length first) where
    -- the packet at an index, and those behind it
    pub contents-next : drop i (contents rs) ≡ content_of (get_or first i d) ∷ drop (i + 1) (contents rs)
    unfolding contents
    contents-next =
        rw (drop-cons (map content_of first) i (content_of d) (omega (arith, length-map first content_of)), get_or-map content_of first i d, add-one i) refl

    pub short_at : Short rs → (get_or first i d).len ≤ max_packet
    short_at s =
        let P : Packet → Type 0 = λ p. p.len ≤ max_packet in
        (each_right P (take i first) (get_or first i d ∷ drop (suc i) first) (rw (split_at first i d h) at s.each)).0

  pub contents_end : length first ≤ i → drop i (contents rs) ≡ []
  unfolding contents
  contents_end h =
      let e : length (map content_of first) ≤ i = omega (arith, length-map first content_of) in
      drop_of_length-le (map content_of first) e

-- a record within its bounds holds few packets, and short ones
pub contents_few : {rs : Replies} → Short rs → length (contents rs) ≤ max_replies
unfolding contents
contents_few {rs} s = omega (arith, s.few, length-map (take rs.count rs.packets) content_of, length-take rs.count rs.packets)

pub contents_short : {rs : Replies} → Short rs → Each packet.Short (contents rs)
unfolding contents
contents_short {rs} s = go (take rs.count rs.packets) s.each
  where
    go : (qs : List Packet) → Each (λ (p : Packet). p.len ≤ max_packet) qs → Each packet.Short (map content_of qs)
    go [] h = tt
    go (q ∷ qs) h = (omega (arith, length-take q.len q.bytes, h.0), go qs h.1)

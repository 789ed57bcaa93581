-- One buffer throughout: what holds of every book, and that each call keeps it.
-- Assumes nothing.
use mathlib.Core.Path.{◌≡◌, refl, ap, ap₂, sym, ◌∙◌}
use mathlib.Core.Bool.{true, false}
use mathlib.Core.List.{List, [], ◌∷◌, ◌++◌, append_assoc, append-nil}
use Prim.Native.Nat.{ℕ, ◌+◌, ◌%◌, ◌≤◌, ◌<◌}
use native.Mathlib.Nat.{mod-lt, zero-mod}
use native.Mathlib.Omega.{arith}
use borrow.Author.Tests.{lt-ltb, le-ltb, le-leb, lt-leb}
use lib.ListN.{length, take, drop, length-append}
use lib.Seq.{length-take-le, take-take, take-append_seam}
use Rattle.std.specs.Prelude.{Ok, Err}
use Rattle.laws.specs.Each.{Each}
use Rattle.laws.proofs.Cases.{by_le}
use Rattle.laws.proofs.Each.{each_append}
use Rattle.framing.specs.Rfc1662.{frame}
use Rattle.framing.specs.Writer.{holds}
use Rattle.negotiation.specs.declared.states.State.TheVariants.{Opened}
use Rattle.link.specs.Link.{remote_map, ip_frame}
use Rattle.link.specs.declared.pppos.PPPoS.{PPPoS}
use Rattle.outbox.specs.Ring.{turned, placed, around}
use Rattle.outbox.specs.Outbox.{largest, longest, start, content, entry, first, behind, packets, held_in, fresh_of, is_full, Accept, declined, grown, Send, gone, shrunk, front_in, up, written, sent_first, kept_first, idle}
use Rattle.outbox.specs.History.{takes, Call, lent, Post, Book, leaves, entered, posted, after, begun, Untouched, Framed}
use Rattle.outbox.specs.declared.refusal.Refusal.{Refusal}
use Rattle.outbox.specs.declared.refusal.Refusal.TheVariants.{BufferShort}
use Rattle.outbox.specs.declared.outbox.Outbox.{Outbox}
use Rattle.outbox.proofs.Rings.{around_more, length-placed}
use Rattle.outbox.proofs.Accepting.{accept_either, room_bytes}
use Rattle.outbox.proofs.Contents.{start_le, start_front, reach_le, gone_le, gone_whole, length_ring, content-grown, content-shrunk}
use Rattle.outbox.proofs.Sending.{frame_some, up_opened, send_cases}
use Rattle.outbox.proofs.Queue.{flat, flat_nil, first_flat, behind_flat, packets_flat, flat_snoc, flat_takes, takes_nil, takes_cons, takes-append}

pub record Kept (b : Book) : Type 0 where
  pub ring : length b.ring ≡ b.outbox.size
  pub small : b.outbox.size ≤ largest
  pub gone : List (List ℕ)
  pub framed : Framed gone b.sent
  pub waiting : List (List ℕ)
  pub bytes : content b.outbox b.ring ≡ flat waiting
  pub count : b.outbox.held ≡ length waiting
  pub used : b.outbox.used ≡ length (flat waiting)
  pub room : b.outbox.used ≤ b.outbox.size
  pub short : Each (λ p. length p ≤ longest) waiting
  pub front : 0 < b.outbox.size → b.outbox.front ≡ takes gone % b.outbox.size
  pub all : gone ++ waiting ≡ b.accepted

-- the front is where all that went ends
pub kept_start : (b : Book) (k : Kept b) → 0 < b.outbox.size → start b.outbox ≡ takes k.gone % b.outbox.size
kept_start b k z = start_front b.outbox (rw (k.front z) (mod-lt (takes k.gone) z)) ∙ k.front z

pub kept_held : (b : Book) (k : Kept b) → held_in b.outbox b.ring ≡ k.waiting
kept_held b k = ap₂ packets k.count k.bytes ∙ packets_flat k.waiting

pub kept_begun : (buf : List ℕ) → Kept (begun buf)
kept_begun buf =
    record {
      ring = length-take-le (fresh_of (length buf)).size buf fits;
      small = small;
      gone = [];
      framed = Framed.none;
      waiting = [];
      bytes = sym flat_nil;
      count = refl;
      used = sym (ap length flat_nil);
      room = omega arith;
      short = tt;
      front = λ z. sym (ap (λ (m : ℕ). m % (fresh_of (length buf)).size) takes_nil ∙ zero-mod (fresh_of (length buf)).size);
      all = refl;
    }
  where
    fits : (fresh_of (length buf)).size ≤ length buf
    fits = by_le largest (length buf) (λ h. rw (le-ltb (length buf) largest h) h) (λ h. rw (lt-ltb (length buf) largest h) (omega arith))

    small : (fresh_of (length buf)).size ≤ largest
    small = by_le largest (length buf) (λ h. rw (le-ltb (length buf) largest h) (omega arith)) (λ h. rw (lt-ltb (length buf) largest h) (omega arith))

-- ---- what is lent

leaves_long : (b : Book) (buf : List ℕ) → b.outbox.size ≤ length buf → leaves b buf ≡ take b.outbox.size buf
leaves_long b buf h = rw (le-ltb (length buf) b.outbox.size h)

leaves-same : (b : Book) (buf : List ℕ) → Untouched b buf → leaves b buf ≡ b.ring
leaves-same b buf u =
    by_le b.outbox.size (length buf)
    (λ h. leaves_long b buf h ∙ u h)
    (λ h. rw (lt-ltb (length buf) b.outbox.size h))

-- only the outbox's own bytes count
content_own : (o : Outbox) (buf : List ℕ) → content o (take o.size buf) ≡ content o buf
content_own o buf = ap (λ (l : List ℕ). take o.used (turned (start o) l)) (take-take o.size o.size buf (omega arith))

content-lent : (b : Book) (buf : List ℕ) → b.outbox.size ≤ length buf → Untouched b buf → content b.outbox buf ≡ content b.outbox b.ring
content-lent b buf h u = sym (content_own b.outbox buf) ∙ ap (content b.outbox) (u h)

-- ---- a call that changes nothing

kept_same : (b : Book) → Kept b → {r : List ℕ} {xs : List (List ℕ)} {ss : List Post} → r ≡ b.ring → xs ≡ b.accepted → ss ≡ b.sent
    → Kept (record { outbox = b.outbox; ring = r; accepted = xs; sent = ss })
kept_same b k p q s = rw (p, q, s) k

kept_declined : (b : Book) → Kept b → (p buf : List ℕ) → Untouched b buf → (why : Refusal) → Kept (entered b p (declined why b.outbox buf))
kept_declined b k p buf u why = kept_same b k (leaves-same b buf u) (append-nil b.accepted) refl

kept_idle : (b : Book) → Kept b → (l : PPPoS) (buf : List ℕ) → Untouched b buf → (s : Send) → s.outbox ≡ b.outbox → s.count ≡ 0 → Kept (posted b l buf s)
kept_idle b k l buf u s e z =
    rw (e, z) (kept_same b k (leaves-same b buf u) refl (append-nil b.sent))

-- ---- a packet more

kept_more : (b : Book) → Kept b → (p buf : List ℕ) → Untouched b buf → b.outbox.size ≤ length buf → length p ≤ longest → is_full b.outbox (length p) ≡ false
    → Kept (entered b p (record { outcome = (Ok tt); outbox = grown b.outbox (length p); buf = placed b.outbox.size (start b.outbox) b.outbox.used (entry p) buf }))
kept_more b k p buf u h s f =
    rw (leaves_long b new (omega (arith, long)))
    (record {
      ring = length-take-le o.size new (omega (arith, long));
      small = k.small;
      gone = k.gone;
      framed = k.framed;
      waiting = k.waiting ++ (p ∷ []);
      bytes =
          content_own (grown o (length p)) new
          ∙ content-grown o buf p h fits
          ∙ ap (λ (l : List ℕ). l ++ entry p) (content-lent b buf h u ∙ k.bytes)
          ∙ sym (flat_snoc k.waiting p);
      count = omega (arith, k.count, length-append k.waiting (p ∷ []));
      used = omega (arith, k.used, ap length (flat_snoc k.waiting p), length-append (flat k.waiting) (entry p));
      room = omega (arith, fits);
      short = each_append (λ q. length q ≤ longest) k.waiting (p ∷ []) k.short (s, tt);
      front = k.front;
      all = sym (append_assoc k.gone k.waiting (p ∷ [])) ∙ ap (λ (l : List (List ℕ)). l ++ (p ∷ [])) k.all;
    })
  where
    o : Outbox
    o = b.outbox

    new : List ℕ
    new = placed o.size (start o) o.used (entry p) buf

    long : length new ≡ length buf
    long = length-placed o.size (start o) o.used (entry p) buf h (start_le o)

    fits : o.used + length (entry p) ≤ o.size
    fits = omega (arith, k.room, room_bytes o (length p) f)

kept_accepts : (b : Book) → Kept b → (p buf : List ℕ) → Untouched b buf → Kept (after b (Call.accepts p buf))
kept_accepts b k p buf u =
    accept_either b.outbox buf p (λ (a : Accept). Kept (entered b p a))
    (kept_declined b k p buf u)
    (λ h z s f. kept_more b k p buf u h s f)

-- ---- a packet less

framed_snoc : {ps : List (List ℕ)} {qs : List Post} → Framed ps qs → (p : List ℕ) (l : PPPoS) → l.ppp.ipv4cp.state ≡ Opened
    → Framed (ps ++ (p ∷ [])) (qs ++ (record { link = l; bytes = frame (remote_map l) (ip_frame p) } ∷ []))
framed_snoc Framed.none p l e = Framed.next p l e Framed.none
framed_snoc (Framed.next q m d f) p l e = Framed.next q m d (framed_snoc f p l e)

-- the bytes that the count covers are the frame
written-frame : (l : PPPoS) (p tx : List ℕ) → holds (remote_map l) (ip_frame p) (length tx) ≡ true
    → take (length (frame (remote_map l) (ip_frame p))) (written l p tx) ≡ frame (remote_map l) (ip_frame p)
written-frame l p tx t = rw t (take-append_seam (frame (remote_map l) (ip_frame p)) (drop (length (frame (remote_map l) (ip_frame p))) tx))

length_used : (o : Outbox) (buf : List ℕ) → o.size ≤ length buf → o.used ≤ o.size → length (content o buf) ≡ o.used
length_used o buf h r = length-take-le o.used (turned (start o) (take o.size buf)) (omega (arith, length_ring o buf h))

shrunk_room : (o : Outbox) (n : ℕ) → (shrunk o n).used ≤ o.size
shrunk_room o n = by_le o.held 1 (λ h. rw (le-leb o.held 1 h) (omega arith)) (λ h. rw (lt-leb o.held 1 h) (omega (arith, reach_le o)))

-- the packet in front is the oldest that waits
pub front_kept : (b : Book) (k : Kept b) (buf : List ℕ) → b.outbox.size ≤ length buf → Untouched b buf → {w : List ℕ} {ws : List (List ℕ)} → k.waiting ≡ w ∷ ws
    → front_in b.outbox buf ≡ w
front_kept b k buf h u {w} {ws} e = ap first (content-lent b buf h u ∙ k.bytes ∙ ap flat e) ∙ first_flat w ws

module _ (b : Book) (k : Kept b) (l : PPPoS) (buf tx : List ℕ) (u : Untouched b buf) (h : b.outbox.size ≤ length buf) (w : List ℕ) (ws : List (List ℕ)) (e : k.waiting ≡ w ∷ ws) where
  abbrev p : List ℕ
  p = front_in b.outbox buf

  abbrev next : Outbox
  next = shrunk b.outbox (length p)

  last : (xs : List (List ℕ)) → k.waiting ≡ w ∷ xs → b.outbox.held ≤ 1 → [] ≡ flat xs
  last [] q r = sym flat_nil
  last (x ∷ xs) q r = absurd (omega (arith, k.count, ap length q))

  moved : content next buf ≡ flat ws
  moved =
      by_le b.outbox.held 1
      (λ r. rw (le-leb b.outbox.held 1 r) (last ws e r))
      (λ r. content-shrunk b.outbox buf h r ∙ ap behind (content-lent b buf h u ∙ k.bytes ∙ ap flat e) ∙ behind_flat w ws)

  -- the front moves on by the packet and its length
  fronted : 0 < b.outbox.size → next.front ≡ takes (k.gone ++ (p ∷ [])) % b.outbox.size
  fronted z =
      let n = b.outbox.size in
      let s = kept_start b k z in
      let q : length p ≡ length w = ap length (front_kept b k buf h u e) in
      let g : gone b.outbox (length p) ≡ length p + 2 = gone_whole b.outbox (length p) (omega (arith, k.used, flat_takes k.waiting, ap takes e, takes_cons w ws)) k.room in
      let m : takes k.gone + (length p + 2) ≡ takes (k.gone ++ (p ∷ [])) = omega (arith, takes-append k.gone (p ∷ []), takes_cons p [], takes_nil) in
      ap₂ (λ (x y : ℕ). around n (x + y)) s g
      ∙ around_more n (takes k.gone) (length p + 2) z (omega (arith, gone_le b.outbox (length p), reach_le b.outbox))
      ∙ ap (λ (x : ℕ). x % n) m

  kept_less : up l ≡ true → holds (remote_map l) (ip_frame p) (length tx) ≡ true → Kept (posted b l buf (sent_first b.outbox l p tx))
  kept_less d t =
      rw (frame_some (remote_map l) (ip_frame p), leaves_long b buf h, written-frame l p tx t)
      (record {
        ring = length-take-le b.outbox.size buf h;
        small = k.small;
        gone = k.gone ++ (p ∷ []);
        framed = framed_snoc k.framed p l (up_opened l d);
        waiting = ws;
        bytes = content_own next buf ∙ moved;
        count = omega (arith, k.count, ap length e);
        used = sym (length_used next buf h (shrunk_room b.outbox (length p))) ∙ ap length moved;
        room = shrunk_room b.outbox (length p);
        short = (rw e at k.short).1;
        front = fronted;
        all =
            append_assoc k.gone (p ∷ []) ws
            ∙ ap (λ (x : List ℕ). k.gone ++ (x ∷ ws)) (front_kept b k buf h u e)
            ∙ ap (λ (x : List (List ℕ)). k.gone ++ x) (sym e)
            ∙ k.all;
      })

kept_sends : (b : Book) → Kept b → (l : PPPoS) (buf tx : List ℕ) → Untouched b buf → Kept (after b (Call.sends l buf tx))
kept_sends b k l buf tx u =
    send_cases b.outbox l buf tx (λ (s : Send). Kept (posted b l buf s))
    (λ h. kept_idle b k l buf u (record { outcome = Err BufferShort; count = 0; outbox = b.outbox; tx = tx }) refl refl)
    (λ h e. kept_idle b k l buf u (idle b.outbox tx) refl refl)
    (λ h some d t. kept_idle b k l buf u (kept_first b.outbox l (front_in b.outbox buf) tx) refl refl)
    (λ h some d t. go h some d t k.waiting refl)
  where
    go : b.outbox.size ≤ length buf → (b.outbox.held ≡ 0 → ⊥) → up l ≡ true → holds (remote_map l) (ip_frame (front_in b.outbox buf)) (length tx) ≡ true
        → (ws : List (List ℕ)) → k.waiting ≡ ws → Kept (posted b l buf (sent_first b.outbox l (front_in b.outbox buf) tx))
    go h some d t [] e = absurd (some (k.count ∙ ap length e))
    go h some d t (w ∷ ws) e = kept_less b k l buf tx u h w ws e d t

-- ---- one call

pub kept_after : (b : Book) → Kept b → (c : Call) → Untouched b (lent c) → Kept (after b c)
kept_after b k (Call.accepts p buf) u = kept_accepts b k p buf u
kept_after b k (Call.sends l buf tx) u = kept_sends b k l buf tx u

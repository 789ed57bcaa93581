-- What a reply and a list of options keep: short packets, room for what may still be listed, and the protocol.
-- Assumes nothing.
use Prim.Native.Nat.{ℕ, ◌+◌, ◌*◌, ◌≤◌}
use mathlib.Core.Path.{◌≡◌, refl, ◌∙◌}
use mathlib.Core.Bool.{Bool}
use mathlib.Core.List.{List, [], ◌++◌}
use borrow.Author.Tests.{ltb-false, leb-false}
use native.Mathlib.Omega.{arith}
use lib.Dec.{ltb, leb}
use lib.ListN.{length, length-append, length-take}
use Rattle.laws.proofs.Be.{length_be}
use Rattle.laws.proofs.Cases.{cond_by, cond_all}
use Rattle.options.specs.declared.walk.Reply.{Reply}
use Rattle.options.specs.declared.proto.Proto.{Proto}
use Rattle.options.specs.declared.proto.Proto.TheVariants.{Lcp, Ipv4cp}
use Rattle.options.specs.declared.proto.Verdict.{Verdict}
use Rattle.std.specs.Prelude.{Result, Ok}
use Rattle.options.specs.declared.refusal.Refusal.{Refusal}
use Rattle.options.specs.Refusal.{is_done}
use Rattle.options.specs.Wire.{max_packet, pkt_of, content_of, Tidy, packet_of}
use Rattle.options.specs.Options.{max_options, max_option_len, max_listed, field_size, max_own, own_field, Walk, done, cut, opt, opt_bytes, sent_back}
use Rattle.options.specs.Proto.{protocol_of, start_of, suggestion_of, judge_of, own_of, own_nacked, nacks_of}
use Rattle.options.specs.Reply.{rank_of, fresh_reply, listed_of, step_of, reply_of, Ready}
use Rattle.options.proofs.Wires.{tidy_pkt, len_pkt, tidy_of, len_of}
use Rattle.options.specs.declared.wire.Packet.{Packet}

abbrev pub Short : List ℕ → Type 0
Short l = length l ≤ max_packet

-- ---- lengths

pub length_packet : (p c i : ℕ) (d : List ℕ) → length (packet_of p c i d) ≡ length d + 6
length_packet p c i d = simp (length-append, length_be) (omega arith)

own_one : (t : Bool) (c v : ℕ) → length (own_field t c v) ≤ field_size
own_one t c v = cond_all (λ l. length l ≤ field_size) t (omega arith) (omega (arith, length_be 4 v))

pub own_short : (p : Proto) → length (own_of p) ≤ max_own
own_short (Lcp p) = omega (arith, own_one p.asyncmap_rej 2 p.asyncmap)
own_short (Ipv4cp p) =
    let a = own_one p.address.is_rejected 3 p.address.address in
    let b = own_one p.dns_server_1.is_rejected 129 p.dns_server_1.address in
    let c = own_one p.dns_server_2.is_rejected 131 p.dns_server_2.address in
    rw (length-append, length-append) (omega arith)

-- the own options in a packet
pub own_packet : (p : Proto) {q : Packet} → q ≡ pkt_of (own_of p) → (q ≡ pkt_of (own_of p)) × Tidy q × (q.len ≤ max_own)
own_packet p e = (e, tidy_of _ e, omega (arith, len_of _ e, own_short p))

-- ---- the reply to a request

-- a reply with room for what may still be listed, of the protocol with the number k
pub record Fair (k : ℕ) (r : Reply) : Type 0 where
  pub ready : Ready r
  pub kind : protocol_of r.proto ≡ k

module _ (k : ℕ) (r : Reply) (fair : Fair k r) where
  -- the list stays
  fair_kept : (o : Result Unit Refusal) (p : Proto) → protocol_of p ≡ k
      → Fair k (record { outcome = o; verdict = r.verdict; count = r.count; packet = r.packet; proto = p })
  fair_kept o p e = record { ready = record { tidy = fair.ready.tidy; most = fair.ready.most; room = fair.ready.room }; kind = e }

  fair_listed : (p : Proto) (v : Verdict) (c : ℕ) (d : List ℕ) → protocol_of p ≡ k → Fair k (listed_of r p v c d)
  unfolding listed_of
  fair_listed p v c d e =
      cond_all (Fair k) (ltb (rank_of v) (rank_of r.verdict)) (fair_kept _ p e)
      (cond_by (Fair k) (ltb max_option_len (length d)) (λ _. fair_kept _ _ fair.kind)
      (λ l. let h = ltb-false max_option_len (length d) l in
      cond_all (Fair k) (ltb (rank_of r.verdict) (rank_of v)) (listing 1 (opt_bytes c d) (omega arith) (omega arith))
      (cond_by (Fair k) (leb max_options r.count) (λ _. fair_kept _ _ fair.kind)
      (λ m. listing (r.count + 1) (content_of r.packet ++ opt_bytes c d) (omega (arith, leb-false max_options r.count m))
      (rw (length-append, length-take) (omega (arith, fair.ready.room)))))))
    where
      listing : (n : ℕ) (l : List ℕ) → n ≤ max_options → length l ≤ max_listed * n
          → Fair k (record { outcome = Ok tt; verdict = v; count = n; packet = pkt_of l; proto = p })
      listing n l h g = record { ready = record { tidy = tidy_pkt l; most = h; room = omega (arith, len_pkt l) }; kind = e }

judge_kind : (p : Proto) (c : ℕ) (d : List ℕ) → protocol_of (judge_of p c d).proto ≡ protocol_of p
judge_kind (Lcp p) c d = refl
judge_kind (Ipv4cp p) c d = refl

fair_step : (k : ℕ) (r : Reply) (c : ℕ) (d : List ℕ) → Fair k r → Fair k (step_of r c d)
unfolding step_of
fair_step k r c d fair =
    let j = judge_of r.proto c d in
    fair_listed k r fair j.proto j.verdict c (sent_back j.verdict d (suggestion_of r.proto)) (judge_kind r.proto c d ∙ fair.kind)

fair_reply : (k : ℕ) (r : Reply) (w : Walk) → Fair k r → Fair k (reply_of r w)
unfolding reply_of
fair_reply k r done fair = fair
fair_reply k r (cut at) fair = fair_kept k r fair _ _ fair.kind
fair_reply k r (opt c d w) fair =
    let step = fair_step k r c d fair in
    cond_all (Fair k) (is_done (step_of r c d).outcome) (fair_reply k (step_of r c d) w step) step

start_kind : (p : Proto) → protocol_of (start_of p) ≡ protocol_of p
start_kind (Lcp p) = refl
start_kind (Ipv4cp p) = refl

pub fair_answer : (p : Proto) (w : Walk) → Fair (protocol_of p) (reply_of (fresh_reply (start_of p)) w)
fair_answer p w =
    fair_reply (protocol_of p) (fresh_reply (start_of p)) w
    (record { ready = record { tidy = tidy_pkt []; most = omega arith; room = omega (arith, len_pkt []) }; kind = start_kind p })

-- ---- a Nack's or a Rej's options

nacked_kind : (p : Proto) (c : ℕ) (d : List ℕ) (rej : Bool) → protocol_of (own_nacked p c d rej) ≡ protocol_of p
unfolding own_nacked
nacked_kind (Lcp p) c d rej = refl
nacked_kind (Ipv4cp p) c d rej = refl

pub nacks_kind : (rej : Bool) (p : Proto) (w : Walk) → protocol_of (nacks_of rej p w).proto ≡ protocol_of p
unfolding nacks_of
nacks_kind rej p done = refl
nacks_kind rej p (cut at) = refl
nacks_kind rej p (opt c d w) = nacks_kind rej (own_nacked p c d rej) w ∙ nacked_kind p c d rej

-- received of ppp/mod.rs is what our link does with a packet.
-- Assumes nothing.
use mathlib.Core.Path.{◌≡◌, refl, ap}
use mathlib.Core.Bool.{true, false, cond, false≢true}
use mathlib.Core.List.{List, [], ◌∷◌}
use Prim.Native.Nat.{ℕ, ◌+◌, ◌≤◌, ◌<◌}
use native.Mathlib.Nat.{mod-lt}
use native.Mathlib.Omega.{arith}
use borrow.Author.Tests.{ltb-true, ltb-false}
use lib.Dec.{ltb, eqb, lit<}
use lib.ListN.{length, set}
use Rattle.std.specs.Prelude.{Ok, Err}
use Rattle.laws.specs.Each.{Bytes}
use Rattle.laws.proofs.Cases.{by_test, cond_both}
use Rattle.negotiation.specs.Messages.{max_rejected, next_id}
use Rattle.negotiation.specs.Automaton as ours
use Rattle.negotiation.specs.Auth.{AuthReaction}
use Rattle.options.specs.Wire.{max_packet, protocol_in}
use Rattle.negotiation.specs.Automaton.{protocol_reject_of}
use Rattle.phases.specs.Phases.{Turn, from_lcp, from_ipv4cp, reject_of, received_of, from_auth}
use Rattle.options.specs.declared.refusal.Refusal.TheVariants.{ReplyLong}
use Rattle.options.specs.declared.proto.Proto.TheVariants as proto
use Rattle.phases.specs.declared.ppp.Ppp as ppp
use Rattle.original.specs.Run.{Place, Run, returns, panics, ◌>>=◌}
use Rattle.original.specs.Wire.{Unknown, LCP, RawData, PPP, Packet, packet_len}
use Rattle.original.specs.Fsm.{Handled, packet_of}
use Rattle.original.specs.Protocols.{Lcp, lcp_protocol, Ipv4cp, ipv4cp_protocol, PapHandled}
use Rattle.original.specs.Ppp as theirs
use Rattle.original.specs.View.{view_lcp, view_ipv4cp, view_ppp}
use Rattle.original.specs.Panics.{RefusedAt}
use Rattle.original.proofs.Frames.{Carried, none, more}
use Rattle.original.proofs.Packets.{carries_ppp}
use Rattle.original.proofs.Automaton as automaton
use Rattle.original.proofs.Handle.{Same, handle-same}
use Rattle.original.proofs.Protocols.{lcp_stands, ipv4cp_stands}
use Rattle.original.proofs.Pap as pap

-- what our record can hold
pub record Held (p : ppp.Ppp) : Type 0 where
  pub lcp_id : p.lcp.id < 256
  pub ipv4cp_id : p.ipv4cp.id < 256
  pub auth : pap.Held p.auth

-- both leave the same and send the same; or the original gives a packet above 128 bytes, or panics, where ours refuses
pub data SameReceived (pkt : List ℕ) : Run theirs.Received → Turn → Type 0 where
  same : {r : theirs.Received} {t : Turn} → r.ppp ≡ view_ppp t.ppp → Held t.ppp → t.outcome ≡ Ok tt
      → r.pkt ≡ cond t.echoed (set pkt 2 10) pkt → (t.echoed ≡ true → 2 < length pkt) → Carried r.tx t.sent → SameReceived pkt (returns r) t
  long : {r : theirs.Received} {t : Turn} (q : Packet) → r.tx ≡ q ∷ [] → max_packet < packet_len q → t.outcome ≡ Err ReplyLong → SameReceived pkt (returns r) t
  stops : {p : Place} {t : Turn} → RefusedAt p t.outcome → SameReceived pkt (panics p) t

module _ (p : ppp.Ppp) (held : Held p) (pkt : List ℕ) where
  lcp_turn : (h : Run (Handled Lcp)) (t : ours.Reaction) → Same lcp_protocol proto.Lcp view_lcp lcp_stands pkt h t
      → SameReceived pkt (h >>= λ h. returns (record { ppp = theirs.with_lcp (view_ppp p) h.fsm; pkt = h.pkt; tx = h.tx })) (from_lcp p t)
  lcp_turn h t (automaton.same i s x small a b c d e f) =
      rw b (same (ap (theirs.with_lcp (view_ppp p)) a) (record { lcp_id = small; ipv4cp_id = held.ipv4cp_id; auth = held.auth }) c d e f)
  lcp_turn h t (automaton.long q a b c) = long q a b c
  lcp_turn h t (automaton.stops f) = stops f

  ipv4cp_turn : (h : Run (Handled Ipv4cp)) (t : ours.Reaction) → Same ipv4cp_protocol proto.Ipv4cp view_ipv4cp ipv4cp_stands pkt h t
      → SameReceived pkt (h >>= λ h. returns (record { ppp = theirs.with_ipv4cp (view_ppp p) h.fsm; pkt = h.pkt; tx = h.tx })) (from_ipv4cp p t)
  ipv4cp_turn h t (automaton.same i s x small a b c d e f) =
      rw b (same (ap (theirs.with_ipv4cp (view_ppp p)) a) (record { lcp_id = held.lcp_id; ipv4cp_id = small; auth = held.auth }) c d e f)
  ipv4cp_turn h t (automaton.long q a b c) = long q a b c
  ipv4cp_turn h t (automaton.stops f) = stops f

  pap_turn : (h : Run PapHandled) (t : AuthReaction) → pap.SamePap h t
      → SameReceived pkt (h >>= λ h. returns (record { ppp = theirs.with_pap (view_ppp p) h.pap; pkt = pkt; tx = h.tx })) (from_auth p t)
  pap_turn h t (pap.same a b c d) =
      same (ap (theirs.with_pap (view_ppp p)) a) (record { lcp_id = held.lcp_id; ipv4cp_id = held.ipv4cp_id; auth = b }) c refl (λ e. absurd (false≢true e)) d
  pap_turn h t (pap.stops f) = stops f

  reject-same : Bytes pkt → SameReceived pkt (theirs.received_by Unknown (view_ppp p) pkt) (reject_of p pkt)
  unfolding reject_of protocol_reject_of
  reject-same bytes =
      let i = next_id p.lcp.id in
      let q : Packet = packet_of lcp_protocol (PPP 8 i (RawData pkt)) in
      by_test (ltb max_rejected (length pkt))
      (λ t. rw t (long q refl (omega (arith, ltb-true max_rejected (length pkt) t)) refl))
      (λ t. rw t (same refl (record { lcp_id = next; ipv4cp_id = held.ipv4cp_id; auth = held.auth }) refl refl (λ e. absurd (false≢true e))
      (more (carries_ppp LCP 0xC021 8 i (RawData pkt) pkt refl (lit< tt) next refl refl bytes (omega (arith, ltb-false max_rejected (length pkt) t))) none)))
    where
      next : next_id p.lcp.id < 256
      next = mod-lt (p.lcp.id + 1) {m = 256} (lit< tt)

  -- an IPv4 packet and one under two bytes do not come here
  pub received-same : 2 ≤ length pkt → Bytes pkt → eqb (protocol_in pkt) 0x0021 ≡ false → SameReceived pkt (theirs.received (view_ppp p) pkt) (received_of p pkt)
  unfolding theirs.received received_of
  received-same long-enough bytes other =
      let n = protocol_in pkt in
      cond_both (SameReceived pkt) {t = ltb (length pkt) 2} refl (λ t. absurd (omega (arith, ltb-true (length pkt) 2 t)))
      (λ _. by_test (eqb n 0xC021)
      (λ t. rw t (lcp_turn _ _ (handle-same lcp_protocol proto.Lcp view_lcp lcp_stands p.lcp.id p.lcp.state p.lcp.proto pkt held.lcp_id bytes)))
      (λ t. rw t (by_test (eqb n 0xC023)
      (λ u. rw u (pap_turn _ _ (pap.pap-same p.auth held.auth pkt)))
      (λ u. rw (u, other) (by_test (eqb n 0x8021)
      (λ v. rw v (ipv4cp_turn _ _ (handle-same ipv4cp_protocol proto.Ipv4cp view_ipv4cp ipv4cp_stands p.ipv4cp.id p.ipv4cp.state p.ipv4cp.proto pkt held.ipv4cp_id bytes)))
      (λ v. rw v (reject-same bytes)))))))

-- Laws of the link's phases: how much a call sends, and what a refusal leaves.
-- Assumes nothing.
use mathlib.Core.Path.{◌≡◌, refl, ap, sym, ◌∙◌}
use mathlib.Core.Bool.{true}
use mathlib.Core.List.{List, [], ◌++◌, append-nil}
use Prim.Native.Nat.{ℕ, ◌≤◌}
use native.Mathlib.Omega.{arith}
use borrow.Author.Tests.{le-ltb}
use lib.Dec.{ltb, eqb}
use lib.ListN.{length}
use Rattle.laws.proofs.Cases.{cond_all}
use Rattle.options.specs.declared.refusal.Refusal.{Refusal}
use Rattle.std.specs.Prelude.{Ok, Err}
use Rattle.options.specs.declared.lcp.AuthType.{AuthType}
use Rattle.options.specs.declared.lcp.AuthType.TheVariants.{None}
use Rattle.options.specs.declared.lcp.AuthType.TheVariants as auth
use Rattle.negotiation.specs.declared.replies.Replies.{Replies}
use Rattle.options.specs.Refusal.{is_done}
use Rattle.options.specs.Wire.{protocol_in}
use Rattle.negotiation.specs.Replies.{max_replies, joined}
use Rattle.negotiation.specs.Automaton.{is_closed, is_opened}
use Rattle.negotiation.specs.Auth.{is_auth_opened}
use Rattle.negotiation.proofs.Auths.{auth_sends, auth_opened_sends}
use Rattle.negotiation.proofs.Joining.{join_replies}
use Rattle.negotiation.proofs.Sends.{Sends, sends_none, sends_both, handle-sends, reject-sends, opened-sends}
use Rattle.phases.specs.declared.ppp.Phase.{Phase}
use Rattle.phases.specs.declared.ppp.Phase.TheVariants.{Dead, Establish, Auth, Network, Open}
use Rattle.phases.specs.declared.ppp.Ppp.{Ppp}
use Rattle.phases.specs.declared.ppp.Turned.{Turned}
use Rattle.phases.specs.declared.phase.Stepped.{Stepped}
use Rattle.phases.specs.Phases.{lcp_in, ipv4cp_in, Turn, Step, turn_to, turn_refused, reject_of, received_of, by_auth, establish_of, auth_of, network_of, by_phase, phase_of, rests_of, poll_of, turn_of, as_turned, stepped_as, Turns}
use Rattle.phases.proofs.Resting.{rests_still}

-- ---- a turn, by its outcome

module _ (p : Ppp) (pkt : List ℕ) where
  pub turn_refused_lem : {why : Refusal} → (received_of p pkt).outcome ≡ Err why → turn_of p pkt ≡ turn_refused p why
  unfolding turn_of
  turn_refused_lem e = rw e refl

  pub turn_done : (received_of p pkt).outcome ≡ Ok tt
      → turn_of p pkt
      ≡ record {
        outcome = Ok tt;
        echoed = (received_of p pkt).echoed;
        ppp = (phase_of (received_of p pkt).ppp).ppp;
        sent = (received_of p pkt).sent ++ (phase_of (received_of p pkt).ppp).sent;
      }
  unfolding turn_of
  turn_done e = rw e refl

-- an IPv4 packet changes nothing, and a turn with it is a phase step alone
module _ (p : Ppp) (pkt : List ℕ) (h : 2 ≤ length pkt) (e : protocol_in pkt ≡ 0x0021) where
  pub received_ip_lem : received_of p pkt ≡ turn_to p []
  unfolding received_of
  received_ip_lem = rw (le-ltb (length pkt) 2 h, e) refl

  pub turn_ip : turn_of p pkt ≡ poll_of p
  unfolding turn_of
  turn_ip = rw received_ip_lem refl

-- ---- what a call sends

pub received_sends : (p : Ppp) (pkt : List ℕ) → Sends 2 (received_of p pkt).sent
unfolding received_of reject_of
received_sends p pkt =
    let P : Turn → Type 0 = λ t. Sends 2 t.sent in
    let n = protocol_in pkt in
    cond_all P (ltb (length pkt) 2) (sends_none 2)
    (cond_all P (eqb n 0xC021) (handle-sends (lcp_in p.lcp) pkt)
    (cond_all P (eqb n 0xC023) (auth_sends p.auth pkt)
    (cond_all P (eqb n 0x0021) (sends_none 2)
    (cond_all P (eqb n 0x8021) (handle-sends (ipv4cp_in p.ipv4cp) pkt)
    (reject-sends (lcp_in p.lcp) pkt)))))

by_auth_sends : (a : AuthType) (p : Ppp) → Sends 1 (by_auth a p).sent
by_auth_sends None p = opened-sends (ipv4cp_in p.ipv4cp)
by_auth_sends auth.Pap p = auth_opened_sends p.auth

by_phase_sends : (f : Phase) (p : Ppp) → Sends 1 (by_phase f p).sent
unfolding establish_of auth_of network_of
by_phase_sends Dead p = sends_none 1
by_phase_sends Establish p =
    let P : Step → Type 0 = λ s. Sends 1 s.sent in
    cond_all P (is_closed p.lcp.state) (opened-sends (lcp_in p.lcp))
    (cond_all P (is_opened p.lcp.state) (by_auth_sends p.lcp.proto.auth p) (sends_none 1))
by_phase_sends Auth p =
    cond_all (λ (s : Step). Sends 1 s.sent) (is_auth_opened p.auth) (opened-sends (ipv4cp_in p.ipv4cp)) (sends_none 1)
by_phase_sends Network p = sends_none 1
by_phase_sends Open p = sends_none 1

pub phase_sends : (p : Ppp) → Sends 1 (phase_of p).sent
unfolding phase_of
phase_sends p = by_phase_sends p.phase p

pub poll_sends : (p : Ppp) → Sends 1 (poll_of p).sent
poll_sends = phase_sends

pub turn_sends : (p : Ppp) (pkt : List ℕ) → Sends max_replies (turn_of p pkt).sent
unfolding turn_of
turn_sends p pkt =
    let t = received_of p pkt in
    cond_all (λ (x : Turn). Sends max_replies x.sent) (is_done t.outcome)
    (sends_both t.sent (phase_of t.ppp).sent (received_sends p pkt) (phase_sends t.ppp)) (sends_none max_replies)

-- ---- a turn as the code puts it together

module _ (p : Ppp) (pkt : List ℕ) {t : Turned} (et : t ≡ as_turned (received_of p pkt)) where
  pub turns_refused : {why : Refusal} {r : Turned} → t.outcome ≡ Err why → r ≡ as_turned (turn_refused p why)
      → Turns (turn_of p pkt) r.outcome r.echoed r.ppp r.replies
  turns_refused eo er =
      rw (turn_refused_lem p pkt (sym (ap (λ (x : Turned). x.outcome) et) ∙ eo), er) (record { outcome = refl; echoed = refl; ppp = refl; replies = refl })

  pub turns_rested : t.outcome ≡ Ok tt → rests_of t.ppp ≡ true → Turns (turn_of p pkt) t.outcome t.echoed t.ppp t.replies
  turns_rested eo e =
      let s = rests_still (received_of p pkt).ppp (sym (ap (λ (x : Turned). rests_of x.ppp) et) ∙ e) in
      let o = sym (ap (λ (x : Turned). x.outcome) et) ∙ eo in
      rw (turn_done p pkt o, et, s, append-nil) (record { outcome = o; echoed = refl; ppp = refl; replies = refl })

  pub turns-done : {s : Stepped} {rs : Replies} → t.outcome ≡ Ok tt → s ≡ stepped_as (phase_of t.ppp) → rs ≡ joined t.replies s.replies
      → Turns (turn_of p pkt) t.outcome t.echoed s.ppp rs
  turns-done {s} eo es er =
      let e : s ≡ stepped_as (phase_of (received_of p pkt).ppp) = es ∙ ap (λ (x : Turned). stepped_as (phase_of x.ppp)) et in
      let o = sym (ap (λ (x : Turned). x.outcome) et) ∙ eo in
      rw (turn_done p pkt o, er, e, et) (record { outcome = o; echoed = refl; ppp = refl; replies = join_replies (received_of p pkt).sent _ (omega (arith, (received_sends p pkt).few)) (phase_sends _).few })

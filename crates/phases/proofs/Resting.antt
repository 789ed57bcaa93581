-- Where a phase step does nothing.
-- Assumes nothing.
use mathlib.Core.Path.{◌≡◌, refl, ap, sym, ◌∙◌}
use mathlib.Core.Bool.{true, false, not}
use mathlib.Core.List.{[]}
use borrow.Author.Tests.{not-true}
use Rattle.laws.proofs.Cases.{both}
use Rattle.negotiation.specs.Automaton.{is_closed, is_opened}
use Rattle.negotiation.specs.Auth.{is_auth_closed, is_auth_opened}
use Rattle.negotiation.proofs.Auths.{closes-same}
use Rattle.negotiation.proofs.StateTable.{is_closed_lem}
use Rattle.phases.specs.declared.ppp.Phase.{Phase}
use Rattle.phases.specs.declared.ppp.Phase.TheVariants.{Dead, Establish, Auth, Network, Open}
use Rattle.phases.specs.declared.ppp.Ppp.{Ppp}
use Rattle.phases.specs.Phases.{with_phase, with_auth, with_ipv4cp, step_to, closes_ipv4cp, closes_auth, establish_of, auth_of, network_of, dies_of, phase_of, rests_in, rests_of}

closes_ipv4cp_lem : (p : Ppp) → is_closed p.ipv4cp.state ≡ true → closes_ipv4cp p ≡ p
closes_ipv4cp_lem p e i = with_ipv4cp p (record { id = p.ipv4cp.id; state = sym (is_closed_lem p.ipv4cp.state e) i; proto = p.ipv4cp.proto })

closes_auth_lem : (p : Ppp) → is_auth_closed p.auth ≡ true → closes_auth p ≡ p
closes_auth_lem p e i = with_auth p (closes-same p.auth e i)

-- the phase is an argument of its own, to be taken by cases
still_in : (f : Phase) (p : Ppp) → rests_in f p.lcp.state (is_auth_closed p.auth) (is_auth_opened p.auth) p.ipv4cp.state ≡ true → dies_of p ≡ false
    → phase_of (with_phase p f) ≡ step_to (with_phase p f) []
unfolding phase_of establish_of auth_of network_of
still_in Dead p e a = rw a refl
still_in Establish p e a =
    let i = both _ (is_closed p.ipv4cp.state) e in
    let s = both _ (is_auth_closed p.auth) i.0 in
    let l = both _ (not (is_opened p.lcp.state)) s.0 in
    let q = with_phase p Establish in
    rw (not-true (is_closed p.lcp.state) l.0, not-true (is_opened p.lcp.state) l.1, a) (ap (λ (r : Ppp). step_to r []) (closes_ipv4cp_lem (closes_auth q) i.1 ∙ closes_auth_lem q s.1))
still_in Auth p e a =
    let o = both (not (is_auth_opened p.auth)) _ e in
    rw (not-true (is_auth_opened p.auth) o.0, a) (ap (λ (r : Ppp). step_to r []) (closes_ipv4cp_lem (with_phase p Auth) o.1))
still_in Network p e a = rw (not-true (is_opened p.ipv4cp.state) e, a) refl
still_in Open p e a = rw a refl

pub rests_still : (p : Ppp) → rests_of p ≡ true → phase_of p ≡ step_to p []
unfolding rests_of
rests_still p e = let h = both (rests_in p.phase p.lcp.state (is_auth_closed p.auth) (is_auth_opened p.auth) p.ipv4cp.state) _ e in still_in p.phase p h.0 (not-true _ h.1)

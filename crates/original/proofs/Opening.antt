-- What poll of ppp/mod.rs is made of: opening, closing and the last test, each as ours.
-- Assumes nothing.
use mathlib.Core.Path.{◌≡◌, refl, ap, sym, ◌∙◌}
use mathlib.Core.Bool.{false, not, ◌&&◌}
use mathlib.Core.List.{List}
use Prim.Native.Nat.{ℕ}
use Rattle.laws.proofs.Cases.{cond_ap, cond_all}
use Rattle.negotiation.specs.Messages.{next_id}
use Rattle.negotiation.specs.Automaton.{is_closed}
use Rattle.negotiation.specs.Auth.{is_auth_opened, closed_auth}
use Rattle.phases.specs.Phases as ours
use Rattle.options.specs.declared.lcp.Lcp as lcp
use Rattle.options.specs.declared.ipv4cp.Ipv4cp as ipv4cp
use Rattle.options.specs.declared.proto.Proto.TheVariants as proto
use Rattle.negotiation.specs.declared.states.State.{State}
use Rattle.negotiation.specs.declared.states.State.TheVariants.{Closed, ReqSent, AckReceived, AckSent, Opened}
use Rattle.negotiation.specs.declared.pap.PapState as pap_state
use Rattle.negotiation.specs.declared.auth.Auth as auth
use Rattle.phases.specs.declared.ppp.Phase.TheVariants.{Dead}
use Rattle.phases.specs.declared.ppp.Ppp as ppp
use Rattle.phases.proofs.Sounds.{Ready}
use Rattle.original.specs.Run.{Place, Run, returns, panics, fsm_open}
use Rattle.original.specs.Wire.{Packet, Options, PPP}
use Rattle.original.specs.Fsm as fsm
use Rattle.original.specs.Protocols.{lcp_protocol, ipv4cp_protocol, is_pap_opened}
use Rattle.original.specs.Ppp as theirs
use Rattle.original.specs.View.{view_pap_state, view_lcp, view_ipv4cp, view_ppp}
use Rattle.original.specs.Panics.{Asserts, as_if_closed}
use Rattle.original.proofs.Frames.{Carried}
use Rattle.original.proofs.Automaton.{request-sent}
use Rattle.original.proofs.Handle.{closed_is}
use Rattle.original.proofs.Protocols.{lcp_stands, ipv4cp_stands}
use Rattle.original.proofs.Received.{Held}

-- a step of the original leaves and sends what ours does
pub record Steps (s : theirs.Polled) (t : ours.Step) : Type 0 where
  pub ppp : s.ppp ≡ view_ppp t.ppp
  pub held : Held t.ppp
  pub carried : Carried s.tx t.sent

pub data SamePhase (p : ppp.Ppp) : Run theirs.Polled → Type 0 where
  same : {s : theirs.Polled} → Steps s (ours.phase_of p) → SamePhase p (returns s)
  asserts : {place : Place} → (Ready p → ⊥) → (a : Asserts place) {s : theirs.Polled} → theirs.poll_ppp (as_if_closed a (view_ppp p)) ≡ returns s → Steps s (ours.phase_of p) → SamePhase p (panics place)

-- ---- opening and closing

unfoldable pub lcp_packet : ℕ → lcp.Lcp → Packet
lcp_packet i x = fsm.packet_of lcp_protocol (PPP 1 (next_id i) (Options (lcp_stands.own x).opts))

unfoldable pub ipv4cp_packet : ℕ → ipv4cp.Ipv4cp → Packet
ipv4cp_packet i x = fsm.packet_of ipv4cp_protocol (PPP 1 (next_id i) (Options (ipv4cp_stands.own x).opts))

pub open_lcp_lem : (i : ℕ) (x : lcp.Lcp)
    → fsm.open_fsm lcp_protocol (record { id = i; state = fsm.Closed; proto = view_lcp x }) ≡ returns (record { fsm = record { id = next_id i; state = fsm.ReqSent; proto = view_lcp x }; packet = lcp_packet i x })
unfolding fsm.open_fsm lcp_packet
open_lcp_lem i x = request-sent lcp_protocol proto.Lcp view_lcp lcp_stands i ReqSent x

pub open_ipv4cp_lem : (i : ℕ) (x : ipv4cp.Ipv4cp)
    → fsm.open_fsm ipv4cp_protocol (record { id = i; state = fsm.Closed; proto = view_ipv4cp x }) ≡ returns (record { fsm = record { id = next_id i; state = fsm.ReqSent; proto = view_ipv4cp x }; packet = ipv4cp_packet i x })
unfolding fsm.open_fsm ipv4cp_packet
open_ipv4cp_lem i x = request-sent ipv4cp_protocol proto.Ipv4cp view_ipv4cp ipv4cp_stands i ReqSent x

-- not Closed: the assert
pub opens_not : {P : Type 0} (T : fsm.Protocol P) (f : fsm.OptionFsm P) → fsm.is_closed f.state ≡ false → fsm.open_fsm T f ≡ panics fsm_open
unfolding fsm.open_fsm
opens_not T f e = rw e refl

pub auth_opened_is : (a : auth.Auth) → is_pap_opened (view_pap_state a.pap.state) ≡ is_auth_opened a
unfolding is_auth_opened
auth_opened_is a = go a.pap.state refl
  where
    go : (s : pap_state.PapState) → a.pap.state ≡ s → is_pap_opened (view_pap_state a.pap.state) ≡ is_auth_opened a
    go pap_state.TheVariants.Closed e = rw e refl
    go pap_state.TheVariants.ReqSent e = rw e refl
    go pap_state.TheVariants.Opened e = rw e refl

settle_is : (q : ppp.Ppp) → theirs.settle (view_ppp q) ≡ view_ppp (ours.settled q)
settle_is q = rw (closed_is q.lcp.state) (sym (cond_ap view_ppp (is_closed q.lcp.state && not q.opening) (ours.with_phase q Dead) q))

settled-held : (q : ppp.Ppp) → Held q → Held (ours.settled q)
settled-held q h = cond_all Held (is_closed q.lcp.state && not q.opening) (record { lcp_id = h.lcp_id; ipv4cp_id = h.ipv4cp_id; auth = h.auth }) h

-- where a step before the last test has come to
pub ends : (q : ppp.Ppp) {tx : List Packet} {sent : List (List ℕ)} → Held q → Carried tx sent
    → Steps (record { ppp = theirs.settle (view_ppp q); tx = tx }) (ours.step_to (ours.settled q) sent)
ends q h c = record { ppp = settle_is q; held = settled-held q h; carried = c }

shut_pap_lem : (q : ppp.Ppp) → theirs.shut_pap (view_ppp q) ≡ view_ppp (ours.closes_auth q)
unfolding closed_auth
shut_pap_lem q = go q.auth.pap.state refl
  where
    go : (s : pap_state.PapState) → q.auth.pap.state ≡ s → theirs.shut_pap (view_ppp q) ≡ view_ppp (ours.closes_auth q)
    go pap_state.TheVariants.Closed e = rw e refl
    go pap_state.TheVariants.ReqSent e = rw e refl
    go pap_state.TheVariants.Opened e = rw e refl

pub shut_ipv4cp_lem : (q : ppp.Ppp) → theirs.shut_ipv4cp (view_ppp q) ≡ view_ppp (ours.closes_ipv4cp q)
shut_ipv4cp_lem q = go q.ipv4cp.state refl
  where
    go : (s : State) → q.ipv4cp.state ≡ s → theirs.shut_ipv4cp (view_ppp q) ≡ view_ppp (ours.closes_ipv4cp q)
    go Closed e = rw e refl
    go ReqSent e = rw e refl
    go AckReceived e = rw e refl
    go AckSent e = rw e refl
    go Opened e = rw e refl

pub shut_both : (q : ppp.Ppp) → theirs.shut_ipv4cp (theirs.shut_pap (view_ppp q)) ≡ view_ppp (ours.closes_ipv4cp (ours.closes_auth q))
shut_both q = ap theirs.shut_ipv4cp (shut_pap_lem q) ∙ shut_ipv4cp_lem (ours.closes_auth q)

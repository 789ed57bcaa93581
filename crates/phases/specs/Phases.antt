-- The link's phases (document 01, 'Negotiation'; ppp/mod.rs): a received packet, one phase step, and what shows of the state.
use Rattle.std.specs.Prelude.{◌≡◌, Bool, true, false, cond, not, ◌&&◌, List, [], ◌++◌, ℕ, ltb, eqb, length, Result, Ok, Err}
use Rattle.std.specs.Prelude as prelude
use Rattle.options.specs.Refusal.{is_done}
use Rattle.options.specs.Wire.{protocol_in}
use Rattle.negotiation.specs.Replies.{replies_of}
use Rattle.options.specs.Lcp.{fresh_lcp}
use Rattle.options.specs.Ipv4cp.{fresh_ipv4cp, shown, shown_ip}
use Rattle.negotiation.specs.Wrapping.{lcp_or, ipv4cp_or}
use Rattle.negotiation.specs.Automaton.{is_closed, is_opened, Reaction, handle_of, protocol_reject_of, opened_fsm}
use Rattle.negotiation.specs.Credentials.{fits_credentials, credentials_with}
use Rattle.negotiation.specs.Auth.{auth_with, is_auth_closed, is_auth_opened, AuthReaction, auth_handle_of, opened_auth, closed_auth}
use Rattle.options.specs.declared.refusal.Refusal.{Refusal}
use Rattle.options.specs.declared.refusal.Refusal.TheVariants.{NotDead, CredentialsLong, PacketShort}
use Rattle.negotiation.specs.declared.replies.Replies.{Replies}
use Rattle.options.specs.declared.proto.Proto.{Proto}
use Rattle.options.specs.declared.proto.Proto.TheVariants as proto
use Rattle.options.specs.declared.lcp.Lcp.{Lcp}
use Rattle.options.specs.declared.lcp.AuthType.{AuthType}
use Rattle.options.specs.declared.lcp.AuthType.TheVariants.{None, Pap}
use Rattle.options.specs.declared.ipv4cp.Ipv4cp.{Ipv4cp}
use Rattle.negotiation.specs.declared.states.State.{State}
use Rattle.negotiation.specs.declared.states.State.TheVariants.{Closed}
use Rattle.negotiation.specs.declared.option_fsm.OptionFsm.{OptionFsm}
use Rattle.negotiation.specs.declared.replies.Handled.{Handled}
use Rattle.negotiation.specs.declared.auth.Auth as auth
use Rattle.phases.specs.declared.ppp.Phase.{Phase}
use Rattle.phases.specs.declared.ppp.Phase.TheVariants.{Dead, Establish, Auth, Network, Open}
use Rattle.phases.specs.declared.ppp.Ppp.{Ppp}
use Rattle.phases.specs.declared.ppp.Addresses.{Addresses}
use Rattle.phases.specs.declared.ppp.Status.{Status}
use Rattle.phases.specs.declared.phase.Stepped.{Stepped}
use Rattle.phases.specs.declared.ppp.Turned.{Turned}

-- ---- the record

abbrev pub fresh_with : auth.Auth → Ppp
fresh_with a =
    record {
      phase = Dead;
      opening = false;
      lcp = record { id = 1; state = Closed; proto = fresh_lcp };
      auth = a;
      ipv4cp = record { id = 1; state = Closed; proto = fresh_ipv4cp };
    }

abbrev pub fresh_ppp : List ℕ → List ℕ → Ppp
fresh_ppp name password = fresh_with (auth_with (credentials_with name password))

abbrev pub with_phase : Ppp → Phase → Ppp
with_phase p f = record { phase = f; opening = p.opening; lcp = p.lcp; auth = p.auth; ipv4cp = p.ipv4cp }

abbrev pub with_opening : Ppp → Bool → Ppp
with_opening p o = record { phase = p.phase; opening = o; lcp = p.lcp; auth = p.auth; ipv4cp = p.ipv4cp }

abbrev pub with_lcp : Ppp → OptionFsm Lcp → Ppp
with_lcp p a = record { phase = p.phase; opening = p.opening; lcp = a; auth = p.auth; ipv4cp = p.ipv4cp }

abbrev pub with_auth : Ppp → auth.Auth → Ppp
with_auth p a = record { phase = p.phase; opening = p.opening; lcp = p.lcp; auth = a; ipv4cp = p.ipv4cp }

abbrev pub with_ipv4cp : Ppp → OptionFsm Ipv4cp → Ppp
with_ipv4cp p a = record { phase = p.phase; opening = p.opening; lcp = p.lcp; auth = p.auth; ipv4cp = a }

-- an automaton for the step, and back
abbrev pub lcp_in : OptionFsm Lcp → OptionFsm Proto
lcp_in a = record { id = a.id; state = a.state; proto = proto.Lcp a.proto }

abbrev pub lcp_out : OptionFsm Proto → OptionFsm Lcp → OptionFsm Lcp
lcp_out f a = record { id = f.id; state = f.state; proto = lcp_or f.proto a.proto }

abbrev pub ipv4cp_in : OptionFsm Ipv4cp → OptionFsm Proto
ipv4cp_in a = record { id = a.id; state = a.state; proto = proto.Ipv4cp a.proto }

abbrev pub ipv4cp_out : OptionFsm Proto → OptionFsm Ipv4cp → OptionFsm Ipv4cp
ipv4cp_out f a = record { id = f.id; state = f.state; proto = ipv4cp_or f.proto a.proto }

-- ---- what a call leaves

-- the outcome, whether the packet's code becomes 10, the record, and the packets sent, in order
pub record Turn : Type 0 where
  pub outcome : Result Unit Refusal
  pub echoed : Bool
  pub ppp : Ppp
  pub sent : List (List ℕ)

abbrev pub turn_to : Ppp → List (List ℕ) → Turn
turn_to p ps = record { outcome = Ok tt; echoed = false; ppp = p; sent = ps }

abbrev pub turn_refused : Ppp → Refusal → Turn
turn_refused p why = record { outcome = Err why; echoed = false; ppp = p; sent = [] }

-- ---- a received packet, by its protocol

abbrev pub from_lcp : Ppp → Reaction → Turn
from_lcp p t = record { outcome = t.outcome; echoed = t.echoed; ppp = with_lcp p (lcp_out t.fsm p.lcp); sent = t.sent }

abbrev pub from_ipv4cp : Ppp → Reaction → Turn
from_ipv4cp p t = record { outcome = t.outcome; echoed = t.echoed; ppp = with_ipv4cp p (ipv4cp_out t.fsm p.ipv4cp); sent = t.sent }

abbrev pub from_auth : Ppp → AuthReaction → Turn
from_auth p t = record { outcome = t.outcome; echoed = false; ppp = with_auth p t.auth; sent = t.sent }

-- Protocol-Reject goes out under LCP's id, in every phase
unfoldable pub reject_of : Ppp → List ℕ → Turn
reject_of p pkt = from_lcp p (protocol_reject_of (lcp_in p.lcp) pkt)

-- an IPv4 packet is the link's to hand out, and changes nothing here
unfoldable pub received_of : Ppp → List ℕ → Turn
received_of p pkt =
    cond (ltb (length pkt) 2) (turn_refused p PacketShort)
    (cond (eqb (protocol_in pkt) 0xC021) (from_lcp p (handle_of (lcp_in p.lcp) pkt))
    (cond (eqb (protocol_in pkt) 0xC023) (from_auth p (auth_handle_of p.auth pkt))
    (cond (eqb (protocol_in pkt) 0x0021) (turn_to p [])
    (cond (eqb (protocol_in pkt) 0x8021) (from_ipv4cp p (handle_of (ipv4cp_in p.ipv4cp) pkt))
    (reject_of p pkt)))))

-- ---- one phase step

-- the record, and what it sends
pub record Step : Type 0 where
  pub ppp : Ppp
  pub sent : List (List ℕ)

abbrev pub step_to : Ppp → List (List ℕ) → Step
step_to p ps = record { ppp = p; sent = ps }

abbrev pub opens_lcp : Ppp → Step
opens_lcp p =
    step_to (with_opening (with_lcp p (lcp_out (opened_fsm (lcp_in p.lcp)).fsm p.lcp)) false)
    (opened_fsm (lcp_in p.lcp)).sent

abbrev pub opens_ipv4cp : Ppp → Step
opens_ipv4cp p =
    step_to (with_phase (with_ipv4cp p (ipv4cp_out (opened_fsm (ipv4cp_in p.ipv4cp)).fsm p.ipv4cp)) Network)
    (opened_fsm (ipv4cp_in p.ipv4cp)).sent

abbrev pub opens_auth : Ppp → Step
opens_auth p = step_to (with_phase (with_auth p (opened_auth p.auth).auth) Auth) (opened_auth p.auth).sent

abbrev pub closes_ipv4cp : Ppp → Ppp
closes_ipv4cp p = with_ipv4cp p (record { id = p.ipv4cp.id; state = Closed; proto = p.ipv4cp.proto })

abbrev pub closes_auth : Ppp → Ppp
closes_auth p = with_auth p (closed_auth p.auth)

abbrev pub by_auth : AuthType → Ppp → Step
by_auth None p = opens_ipv4cp p
by_auth Pap p = opens_auth p

-- an LCP that is Closed is opened, so it is not Opened in the same step
unfoldable pub establish_of : Ppp → Step
establish_of p =
    cond (is_closed p.lcp.state) (step_to (closes_ipv4cp (closes_auth (opens_lcp p).ppp)) (opens_lcp p).sent)
    (cond (is_opened p.lcp.state) (by_auth p.lcp.proto.auth p)
    (step_to (closes_ipv4cp (closes_auth p)) []))

unfoldable pub auth_of : Ppp → Step
auth_of p = cond (is_auth_opened p.auth) (opens_ipv4cp p) (step_to (closes_ipv4cp p) [])

unfoldable pub network_of : Ppp → Step
network_of p = step_to (cond (is_opened p.ipv4cp.state) (with_phase p Open) p) []

abbrev pub by_phase : Phase → Ppp → Step
by_phase Dead p = step_to p []
by_phase Establish p = establish_of p
by_phase Auth p = auth_of p
by_phase Network p = network_of p
by_phase Open p = step_to p []

-- where LCP is Closed and is not being opened, the link is dead
abbrev pub dies_of : Ppp → Bool
dies_of p = is_closed p.lcp.state && not p.opening

abbrev pub settled : Ppp → Ppp
settled p = cond (dies_of p) (with_phase p Dead) p

unfoldable pub phase_of : Ppp → Step
phase_of p = step_to (settled (by_phase p.phase p).ppp) (by_phase p.phase p).sent

-- by the state of LCP, whether authentication is Closed or Opened, and the state of IPv4CP
abbrev pub rests_in : Phase → State → Bool → Bool → State → Bool
rests_in Dead l shut up i = true
rests_in Establish l shut up i = not (is_closed l) && not (is_opened l) && shut && is_closed i
rests_in Auth l shut up i = not up && is_closed i
rests_in Network l shut up i = not (is_opened i)
rests_in Open l shut up i = true

-- a step finds nothing to open or close, and the link does not die
unfoldable pub rests_of : Ppp → Bool
rests_of p = rests_in p.phase p.lcp.state (is_auth_closed p.auth) (is_auth_opened p.auth) p.ipv4cp.state && not (dies_of p)

-- ---- the calls

abbrev pub poll_of : Ppp → Turn
poll_of p = turn_to (phase_of p).ppp (phase_of p).sent

abbrev then_phase : Ppp → Turn → Turn
then_phase p t =
    cond (is_done t.outcome)
    (record { outcome = Ok tt; echoed = t.echoed; ppp = (phase_of t.ppp).ppp; sent = t.sent ++ (phase_of t.ppp).sent })
    (record { outcome = t.outcome; echoed = false; ppp = p; sent = [] })

-- one received packet, then one phase step; a refusal leaves all as it was
unfoldable pub turn_of : Ppp → List ℕ → Turn
turn_of p pkt = then_phase p (received_of p pkt)

abbrev pub is_dead : Phase → Bool
is_dead Dead = true
is_dead Establish = false
is_dead Auth = false
is_dead Network = false
is_dead Open = false

abbrev pub open_of : Ppp → Turn
open_of p = cond (is_dead p.phase) (turn_to (with_opening (with_phase p Establish) true) []) (turn_refused p NotDead)

-- credentials that do not fit: a fresh record with both empty
abbrev pub new_of : List ℕ → List ℕ → Turn
new_of name password =
    cond (fits_credentials (length name) (length password))
    (turn_to (fresh_ppp name password) [])
    (turn_refused (fresh_ppp [] []) CredentialsLong)

-- the addresses that IPv4CP has
abbrev pub addresses_of : Ipv4cp → Addresses
addresses_of i =
    record {
      address = shown_ip i.address;
      peer_address = shown i.peer_address;
      dns_server_1 = shown_ip i.dns_server_1;
      dns_server_2 = shown_ip i.dns_server_2;
    }

-- what shows: the addresses only where IPv4CP is Opened
abbrev pub status_of : Ppp → Status
status_of p =
    record { phase = p.phase; ipv4 = cond (is_opened p.ipv4cp.state) (prelude.Some (addresses_of p.ipv4cp.proto)) prelude.None }

-- ---- as the code holds it

abbrev pub as_turned : Turn → Turned
as_turned t = record { outcome = t.outcome; echoed = t.echoed; ppp = t.ppp; replies = replies_of t.sent }

-- what a step comes to, where the record p has what it left
abbrev pub turned_by : {S : Type 0} → Ppp → Handled S → Turned
turned_by p h = record { outcome = h.outcome; echoed = h.echoed; ppp = p; replies = h.replies }

-- what a step of LCP's automaton comes to
abbrev pub lcp_taken : Ppp → Handled (OptionFsm Proto) → Turned
lcp_taken p h = turned_by (with_lcp p (lcp_out h.left p.lcp)) h

abbrev pub stepped_as : Step → Stepped
stepped_as s = record { ppp = s.ppp; replies = replies_of s.sent }

-- ---- what the calls promise

-- a call that changes the record: its outcome and the record
pub record Changes (t : Turn) (o : Result Unit Refusal) (p : Ppp) : Type 0 where
  pub outcome : o ≡ t.outcome
  pub ppp : p ≡ t.ppp

-- a call that may send: also whether an echo was answered, and the packets
pub record Turns (t : Turn) (o : Result Unit Refusal) (e : Bool) (p : Ppp) (rs : Replies) : Type 0 where
  pub outcome : o ≡ t.outcome
  pub echoed : e ≡ t.echoed
  pub ppp : p ≡ t.ppp
  pub replies : rs ≡ replies_of t.sent

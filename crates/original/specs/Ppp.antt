-- ppp/mod.rs.
use Rattle.std.specs.Prelude.{Bool, true, false, cond, not, ◌&&◌, List, [], ◌∷◌, ◌++◌, ℕ, ltb, length, take}
use Rattle.laws.specs.Be.{be_of}
use Rattle.original.specs.Run.{Run, returns, panics, received_slice, received_ip, ◌>>=◌, Result, ok, err}
use Rattle.original.specs.Wire.{ProtocolType, Unknown, LCP, PAP, IPv4, IPv4CP, protocol_from, Packet}
use Rattle.original.specs.Fsm.{is_closed, is_opened, OptionFsm, new_fsm, handle, open_fsm, close_fsm, send_protocol_reject}
use Rattle.original.specs.Protocols.{AuthType, AuthNone, AuthPap, Lcp, new_lcp, lcp_protocol, Ipv4cp, new_ipv4cp, ipv4cp_protocol, Ipv4Status, ipv4_status, is_pap_closed, is_pap_opened, Pap, new_pap, open_pap, close_pap, handle_pap}

pub data Phase : Type 0 where
  Dead Establish Auth Network Open : Phase

pub record Ppp : Type 0 where
  pub phase : Phase
  pub opening : Bool
  pub lcp : OptionFsm Lcp
  pub pap : Pap
  pub ipv4cp : OptionFsm Ipv4cp

-- PPP::new
abbrev pub new_ppp : List ℕ → List ℕ → Run Ppp
new_ppp username password = do
  pap ← new_pap username password
  returns (record { phase = Dead; opening = false; lcp = new_fsm lcp_protocol new_lcp; pap = pap; ipv4cp = new_fsm ipv4cp_protocol new_ipv4cp })

-- Option<Ipv4Status>
pub data Ipv4 : Type 0 where
  Down : Ipv4
  Up : Ipv4Status → Ipv4

pub record Status : Type 0 where
  pub phase : Phase
  pub ipv4 : Ipv4

-- PPP::status
abbrev pub status : Ppp → Status
status p = record { phase = p.phase; ipv4 = cond (is_opened p.ipv4cp.state) (Up (ipv4_status p.ipv4cp.proto)) Down }

abbrev pub with_phase : Ppp → Phase → Ppp
with_phase p f = record { phase = f; opening = p.opening; lcp = p.lcp; pap = p.pap; ipv4cp = p.ipv4cp }

abbrev pub with_opening : Ppp → Bool → Ppp
with_opening p o = record { phase = p.phase; opening = o; lcp = p.lcp; pap = p.pap; ipv4cp = p.ipv4cp }

abbrev pub with_lcp : Ppp → OptionFsm Lcp → Ppp
with_lcp p a = record { phase = p.phase; opening = p.opening; lcp = a; pap = p.pap; ipv4cp = p.ipv4cp }

abbrev pub with_pap : Ppp → Pap → Ppp
with_pap p a = record { phase = p.phase; opening = p.opening; lcp = p.lcp; pap = a; ipv4cp = p.ipv4cp }

abbrev pub with_ipv4cp : Ppp → OptionFsm Ipv4cp → Ppp
with_ipv4cp p a = record { phase = p.phase; opening = p.opening; lcp = p.lcp; pap = p.pap; ipv4cp = a }

-- PPP::open
abbrev pub open_in : Phase → Ppp → Result Ppp
open_in Dead p = ok (with_opening (with_phase p Establish) true)
open_in Establish p = err
open_in Auth p = err
open_in Network p = err
open_in Open p = err

-- the record, the packet as it comes back, and what tx was called with
pub record Received : Type 0 where
  pub ppp : Ppp
  pub pkt : List ℕ
  pub tx : List Packet

-- `match proto.into()`
abbrev pub received_by : ProtocolType → Ppp → List ℕ → Run Received
received_by LCP p pkt = handle lcp_protocol p.lcp pkt >>= λ h. returns (record { ppp = with_lcp p h.fsm; pkt = h.pkt; tx = h.tx })
received_by PAP p pkt = handle_pap p.pap pkt >>= λ h. returns (record { ppp = with_pap p h.pap; pkt = pkt; tx = h.tx })
received_by IPv4 p pkt = panics received_ip
received_by IPv4CP p pkt = handle ipv4cp_protocol p.ipv4cp pkt >>= λ h. returns (record { ppp = with_ipv4cp p h.fsm; pkt = h.pkt; tx = h.tx })
received_by Unknown p pkt =
    let r = send_protocol_reject lcp_protocol p.lcp pkt in
    returns (record { ppp = with_lcp p r.fsm; pkt = pkt; tx = r.packet ∷ [] })

-- PPP::received
unfoldable pub received : Ppp → List ℕ → Run Received
received p pkt = cond (ltb (length pkt) 2) (panics received_slice) (received_by (protocol_from (be_of (take 2 pkt))) p pkt)

-- ---- poll

pub record Polled : Type 0 where
  pub ppp : Ppp
  pub tx : List Packet

abbrev pub polled : Ppp → List Packet → Run Polled
polled p tx = returns (record { ppp = p; tx = tx })

-- `if self.lcp.state() == State::Closed { .. }`
abbrev pub open_lcp : Ppp → Run Polled
open_lcp p =
    cond (is_closed p.lcp.state)
    (open_fsm lcp_protocol p.lcp >>= λ s. polled (with_opening (with_lcp p s.fsm) false) (s.packet ∷ []))
    (polled p [])

abbrev pub open_ipv4cp : Ppp → List Packet → Run Polled
open_ipv4cp p tx = open_fsm ipv4cp_protocol p.ipv4cp >>= λ s. polled (with_phase (with_ipv4cp p s.fsm) Network) (tx ++ (s.packet ∷ []))

-- `match self.lcp.proto().auth`
abbrev pub auth_by : AuthType → Ppp → List Packet → Run Polled
auth_by AuthNone p tx = open_ipv4cp p tx
auth_by AuthPap p tx = open_pap p.pap >>= λ h. polled (with_phase (with_pap p h.pap) Auth) (tx ++ h.tx)

abbrev pub shut_pap : Ppp → Ppp
shut_pap p = cond (not (is_pap_closed p.pap.state)) (with_pap p (close_pap p.pap)) p

abbrev pub shut_ipv4cp : Ppp → Ppp
shut_ipv4cp p = cond (not (is_closed p.ipv4cp.state)) (with_ipv4cp p (close_fsm ipv4cp_protocol p.ipv4cp)) p

-- `if self.lcp.state() == State::Opened { .. } else { .. }`
abbrev pub establish : Polled → Run Polled
establish s = cond (is_opened s.ppp.lcp.state) (auth_by s.ppp.lcp.proto.auth s.ppp s.tx) (polled (shut_ipv4cp (shut_pap s.ppp)) s.tx)

-- `match self.phase`
abbrev pub poll_in : Phase → Ppp → Run Polled
poll_in Dead p = polled p []
poll_in Establish p = open_lcp p >>= establish
poll_in Auth p = cond (is_pap_opened p.pap.state) (open_ipv4cp p []) (polled (shut_ipv4cp p) [])
poll_in Network p = cond (is_opened p.ipv4cp.state) (polled (with_phase p Open) []) (polled p [])
poll_in Open p = polled p []

-- `if self.lcp.state() == State::Closed && !self.opening { .. }`
abbrev pub settle : Ppp → Ppp
settle p = cond (is_closed p.lcp.state && not p.opening) (with_phase p Dead) p

-- PPP::poll
unfoldable pub poll_ppp : Ppp → Run Polled
poll_ppp p = poll_in p.phase p >>= λ s. polled (settle s.ppp) s.tx

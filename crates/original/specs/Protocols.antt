-- ppp/lcp.rs, ppp/ipv4cp.rs and ppp/pap.rs. An Ipv4Addr is the number that its octets say.
use Rattle.std.specs.Prelude.{Bool, true, false, cond, not, ◌&&◌, ◌||◌, List, [], ◌∷◌, ◌++◌, ℕ, ◌+◌, ◌%◌, ltb, eqb, length, get_or, take, drop}
use Rattle.laws.specs.Be.{be_of, be_bytes}
use Rattle.laws.specs.Same.{same}
use Rattle.original.specs.Run.{Run, returns, panics, name_long, password_long, pap_open, pap_slice}
use Rattle.original.specs.Wire.{LCP, PAP, IPv4CP, Credentials, PPP, Packet, code_from}
use Rattle.original.specs.Fsm.{Verdict, Ack, Nack, Rej, Protocol}

-- ---- lcp.rs

pub data AuthType : Type 0 where
  AuthNone AuthPap : AuthType

pub record Lcp : Type 0 where
  pub auth : AuthType
  pub asyncmap_remote : ℕ
  pub asyncmap : ℕ
  pub asyncmap_rej : Bool

-- LCP::new
abbrev pub new_lcp : Lcp
new_lcp = record { auth = AuthNone; asyncmap_remote = 0xFFFFFFFF; asyncmap = 0x00000000; asyncmap_rej = false }

abbrev pub with_auth : Lcp → AuthType → Lcp
with_auth p a = record { auth = a; asyncmap_remote = p.asyncmap_remote; asyncmap = p.asyncmap; asyncmap_rej = p.asyncmap_rej }

abbrev pub with_remote : Lcp → ℕ → Lcp
with_remote p m = record { auth = p.auth; asyncmap_remote = m; asyncmap = p.asyncmap; asyncmap_rej = p.asyncmap_rej }

-- LCP::peer_option_received: Option::Asyncmap is 2 and Option::Auth 3
abbrev pub lcp_received : Lcp → ℕ → List ℕ → Verdict × Lcp
lcp_received p c d =
    cond (eqb c 2) (cond (eqb (length d) 4) (Ack, with_remote p (be_of d)) (Rej, p))
    (cond (eqb c 3) (cond (same d (0xC0 ∷ 0x23 ∷ [])) (Ack, with_auth p AuthPap) (Nack (0xC0 ∷ 0x23 ∷ []), p))
    (Rej, p))

-- LCP::own_options
abbrev pub lcp_own : Lcp → List (ℕ × List ℕ)
lcp_own p = cond (not p.asyncmap_rej) ((2, be_bytes 4 p.asyncmap) ∷ []) []

-- LCP::own_option_nacked
abbrev pub lcp_nacked : Lcp → ℕ → List ℕ → Bool → Lcp
lcp_nacked p c d is_rej =
    cond (eqb c 2)
    (cond (not is_rej && eqb (length d) 4)
    (record { auth = p.auth; asyncmap_remote = p.asyncmap_remote; asyncmap = be_of d; asyncmap_rej = p.asyncmap_rej })
    (record { auth = p.auth; asyncmap_remote = p.asyncmap_remote; asyncmap = p.asyncmap; asyncmap_rej = true }))
    p

-- impl Protocol for LCP
abbrev pub lcp_protocol : Protocol Lcp
lcp_protocol =
    record { protocol = LCP; own_options = lcp_own; own_option_nacked = lcp_nacked; peer_options_start = λ p. with_auth p AuthNone; peer_option_received = lcp_received }

-- ---- ipv4cp.rs

pub record IpOption : Type 0 where
  pub address : ℕ
  pub is_rejected : Bool

-- Option<Ipv4Addr>
pub data Shown : Type 0 where
  NoAddr : Shown
  SomeAddr : ℕ → Shown

-- IpOption::get
abbrev pub get_ip : IpOption → Shown
get_ip o = cond (o.is_rejected || eqb o.address 0) NoAddr (SomeAddr o.address)

-- IpOption::nacked
abbrev pub ip_nacked : IpOption → List ℕ → Bool → IpOption
ip_nacked o d is_rej =
    cond is_rej (record { address = o.address; is_rejected = true })
    (cond (eqb (length d) 4) (record { address = be_of d; is_rejected = o.is_rejected }) (record { address = o.address; is_rejected = true }))

pub record Ipv4cp : Type 0 where
  pub peer_address : ℕ
  pub address : IpOption
  pub dns_server1 : IpOption
  pub dns_server2 : IpOption

-- IpOption::new
abbrev pub new_ip : IpOption
new_ip = record { address = 0; is_rejected = false }

-- IPv4CP::new
abbrev pub new_ipv4cp : Ipv4cp
new_ipv4cp = record { peer_address = 0; address = new_ip; dns_server1 = new_ip; dns_server2 = new_ip }

pub record Ipv4Status : Type 0 where
  pub address : Shown
  pub peer_address : Shown
  pub dns_server1 : Shown
  pub dns_server2 : Shown

-- IPv4CP::status
abbrev pub ipv4_status : Ipv4cp → Ipv4Status
ipv4_status p =
    record {
      address = get_ip p.address;
      peer_address = cond (eqb p.peer_address 0) NoAddr (SomeAddr p.peer_address);
      dns_server1 = get_ip p.dns_server1;
      dns_server2 = get_ip p.dns_server2;
    }

-- IPv4CP::peer_option_received: OptionCode::IpAddress is 3, Dns1 129 and Dns2 131
abbrev pub ipv4cp_received : Ipv4cp → ℕ → List ℕ → Verdict × Ipv4cp
ipv4cp_received p c d =
    cond (eqb c 3)
    (cond (eqb (length d) 4) (Ack, record { peer_address = be_of d; address = p.address; dns_server1 = p.dns_server1; dns_server2 = p.dns_server2 }) (Rej, p))
    (Rej, p)

abbrev pub own_ip : ℕ → IpOption → List (ℕ × List ℕ)
own_ip c o = cond (not o.is_rejected) ((c, be_bytes 4 o.address) ∷ []) []

-- IPv4CP::own_options
abbrev pub ipv4cp_own : Ipv4cp → List (ℕ × List ℕ)
ipv4cp_own p = own_ip 3 p.address ++ (own_ip 129 p.dns_server1 ++ own_ip 131 p.dns_server2)

-- IPv4CP::own_option_nacked
abbrev pub ipv4cp_nacked : Ipv4cp → ℕ → List ℕ → Bool → Ipv4cp
ipv4cp_nacked p c d is_rej =
    cond (eqb c 3) (record { peer_address = p.peer_address; address = ip_nacked p.address d is_rej; dns_server1 = p.dns_server1; dns_server2 = p.dns_server2 })
    (cond (eqb c 129) (record { peer_address = p.peer_address; address = p.address; dns_server1 = ip_nacked p.dns_server1 d is_rej; dns_server2 = p.dns_server2 })
    (cond (eqb c 131) (record { peer_address = p.peer_address; address = p.address; dns_server1 = p.dns_server1; dns_server2 = ip_nacked p.dns_server2 d is_rej })
    p))

-- impl Protocol for IPv4CP
abbrev pub ipv4cp_protocol : Protocol Ipv4cp
ipv4cp_protocol =
    record { protocol = IPv4CP; own_options = ipv4cp_own; own_option_nacked = ipv4cp_nacked; peer_options_start = λ p. p; peer_option_received = ipv4cp_received }

-- ---- pap.rs

pub data PapState : Type 0 where
  PapClosed PapReqSent PapOpened : PapState

abbrev pub is_pap_closed : PapState → Bool
is_pap_closed = elim [ PapClosed ↦ true | PapReqSent ↦ false | PapOpened ↦ false ]

abbrev pub is_pap_sent : PapState → Bool
is_pap_sent = elim [ PapClosed ↦ false | PapReqSent ↦ true | PapOpened ↦ false ]

abbrev pub is_pap_opened : PapState → Bool
is_pap_opened = elim [ PapClosed ↦ false | PapReqSent ↦ false | PapOpened ↦ true ]

pub record Pap : Type 0 where
  pub state : PapState
  pub id : ℕ
  pub username : List ℕ
  pub password : List ℕ

-- PAP::new
abbrev pub new_pap : List ℕ → List ℕ → Run Pap
new_pap username password =
    cond (ltb 255 (length username)) (panics name_long)
    (cond (ltb 255 (length password)) (panics password_long)
    (returns (record { state = PapClosed; id = 1; username = username; password = password })))

abbrev pub with_pap_state : Pap → PapState → Pap
with_pap_state p s = record { state = s; id = p.id; username = p.username; password = p.password }

-- PAP::next_id, as the record that it leaves
abbrev pub next_pap_id : Pap → Pap
next_pap_id p = record { state = p.state; id = (p.id + 1) % 256; username = p.username; password = p.password }

-- what a call leaves, and what tx was called with
pub record PapHandled : Type 0 where
  pub pap : Pap
  pub tx : List Packet

-- PAP::send_configure_request
abbrev pub send_pap_request : Pap → PapHandled
send_pap_request p =
    record { pap = next_pap_id p; tx = record { proto = PAP; payload = PPP 1 (next_pap_id p).id (Credentials p.username p.password) } ∷ [] }

-- PAP::open
unfoldable pub open_pap : Pap → Run PapHandled
open_pap p = cond (is_pap_closed p.state) (returns (send_pap_request (with_pap_state p PapReqSent))) (panics pap_open)

-- PAP::close
abbrev pub close_pap : Pap → Pap
close_pap p = with_pap_state p PapClosed

-- `match (code, self.state)`
unfoldable pub pap_act : Pap → ℕ → PapHandled
pap_act p code =
    cond (eqb code 2 && is_pap_sent p.state) (record { pap = with_pap_state p PapOpened; tx = [] })
    (cond (eqb code 3 && is_pap_sent p.state) (send_pap_request p) (record { pap = p; tx = [] }))

-- PAP::handle
unfoldable pub handle_pap : Pap → List ℕ → Run PapHandled
handle_pap p pkt =
    let len = be_of (take 2 (drop 4 pkt)) in
    cond (ltb (length pkt) 6) (returns (record { pap = p; tx = [] }))
    (cond (ltb (length pkt) len) (returns (record { pap = p; tx = [] }))
    (cond (ltb (length pkt) (len + 2)) (panics pap_slice)
    (returns (pap_act p (code_from (get_or pkt 2 0))))))

-- The moves that two plain ends make: what each end says, and the states that it goes through, with every value left open.
use mathlib.Core.Path.{◌≡◌}
use mathlib.Core.Bool.{Bool, true, false, cond}
use mathlib.Core.List.{List, [], ◌∷◌, ◌++◌}
use Prim.Native.Nat.{ℕ, ◌≤◌}
use lib.ListN.{length}
use Rattle.laws.specs.Be.{be_bytes, be_of}
use Rattle.laws.specs.Each.{Bytes}
use Rattle.options.specs.Options.{opt_bytes}
use Rattle.options.specs.Wire.{packet_of}
use Rattle.negotiation.specs.Messages.{next_id}
use Rattle.negotiation.specs.Auth.{closed_auth}
use Rattle.phases.specs.Phases.{turn_to, turn_of}
use Rattle.phases.specs.Sound.{Calm}
use Rattle.options.specs.declared.lcp.AuthType.{AuthType}
use Rattle.options.specs.declared.lcp.AuthType.TheVariants.{None}
use Rattle.options.specs.declared.ipv4cp.IpOption.{IpOption}
use Rattle.negotiation.specs.declared.states.State.{State}
use Rattle.negotiation.specs.declared.states.State.TheVariants.{Closed, ReqSent, AckSent, Opened}
use Rattle.negotiation.specs.declared.auth.Auth.{Auth}
use Rattle.phases.specs.declared.ppp.Phase.{Phase}
use Rattle.phases.specs.declared.ppp.Phase.TheVariants.{Establish}
use Rattle.phases.specs.declared.ppp.Ppp.{Ppp}
use Rattle.options.specs.declared.lcp.Lcp.{Lcp}
use Rattle.options.specs.declared.ipv4cp.Ipv4cp.{Ipv4cp}
use Rattle.negotiation.specs.declared.option_fsm.OptionFsm.{OptionFsm}

-- what an end brings to the meeting; whether it still sends its two name servers comes beside it
pub record Self : Type 0 where
  pub lcp_id : ℕ
  pub auth : AuthType
  pub remote : ℕ
  pub map : ℕ
  pub map_rej : Bool
  pub authentication : Auth
  pub ip_id : ℕ
  pub peer : ℕ
  pub address : ℕ
  pub address_rej : Bool
  pub dns1 : ℕ
  pub dns2 : ℕ

abbrev pub self_of : Ppp → Self
self_of p =
    record {
      lcp_id = p.lcp.id;
      auth = p.lcp.proto.auth;
      remote = p.lcp.proto.asyncmap_remote;
      map = p.lcp.proto.asyncmap;
      map_rej = p.lcp.proto.asyncmap_rej;
      authentication = p.auth;
      ip_id = p.ipv4cp.id;
      peer = p.ipv4cp.proto.peer_address;
      address = p.ipv4cp.proto.address.address;
      address_rej = p.ipv4cp.proto.address.is_rejected;
      dns1 = p.ipv4cp.proto.dns_server_1.address;
      dns2 = p.ipv4cp.proto.dns_server_2.address;
    }

-- an option of type t, unless it was rejected
abbrev pub offer : ℕ → ℕ → Bool → List ℕ
offer t v rej = cond rej [] (opt_bytes t (be_bytes 4 v))

-- what is known of a value once it was offered or not
abbrev pub heard : ℕ → Bool → ℕ → ℕ
heard v rej r = cond rej r (be_of (be_bytes 4 v))

-- ---- packets, by code and id

abbrev pub lcp_packet : ℕ → ℕ → Self → List ℕ
lcp_packet c i X = packet_of 0xC021 c i (offer 2 X.map X.map_rej)

-- the two flags say which name server was rejected
abbrev pub ip_packet : ℕ → ℕ → Self → Bool → Bool → List ℕ
ip_packet c i X m n = packet_of 0x8021 c i (offer 3 X.address X.address_rej ++ (offer 129 X.dns1 m ++ offer 131 X.dns2 n))

abbrev pub hello : Self → List ℕ
hello X = lcp_packet 1 (next_id X.lcp_id) X

abbrev pub ask : ℕ → Self → Bool → Bool → List ℕ
ask i X m n = ip_packet 1 i X m n

abbrev pub grant : ℕ → Self → List ℕ
grant i X = ip_packet 2 i X true true

abbrev pub deny : ℕ → Self → Bool → Bool → List ℕ
deny i X m n = packet_of 0x8021 4 i (offer 129 X.dns1 m ++ offer 131 X.dns2 n)

-- ---- states

abbrev pub lcp_at : Self → State → AuthType → ℕ → OptionFsm Lcp
lcp_at X s a r = record { id = next_id X.lcp_id; state = s; proto = record { auth = a; asyncmap_remote = r; asyncmap = X.map; asyncmap_rej = X.map_rej } }

abbrev pub ip_option : ℕ → Bool → IpOption
ip_option v rej = record { address = v; is_rejected = rej }

abbrev pub ip_at : Self → ℕ → State → ℕ → Bool → Bool → OptionFsm Ipv4cp
ip_at X i s p m n =
    record {
      id = i;
      state = s;
      proto = record { peer_address = p; address = ip_option X.address X.address_rej; dns_server_1 = ip_option X.dns1 m; dns_server_2 = ip_option X.dns2 n };
    }

abbrev pub end : Self → Phase → OptionFsm Lcp → OptionFsm Ipv4cp → Ppp
end X f l i = record { phase = f; opening = false; lcp = l; auth = closed_auth X.authentication; ipv4cp = i }

-- after `open` and one phase step
abbrev pub begun : Self → Bool → Bool → Ppp
begun X m n = end X Establish (lcp_at X ReqSent X.auth X.remote) (ip_at X X.ip_id Closed X.peer m n)

-- after the peer's LCP request
abbrev pub greeted : Self → Self → Bool → Bool → Ppp
greeted X Y m n = end X Establish (lcp_at X AckSent None (heard Y.map Y.map_rej X.remote)) (ip_at X X.ip_id Closed X.peer m n)

-- with LCP Opened: the phase, IPv4CP's id and state, the peer's address
abbrev pub net : Self → Self → Phase → ℕ → State → ℕ → Bool → Bool → Ppp
net X Y f i s p m n = end X f (lcp_at X Opened None (heard Y.map Y.map_rej X.remote)) (ip_at X i s p m n)

-- ---- a move

-- a packet that a reader with 27 bytes of room takes
pub record Small (x : List ℕ) : Type 0 where
  pub short : length x ≤ 24
  pub bytes : Bytes x

abbrev pub AtMostOne : List (List ℕ) → Type 0
AtMostOne [] = Unit {0}
AtMostOne (x ∷ []) = Small x
AtMostOne (x ∷ y ∷ l) = ⊥

-- in s the packet x is taken, s' follows and o is sent, at most one packet
pub record Moves (s : Ppp) (x : List ℕ) (s' : Ppp) (o : List (List ℕ)) : Type 0 where
  pub calm : Calm s
  pub small : Small x
  pub few : AtMostOne o
  pub is : turn_of s x ≡ turn_to s' o

-- Our records as the original's: the one file that later changes of our link touch.
use Rattle.std.specs.Prelude.{List, ℕ, Option}
use Rattle.std.specs.Prelude as prelude
use Rattle.framing.specs.declared.frame_writer.FrameWriter as writer
use Rattle.framing.specs.declared.frame_reader.State as reading
use Rattle.framing.specs.declared.frame_reader.FrameReader as reader
use Rattle.negotiation.specs.Credentials.{name_of, password_of}
use Rattle.negotiation.specs.declared.states.State as fsm
use Rattle.negotiation.specs.declared.option_fsm.OptionFsm as option_fsm
use Rattle.options.specs.declared.lcp.AuthType as auth
use Rattle.options.specs.declared.lcp.Lcp as lcp
use Rattle.options.specs.declared.ipv4cp.IpOption as ip
use Rattle.options.specs.declared.ipv4cp.Ipv4cp as ipv4cp
use Rattle.negotiation.specs.declared.pap.PapState as pap_state
use Rattle.negotiation.specs.declared.auth.Auth as authentication
use Rattle.phases.specs.declared.ppp.Phase as phase
use Rattle.phases.specs.declared.ppp.Ppp as ppp
use Rattle.phases.specs.declared.ppp.Addresses as addresses
use Rattle.phases.specs.declared.ppp.Status as status
use Rattle.link.specs.declared.pppos.PPPoS as link
use Rattle.link.specs.declared.pppos.PPPoSAction as action
use Rattle.original.specs.Framing.{FrameWriter, ReaderState, Start, Address, Data, Complete, FrameReader}
use Rattle.original.specs.Fsm.{State, Closed, ReqSent, AckReceived, AckSent, Opened, OptionFsm}
use Rattle.original.specs.Protocols.{AuthType, AuthNone, AuthPap, Lcp, IpOption, Shown, NoAddr, SomeAddr, Ipv4cp, PapState, PapClosed, PapReqSent, PapOpened, Pap}
use Rattle.original.specs.Ppp.{Phase, Dead, Establish, Auth, Network, Open, Ppp, Ipv4, Down, Up, Status}
use Rattle.original.specs.Pppos.{PPPoS, PPPoSAction, None, Received, Transmit}

-- ---- framing

-- a writer with the buffer that is lent to it
abbrev pub view_writer : writer.FrameWriter → List ℕ → FrameWriter
view_writer w buf = record { buf = buf; len = w.len; crc = w.crc; asyncmap = w.asyncmap }

abbrev pub view_reading : reading.State → ReaderState
view_reading reading.TheVariants.Start = Start
view_reading reading.TheVariants.Address = Address
view_reading reading.TheVariants.Data = Data
view_reading reading.TheVariants.Complete = Complete

abbrev pub view_reader : reader.FrameReader → FrameReader
view_reader r = record { state = view_reading r.state; escape = r.escape; len = r.len }

-- ---- negotiation

abbrev pub view_state : fsm.State → State
view_state fsm.TheVariants.Closed = Closed
view_state fsm.TheVariants.ReqSent = ReqSent
view_state fsm.TheVariants.AckReceived = AckReceived
view_state fsm.TheVariants.AckSent = AckSent
view_state fsm.TheVariants.Opened = Opened

abbrev pub view_auth : auth.AuthType → AuthType
view_auth auth.TheVariants.None = AuthNone
view_auth auth.TheVariants.Pap = AuthPap

abbrev pub view_lcp : lcp.Lcp → Lcp
view_lcp p = record { auth = view_auth p.auth; asyncmap_remote = p.asyncmap_remote; asyncmap = p.asyncmap; asyncmap_rej = p.asyncmap_rej }

abbrev pub view_ip : ip.IpOption → IpOption
view_ip o = record { address = o.address; is_rejected = o.is_rejected }

abbrev pub view_ipv4cp : ipv4cp.Ipv4cp → Ipv4cp
view_ipv4cp p = record { peer_address = p.peer_address; address = view_ip p.address; dns_server1 = view_ip p.dns_server_1; dns_server2 = view_ip p.dns_server_2 }

abbrev pub view_pap_state : pap_state.PapState → PapState
view_pap_state pap_state.TheVariants.Closed = PapClosed
view_pap_state pap_state.TheVariants.ReqSent = PapReqSent
view_pap_state pap_state.TheVariants.Opened = PapOpened

-- the credentials that the two lengths name
abbrev pub view_pap : authentication.Auth → Pap
view_pap a = record { state = view_pap_state a.pap.state; id = a.pap.id; username = name_of a.credentials; password = password_of a.credentials }

abbrev pub view_phase : phase.Phase → Phase
view_phase phase.TheVariants.Dead = Dead
view_phase phase.TheVariants.Establish = Establish
view_phase phase.TheVariants.Auth = Auth
view_phase phase.TheVariants.Network = Network
view_phase phase.TheVariants.Open = Open

abbrev pub view_lcp_fsm : option_fsm.OptionFsm lcp.Lcp → OptionFsm Lcp
view_lcp_fsm f = record { id = f.id; state = view_state f.state; proto = view_lcp f.proto }

abbrev pub view_ipv4cp_fsm : option_fsm.OptionFsm ipv4cp.Ipv4cp → OptionFsm Ipv4cp
view_ipv4cp_fsm f = record { id = f.id; state = view_state f.state; proto = view_ipv4cp f.proto }

abbrev pub view_ppp : ppp.Ppp → Ppp
view_ppp p = record { phase = view_phase p.phase; opening = p.opening; lcp = view_lcp_fsm p.lcp; pap = view_pap p.auth; ipv4cp = view_ipv4cp_fsm p.ipv4cp }

-- ---- the link

abbrev pub view_link : link.PPPoS → PPPoS
view_link l = record { frame_reader = view_reader l.frame_reader; ppp = view_ppp l.ppp }

-- an action of the original, as our poll gives it
abbrev pub as_action : PPPoSAction → action.PPPoSAction
as_action None = action.TheVariants.Idle
as_action (Received from to) = action.TheVariants.Received from to
as_action (Transmit n) = action.TheVariants.Transmit n

-- what the original shows, as ours does
abbrev pub as_phase : Phase → phase.Phase
as_phase Dead = phase.TheVariants.Dead
as_phase Establish = phase.TheVariants.Establish
as_phase Auth = phase.TheVariants.Auth
as_phase Network = phase.TheVariants.Network
as_phase Open = phase.TheVariants.Open

abbrev pub as_shown : Shown → Option ℕ
as_shown NoAddr = prelude.None
as_shown (SomeAddr a) = prelude.Some a

abbrev pub as_ipv4 : Ipv4 → Option addresses.Addresses
as_ipv4 Down = prelude.None
as_ipv4 (Up i) =
    prelude.Some
    (record { address = as_shown i.address; peer_address = as_shown i.peer_address; dns_server_1 = as_shown i.dns_server1; dns_server_2 = as_shown i.dns_server2 })

-- a status of the original, as ours gives it
abbrev pub as_status : Status → status.Status
as_status s = record { phase = as_phase s.phase; ipv4 = as_ipv4 s.ipv4 }

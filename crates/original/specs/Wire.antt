-- wire.rs. A packet is emitted into a buffer of just its buffer_len: here as the bytes that fill it.
use Rattle.std.specs.Prelude.{cond, List, [], ◌∷◌, ◌++◌, ℕ, ◌+◌, ◌%◌, ltb, leb, eqb, length}
use Rattle.laws.specs.Be.{be_bytes}
use Rattle.original.specs.Run.{Place, Run, returns, panics, option_long}

abbrev pub max_options : ℕ
max_options = 6

abbrev pub max_option_len : ℕ
max_option_len = 4

pub data ProtocolType : Type 0 where
  Unknown LCP PAP IPv4 IPv4CP : ProtocolType

-- `proto as u16`
abbrev pub protocol_number : ProtocolType → ℕ
protocol_number Unknown = 0
protocol_number LCP = 0xC021
protocol_number PAP = 0xC023
protocol_number IPv4 = 0x0021
protocol_number IPv4CP = 0x8021

-- ProtocolType::from
abbrev pub protocol_from : ℕ → ProtocolType
protocol_from n = cond (eqb n 0xC021) LCP (cond (eqb n 0xC023) PAP (cond (eqb n 0x0021) IPv4 (cond (eqb n 0x8021) IPv4CP Unknown)))

-- Code, as its number: ConfigureReq 1, ConfigureAck 2, ConfigureNack 3, ConfigureRej 4, TerminateReq 5, TerminateAck 6, CodeRej 7,
-- ProtocolRej 8, EchoReq 9, EchoReply 10, DiscardReq 11; any other is Unknown, 0 (Code::from)
abbrev pub code_from : ℕ → ℕ
code_from b = cond (leb b 11) b 0

-- ---- options

pub record OptionVal : Type 0 where
  pub code : ℕ
  pub value : List ℕ

-- OptionVal::new
abbrev pub new_option : ℕ → List ℕ → Run OptionVal
new_option c d = cond (ltb max_option_len (length d)) (panics option_long) (returns (record { code = c; value = d }))

-- OptionVal::buffer_len
abbrev pub option_len : OptionVal → ℕ
option_len o = 2 + length o.value

-- OptionVal::emit
abbrev pub emit_option : OptionVal → List ℕ
emit_option o = o.code ∷ (length o.value % 256 + 2) ∷ o.value

-- Options::buffer_len
unfoldable pub options_len : List OptionVal → ℕ
options_len [] = 0
options_len (o ∷ os) = option_len o + options_len os

-- Options::emit
unfoldable pub emit_options : List OptionVal → List ℕ
emit_options [] = []
emit_options (o ∷ os) = emit_option o ++ emit_options os

-- heapless Vec::push, and the panic of who calls it
abbrev pub push : Place → List OptionVal → OptionVal → Run (List OptionVal)
push p os o = cond (leb max_options (length os)) (panics p) (returns (os ++ (o ∷ [])))

-- ---- packets

pub data PPPPayload : Type 0 where
  RawData : List ℕ → PPPPayload
  Credentials : List ℕ → List ℕ → PPPPayload
  Options : List OptionVal → PPPPayload

pub data Payload : Type 0 where
  Raw : List ℕ → Payload
  PPP : ℕ → ℕ → PPPPayload → Payload

pub record Packet : Type 0 where
  pub proto : ProtocolType
  pub payload : Payload

-- PPPPayload::buffer_len
abbrev pub ppp_len : PPPPayload → ℕ
ppp_len (RawData bs) = length bs
ppp_len (Credentials user pass) = 1 + length user + 1 + length pass
ppp_len (Options os) = options_len os

-- PPPPayload::emit
abbrev pub emit_ppp : PPPPayload → List ℕ
emit_ppp (RawData bs) = bs
emit_ppp (Credentials user pass) = length user % 256 ∷ (user ++ (length pass % 256 ∷ pass))
emit_ppp (Options os) = emit_options os

-- Payload::buffer_len
abbrev pub payload_len : Payload → ℕ
payload_len (Raw bs) = length bs
payload_len (PPP code id p) = 1 + 1 + 2 + ppp_len p

-- Payload::emit
abbrev pub emit_payload : Payload → List ℕ
emit_payload (Raw bs) = bs
emit_payload (PPP code id p) = code ∷ id ∷ (be_bytes 2 (ppp_len p % 65536 + 4) ++ emit_ppp p)

-- Packet::buffer_len
abbrev pub packet_len : Packet → ℕ
packet_len p = 2 + payload_len p.payload

-- Packet::emit
abbrev pub emit : Packet → List ℕ
emit p = be_bytes 2 (protocol_number p.proto) ++ emit_payload p.payload

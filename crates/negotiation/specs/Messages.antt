-- The packets that negotiation sends, by protocol and id alone (document 01, 'Negotiation').
use Rattle.std.specs.Prelude.{ℕ, ◌+◌, ◌-◌, ◌%◌, List, [], ◌∷◌, ◌++◌, drop}
use Rattle.laws.specs.Be.{be_bytes}
use Rattle.options.specs.Wire.{max_packet, content_of, packet_of}
use Rattle.options.specs.Proto.{protocol_of, own_of}
use Rattle.options.specs.declared.proto.Proto.{Proto}
use Rattle.options.specs.declared.proto.Verdict.{Verdict}
use Rattle.options.specs.declared.proto.Verdict.TheVariants.{Ack, Nack, Rej}
use Rattle.options.specs.declared.walk.Reply.{Reply}

-- the id steps before use, and 255 goes to 0
abbrev pub next_id : ℕ → ℕ
next_id i = (i + 1) % 256

-- an own request
abbrev pub request_bytes : Proto → ℕ → List ℕ
request_bytes p i = packet_of (protocol_of p) 1 i (own_of p)

-- the code of a reply
abbrev pub code_of : Verdict → ℕ
code_of Ack = 2
code_of Nack = 3
code_of Rej = 4

-- the reply to a request that came with the id i
abbrev pub reply_bytes : ℕ → Reply → List ℕ
reply_bytes i r = packet_of (protocol_of r.proto) (code_of r.verdict) i (content_of r.packet)

-- Terminate-Ack carries nothing
abbrev pub term_ack_bytes : Proto → ℕ → List ℕ
term_ack_bytes p i = packet_of (protocol_of p) 6 i []

-- the packet comes back with code 10
abbrev pub echo_bytes : Proto → List ℕ → List ℕ
echo_bytes p pkt = be_bytes 2 (protocol_of p) ++ (10 ∷ drop 3 pkt)

-- the longest packet that Protocol-Reject carries back: protocol, code, id and Length stand before it
abbrev pub max_rejected : ℕ
max_rejected = max_packet - 6

-- Protocol-Reject is LCP's and carries the whole packet
abbrev pub reject_bytes : ℕ → List ℕ → List ℕ
reject_bytes i pkt = packet_of 0xC021 8 i pkt

-- How long each packet is, and that an id is a byte.
-- Assumes nothing.
use Rattle.std.proofs.Common.{◌≡◌, ℕ, ◌+◌, ◌<◌, ◌≤◌, List, [], length, arith, length-append, length-drop, length-take}
use Rattle.laws.proofs.Be.{length_be}
use Rattle.options.specs.declared.proto.Proto.{Proto}
use Rattle.options.specs.declared.walk.Reply.{Reply}
use Rattle.options.specs.Wire.{content_of}
use Rattle.options.specs.Proto.{protocol_of, own_of}
use Rattle.options.specs.Reply.{Ready}
use Rattle.options.proofs.Fair.{length_packet, own_short}
use Rattle.negotiation.specs.Messages.{next_id, request_bytes, code_of, reply_bytes, term_ack_bytes, echo_bytes, reject_bytes}

pub next_small : (i : ℕ) → next_id i < 256
next_small i = omega arith

pub request_length : (p : Proto) (i : ℕ) → length (request_bytes p i) ≤ 24
request_length p i = omega (arith, length_packet (protocol_of p) 1 i (own_of p), own_short p)

-- the header, and six options of six bytes
pub reply_length : (i : ℕ) (r : Reply) → Ready r → length (reply_bytes i r) ≤ 42
reply_length i r ready =
    omega (arith, length_packet (protocol_of r.proto) (code_of r.verdict) i (content_of r.packet), length-take r.packet.len r.packet.bytes, ready.most, ready.room)

pub term_ack_length : (p : Proto) (i : ℕ) → length (term_ack_bytes p i) ≡ 6
term_ack_length p i = omega (arith, length_packet (protocol_of p) 6 i [])

pub echo_length : (p : Proto) (pkt : List ℕ) → 3 ≤ length pkt → length (echo_bytes p pkt) ≡ length pkt
echo_length p pkt h = rw length-append (omega (arith, length_be 2 (protocol_of p), length-drop 3 pkt))

pub reject_length : (i : ℕ) (pkt : List ℕ) → length (reject_bytes i pkt) ≡ length pkt + 6
reject_length i pkt = omega (arith, length_packet 0xC021 8 i pkt)

-- The packets of a call as the code holds them: which record holds which packets.
use Rattle.std.specs.Prelude.{ℕ, false, Ok, ◌+◌, ◌-◌, ◌≤◌, cond, ◌||◌, List, [], ◌++◌, map, length, take, replicate, ◌==◌, nat_le, slice_index_or, slice_set}
use Rattle.laws.specs.Each.{Each}
use Rattle.options.specs.Wire.{max_packet, pkt_of, content_of}
use Rattle.options.specs.declared.wire.Packet.{Packet}
use Rattle.negotiation.specs.declared.replies.Replies.{Replies}
use Rattle.negotiation.specs.declared.replies.Handled.{Handled}

-- how many packets a call sends at most
abbrev pub max_replies : ℕ
max_replies = 3

-- the record that holds these packets, of which there are at most so many
unfoldable pub replies_of : List (List ℕ) → Replies
replies_of ps = record { count = length ps; packets = map pkt_of ps ++ replicate (max_replies - length ps) (pkt_of []) }

-- the packets that a record holds: the first count
unfoldable pub contents : Replies → List (List ℕ)
contents rs = map content_of (take rs.count rs.packets)

-- a record within its bounds: no more packets than it has places for, each of at most max_packet bytes
pub record Short (rs : Replies) : Type 0 where
  pub few : rs.count ≤ max_replies
  pub each : Each (λ (p : Packet). p.len ≤ max_packet) (take rs.count rs.packets)

abbrev pub added : Replies → Packet → Replies
added r p = record { count = r.count + 1; packets = slice_set r.packets r.count p }

-- the first packet of b, if it has one, behind those of a; a full record stays
abbrev pub joined : Replies → Replies → Replies
joined a b = cond (b.count == 0 || nat_le max_replies a.count) a (added a (slice_index_or b.packets 0 (pkt_of [])))

-- what is left of a step that sends these packets, and is not refused
abbrev pub sends_in : {S : Type 0} → S → Replies → Handled S
sends_in s rs = record { outcome = Ok tt; echoed = false; left = s; replies = rs }

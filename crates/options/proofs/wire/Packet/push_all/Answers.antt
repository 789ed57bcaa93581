use Rattle.options.proofs.Wires.{push_long, push_mid}
use Rattle.options.proofs.wire.Packet.push_all.Goals as goal
use Rattle.options.proofs.wire.Packet.push_all.Goals.{then-self-gt-MAX_PACKET-via-then-self-gt-MAX_PACKET, then-self-gt-MAX_PACKET-via-else-self-gt-MAX_PACKET+then-self-d}
use native.Mathlib.Omega.{arith}
use borrow.Author.Rules.{rules}

pub returns-then-self-gt-MAX_PACKET : goal.returns-then-self-gt-MAX_PACKET
returns-then-self-gt-MAX_PACKET c = push_long c.args.self c.args.d.now (elim c.then-self-gt-MAX_PACKET.branch [
  | then-self-gt-MAX_PACKET-via-then-self-gt-MAX_PACKET w ↦ omega arith
  | then-self-gt-MAX_PACKET-via-else-self-gt-MAX_PACKET+then-self-d w ↦ omega arith
])

pub returns : goal.returns
returns c = push_mid c.args.self c.copy_from_slice.ensures.after (search rules) (omega arith)

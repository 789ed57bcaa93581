use mathlib.Core.Path.{refl, ◌∙◌}
use Rattle.laws.proofs.Be.{be_four}
use Rattle.options.proofs.Wires.{push_none}
use Rattle.options.proofs.wire.Packet.push_field.Goals as goal

pub returns-then-is_dropped : goal.returns-then-is_dropped
returns-then-is_dropped c = rw (c.if-is_dropped.true) (push_none c.args.self)

pub returns : goal.returns
returns c = c.push_all.ensures ∙ rw (c.if-is_dropped.false, be_four, c.to_be_bytes.ensures) refl

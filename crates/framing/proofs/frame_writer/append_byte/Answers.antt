use mathlib.Core.Path.{sym, ◌∙◌}
use Rattle.framing.proofs.Stuffing.{unit-escaped, unit_plain}
use Rattle.framing.proofs.frame_writer.append_byte.Goals as goal

pub returns-then-escapes : goal.returns-then-escapes
returns-then-escapes c =
    rw (unit-escaped _ _ (sym c.escapes.ensures ∙ c.if-escapes.true)) c.append_two.ensures

pub returns : goal.returns
returns c =
    rw (unit_plain _ _ (sym c.escapes.ensures ∙ c.if-escapes.false)) c.append_one.ensures

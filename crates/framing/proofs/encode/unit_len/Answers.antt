use mathlib.Core.Path.{refl, sym, ◌∙◌}
use native.Mathlib.Omega.{arith}
use Rattle.framing.proofs.Stuffing.{unit-escaped, unit_plain}
use Rattle.framing.proofs.encode.unit_len.Goals as goal

pub returns-then-escapes : goal.returns-then-escapes
returns-then-escapes c = rw (unit-escaped _ _ (sym c.escapes.ensures ∙ c.if-escapes.true)) (refl, omega arith)

pub returns-else-escapes : goal.returns-else-escapes
returns-else-escapes c = rw (unit_plain _ _ (sym c.escapes.ensures ∙ c.if-escapes.false)) (refl, omega arith)

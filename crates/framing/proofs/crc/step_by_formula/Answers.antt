use mathlib.Core.Path.{ap, ◌∙◌}
use Rattle.framing.proofs.Formula.{formula}
use Rattle.framing.specs.Table.{mixed}
use Rattle.framing.proofs.crc.step_by_formula.Goals as goal

pub returns : goal.returns
returns c = ap (mixed c.args.seed) c.from-f.ensures ∙ formula c.args.seed c.args.b c.ranges.b.fits

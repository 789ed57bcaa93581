use mathlib.Core.Path.{ap}
use lib.Bits.{bit_xor}
use Rattle.framing.proofs.Formula.{formula_multiplied}
use Rattle.framing.proofs.crc.step.Goals as goal

pub returns : goal.returns
returns c = formula_multiplied c.args.seed c.args.b _ c.ranges.b.fits (ap (bit_xor c.args.seed) c.from.ensures)

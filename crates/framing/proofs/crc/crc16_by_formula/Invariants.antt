use mathlib.Core.Path.{◌≡◌}
use lib.ListN.{drop}
use Rattle.framing.specs.Rfc1662.{fcs}
use Rattle.framing.proofs.crc.crc16_by_formula.Given as goal

abbrev pub invariant-loop-b : goal.invariant-loop-b
invariant-loop-b l = fcs l.s (drop l.b-index l.src) ≡ fcs l.seed l.src

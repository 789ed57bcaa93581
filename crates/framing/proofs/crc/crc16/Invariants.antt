use mathlib.Core.Path.{◌≡◌}
use lib.ListN.{drop}
use Rattle.framing.specs.Rfc1662.{fcs}
use Rattle.framing.proofs.crc.crc16.Given as goal

abbrev pub invariant-loop-b : goal.invariant-loop-b
invariant-loop-b l = fcs l.s (drop l.b-index l.src) ≡ fcs l.fn.seed l.src

use mathlib.Core.Path.{refl}
use Rattle.framing.specs.Table.{Table}
use Rattle.framing.proofs.table.fcstab.Goals as goal

-- the whole-table test
pub returns : goal.returns
unfolding Table
returns c = (refl, tt)

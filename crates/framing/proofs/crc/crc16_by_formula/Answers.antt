use mathlib.Core.Path.{sym, ◌∙◌}
use native.Mathlib.Omega.{arith}
use Rattle.framing.proofs.Fcs.{fcs_turn, fcs_end}
use Rattle.framing.proofs.crc.crc16_by_formula.Goals as goal

pub loop-b-preserved : goal.loop-b-preserved
loop-b-preserved c =
    fcs_turn _ _ c.loop-b.b-index c.args.src.now (omega arith) c.step_by_formula-s.ensures c.loop-b.invariant

pub returns : goal.returns
returns c =
    sym (fcs_end _ c.loop-b.b-index c.args.src.now (omega arith)) ∙ c.loop-b.invariant

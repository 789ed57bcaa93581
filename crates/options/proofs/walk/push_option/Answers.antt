use native.Mathlib.Omega.{arith}
use mathlib.Core.Path.{◌∙◌}
use Rattle.options.proofs.Wires.{push_both}
use Rattle.options.proofs.walk.push_option.Goals as goal

pub returns : goal.returns
returns c = c.push_all-2.ensures ∙ rw c.push_all.ensures (push_both c.args.p _ c.args.d.now (omega arith))

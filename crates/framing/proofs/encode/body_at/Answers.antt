use mathlib.Core.Path.{refl}
use mathlib.Core.List.{◌++◌}
use Rattle.laws.proofs.Passed.{passed}
use Rattle.framing.proofs.Walking.{walked_stop, walked_then}
use Rattle.framing.proofs.encode.body_at.Goals as goal

pub returns-in_err-at : goal.returns-in_err-at
returns-in_err-at c = rw (passed _ _ c.from_residual.ensures.1) (walked_stop c.in_err-at.ensures refl (c.args.part.now ++ c.args.rest.now))

pub returns-in_err-at-2 : goal.returns-in_err-at-2
returns-in_err-at-2 c = rw (passed _ _ c.from_residual-in_err-at-2.ensures.1) (walked_then c.in_ok-at.ensures refl (walked_stop c.in_err-at-2.ensures refl c.args.rest.now))

pub returns : goal.returns
returns c = walked_then c.in_ok-at.ensures refl (walked_then c.in_ok-at-2.ensures refl c.walk-3.ensures)

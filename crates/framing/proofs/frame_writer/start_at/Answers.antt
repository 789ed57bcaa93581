use mathlib.Core.Path.{refl}
use mathlib.Core.List.{[], ◌∷◌}
use Rattle.laws.proofs.Passed.{passed}
use Rattle.framing.specs.Rfc1662.{unit}
use Rattle.framing.proofs.Run.{run_stop, run_then}
use Rattle.framing.proofs.frame_writer.start_at.Goals as goal

pub returns-in_err-at : goal.returns-in_err-at
returns-in_err-at c = rw (passed _ _ c.from_residual.ensures.1) (run_stop c.in_err-at.ensures refl (unit c.args.asyncmap 0x03 ∷ []))

pub returns : goal.returns
returns c = run_then c.in_ok-at.ensures refl c.append_byte.ensures

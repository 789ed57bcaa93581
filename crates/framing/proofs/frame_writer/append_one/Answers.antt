use mathlib.Core.List.{[], ◌∷◌}
use native.Mathlib.Omega.{arith}
use Rattle.framing.proofs.Run.{one_fits, one_stops}
use Rattle.framing.proofs.frame_writer.append_one.Goals as goal

pub returns-then-buf-at : goal.returns-then-buf-at
returns-then-buf-at c = one_stops _ _ _ (omega arith)

pub returns : goal.returns
returns c = one_fits (c.args.a ∷ []) _ _ (omega arith)

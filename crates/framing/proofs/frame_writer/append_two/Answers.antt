use mathlib.Core.List.{[], ◌∷◌}
use native.Mathlib.Numerals.{add-one}
use native.Mathlib.Omega.{arith}
use Rattle.framing.proofs.Run.{one_fits, one_stops}
use Rattle.framing.proofs.frame_writer.append_two.Goals as goal

pub returns-then-buf-lt2 : goal.returns-then-buf-lt2
returns-then-buf-lt2 c = one_stops _ _ _ (omega arith)

pub returns : goal.returns
returns c = rw add-one (one_fits (c.args.a ∷ c.args.b ∷ []) _ _ (omega arith))

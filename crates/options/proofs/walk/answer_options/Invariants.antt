use Prim.Native.Nat.{◌≤◌}
use mathlib.Core.Path.{◌≡◌}
use lib.ListN.{length}
use Rattle.options.specs.Options.{walk_of}
use Rattle.options.specs.Reply.{reply_of, Ready}
use Rattle.options.proofs.Walks.{walk_last}
use Rattle.options.proofs.walk.answer_options.Given as goal

abbrev pub invariant-loop-t : goal.invariant-loop-t
invariant-loop-t l = (length l.t ≤ length l.s) × Ready l.r × (reply_of l.initial.r (walk_of l.s) ≡ reply_of l.r (walk_last (length l.s) l.t))

abbrev pub decreases-loop-t : goal.decreases-loop-t
decreases-loop-t l = length l.t

use Prim.Native.Nat.{◌≤◌}
use mathlib.Core.Path.{◌≡◌}
use lib.ListN.{length}
use Rattle.options.specs.Options.{walk_of}
use Rattle.options.specs.Proto.{nacks_of}
use Rattle.options.proofs.Walks.{walk_last}
use Rattle.options.proofs.proto.Proto.own_options_nacked.Given as goal

abbrev pub invariant-loop-t : goal.invariant-loop-t
invariant-loop-t l = (length l.t ≤ length l.s) × (nacks_of l.is_rej l.initial.q (walk_of l.s) ≡ nacks_of l.is_rej l.q (walk_last (length l.s) l.t))

abbrev pub decreases-loop-t : goal.decreases-loop-t
decreases-loop-t l = length l.t

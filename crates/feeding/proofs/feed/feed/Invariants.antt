use Rattle.feeding.proofs.Feeding.{Ahead}
use mathlib.Core.Path.{◌≡◌}
use Prim.Native.Nat.{◌+◌, ◌-◌, ◌*◌, ◌≤◌}
use lib.ListN.{length}
use Rattle.framing.specs.Drops.{all_of}
use Rattle.feeding.specs.Feed.{progress_of, fed_link}
use Rattle.feeding.proofs.feed.feed.Given as goal

abbrev pub invariant-loop-rest : goal.invariant-loop-rest
invariant-loop-rest l = (l.fed.count + length l.rest ≡ length l.src)
    × Ahead l.idle (progress_of l.fed.link l.tx l.rx l.rest l.fed.drops) (fed_link l.initial.fed.link l.initial.tx l.initial.rx l.src) × (all_of l.fed.drops ≤ l.fed.count)

abbrev pub decreases-loop-rest : goal.decreases-loop-rest
decreases-loop-rest l = 2 * length l.rest + (2 - l.idle)

use mathlib.Core.Path.{◌≡◌}
use Prim.Native.Nat.{◌+◌, ◌*◌, ◌≤◌}
use lib.ListN.{length, drop}
use Rattle.framing.specs.Rfc1662.{stuffed}
use Rattle.framing.proofs.encode.stuffed_len.Given as goal

abbrev pub invariant-loop-b : goal.invariant-loop-b
invariant-loop-b l = (l.n ≤ 2 * l.b-index) × (l.n + length (stuffed l.asyncmap (drop l.b-index l.src)) ≡ length (stuffed l.asyncmap l.src))

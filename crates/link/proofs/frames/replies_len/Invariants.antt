use lib.ListN.{length}
use mathlib.Core.Path.{◌≡◌}
use Prim.Native.Nat.{◌+◌, ◌*◌, ◌≤◌}
use Rattle.link.proofs.Sending.{frames_from}
use Rattle.link.specs.Frames.{max_frame}
use Rattle.link.proofs.frames.replies_len.Given as goal

abbrev pub invariant-loop-p : goal.invariant-loop-p
invariant-loop-p l = (l.n ≤ max_frame * l.p-index) × (l.n + length (frames_from l.fn.rs l.p-index) ≡ length (frames_from l.fn.rs 0))

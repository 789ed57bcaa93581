use mathlib.Core.Path.{◌≡◌}
use Prim.Native.Nat.{◌+◌}
use lib.ListN.{length}
use lib.Seq.{sets}
use Rattle.link.proofs.Sending.{frames_from}
use Rattle.link.proofs.frames.put_replies.Given as goal

abbrev pub invariant-loop-p : goal.invariant-loop-p
invariant-loop-p l =
    (length l.tx ≡ length l.fn.tx) × (l.at + length (frames_from l.fn.rs l.p-index) ≡ length (frames_from l.fn.rs 0))
    × (sets l.tx l.at (frames_from l.fn.rs l.p-index) ≡ sets l.fn.tx 0 (frames_from l.fn.rs 0))

use mathlib.Core.Path.{◌≡◌}
use Prim.Native.Nat.{◌≤◌}
use lib.ListN.{length, drop}
use Rattle.framing.specs.Reader.{held, fed}
use Rattle.framing.specs.Drops.{drops}
use Rattle.framing.proofs.Reader.{Kept}
use Rattle.framing.proofs.Dropping.{Counted}
use Rattle.framing.proofs.frame_reader.FrameReader.consume.Given as goal

abbrev pub invariant-loop-i : goal.invariant-loop-i
invariant-loop-i l = (l.i ≤ length l.src) × Kept (length l.initial.buf) (held l.reader l.buf) × (fed (held l.initial.reader l.initial.buf) l.src ≡ fed (held l.reader l.buf) (drop l.i l.src))
    × Counted l.src (drops (held l.initial.reader l.initial.buf) l.src) (held l.reader l.buf) l.i l.drops

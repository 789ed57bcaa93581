use mathlib.Core.Path.{◌≡◌}
use lib.ListN.{drop}
use Rattle.framing.specs.Rfc1662.{fcs}
use Rattle.framing.specs.Writer.{units, write}
use Rattle.framing.proofs.frame_writer.walk.Given as goal

-- what is left, done from here, is the whole: the units, and the check value
abbrev pub invariant-loop-b : goal.invariant-loop-b
invariant-loop-b l =
    (write (units l.asyncmap (drop l.b-index l.src)) l.buf l.at ≡ write (units l.asyncmap l.src) l.fn.buf l.fn.at)
    × (fcs l.crc (drop l.b-index l.src) ≡ fcs l.fn.crc l.src)

use mathlib.Core.Path.{sym, ◌∙◌}
use native.Mathlib.Omega.{arith}
use borrow.Author.Tests.{le-leb}
use Rattle.negotiation.specs.Replies.{contents}
use Rattle.negotiation.proofs.Joining.{contents_few, contents_short}
use Rattle.link.proofs.Sending.{frames_enough}
use Rattle.link.proofs.frames.fits.Goals as goal

pub returns-then-room-ge-ALWAYS_ENOUGH : goal.returns-then-room-ge-ALWAYS_ENOUGH
returns-then-room-ge-ALWAYS_ENOUGH c =
    le-leb _ _ c.if-room-ge-ALWAYS_ENOUGH.true
    ∙ sym (le-leb _ c.args.room (omega (arith, frames_enough (contents c.args.rs) (contents_few c.requires) (contents_short c.requires))))

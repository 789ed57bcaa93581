use Rattle.std.proofs.Common.{refl}
use Rattle.negotiation.specs.Replies.{replies_of}
use Rattle.negotiation.proofs.replies.Replies.none.Goals as goal

pub returns : goal.returns
unfolding replies_of
returns c = (rw c.blank.ensures.0 refl, refl)

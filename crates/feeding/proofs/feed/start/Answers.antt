use Rattle.feeding.proofs.Feeding.{start_polls}
use Rattle.feeding.proofs.feed.start.Goals as goal

pub returns : goal.returns
returns c =
    start_polls _ _ c.new-made.ensures c.open.ensures c.poll.ensures

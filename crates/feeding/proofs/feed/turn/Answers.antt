use Rattle.feeding.proofs.Feeding.{turn_feeds, drops-fit}
use Rattle.feeding.proofs.feed.turn.Goals as goal

pub together-requires : goal.together-requires
together-requires c = let e = c.consume-taken.ensures in
    drops-fit _ e.consumes e.drops_value c.requires

pub returns : goal.returns
returns c =
    let e = c.consume-taken.ensures in
    turn_feeds _ _ e.consumes c.unwrap_or.ensures e.drops_value c.together.ensures c.poll.ensures

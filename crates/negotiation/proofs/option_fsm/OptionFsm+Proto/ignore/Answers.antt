use Rattle.negotiation.specs.Automaton.{ignore_of}
use Rattle.negotiation.proofs.option_fsm.OptionFsm+Proto.ignore.Goals as goal

pub returns : goal.returns
unfolding ignore_of
returns c = rw c.none.ensures.0 at c.new.ensures

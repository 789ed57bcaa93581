use Rattle.std.proofs.Common.{refl}
use Rattle.negotiation.specs.Automaton.{ignore_of}
use Rattle.negotiation.proofs.option_fsm.OptionFsm+Proto.refuse.Goals as goal

pub returns : goal.returns
unfolding ignore_of
returns c = rw c.ignore.ensures refl

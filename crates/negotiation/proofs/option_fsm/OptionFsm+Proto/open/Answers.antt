use Rattle.std.proofs.Common.{[], refl, ◌∙◌, lit<}
use Rattle.negotiation.specs.Automaton.{opened_fsm}
use Rattle.negotiation.proofs.Automata.{requested-behind}
use Rattle.negotiation.proofs.option_fsm.OptionFsm+Proto.open.Goals as goal

pub returns : goal.returns
unfolding opened_fsm
returns c =
    c.send_configure_request.ensures
    ∙ rw (c.none.ensures.0, requested-behind c.with_state.result [] (lit< tt), c.with_state.ensures) refl

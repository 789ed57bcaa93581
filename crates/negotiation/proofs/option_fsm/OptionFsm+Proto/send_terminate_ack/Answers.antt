use Rattle.std.proofs.Common.{◌∙◌}
use Rattle.negotiation.proofs.Automata.{term_of}
use Rattle.negotiation.proofs.option_fsm.OptionFsm+Proto.send_terminate_ack.Goals as goal

pub returns : goal.returns
returns c =
    let a = c.args in
    c.new.ensures ∙ term_of a.self a.id c.none.ensures.0 c.terminate_ack_packet.ensures c.add.ensures

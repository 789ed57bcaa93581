use Rattle.negotiation.proofs.Automata.{nack_refused, nack_sent}
use Rattle.negotiation.proofs.option_fsm.OptionFsm+Proto.update.Goals as goal

pub returns-in-Err : goal.returns-in-Err
returns-in-Err c = let a = c.args in
    nack_refused a.self a.n c.in-Err.is c.refuse.ensures

pub returns : goal.returns
returns c =
    let a = c.args in
    nack_sent a.self a.n c.in_default.is c.after_nack.ensures c.none.ensures.0 c.send_configure_request.ensures

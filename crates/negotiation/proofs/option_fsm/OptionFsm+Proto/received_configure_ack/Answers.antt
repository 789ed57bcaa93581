use Rattle.std.proofs.Common.{sym, ◌∙◌}
use Rattle.negotiation.proofs.Automata.{ack_resent, ack-taken}
use Rattle.negotiation.proofs.option_fsm.OptionFsm+Proto.received_configure_ack.Goals as goal

pub returns-then-ack_resends : goal.returns-then-ack_resends
returns-then-ack_resends c =
    ack_resent c.args.self c.after_ack.ensures c.with_state-f.ensures c.none.ensures.0
    (sym c.ack_resends.ensures ∙ c.if-ack_resends.true) c.send_configure_request.ensures

pub returns : goal.returns
returns c =
    c.ignore.ensures ∙ ack-taken c.args.self c.after_ack.ensures c.with_state-f.ensures (sym c.ack_resends.ensures ∙ c.if-ack_resends.false)

use Rattle.std.proofs.Common.{rules, sym, ◌∙◌, ne_eqb}
use Rattle.negotiation.specs.Automaton.{act_of}
use Rattle.negotiation.proofs.option_fsm.OptionFsm+Proto.act.Goals as goal

pub returns-in-9 : goal.returns-in-9
unfolding act_of
returns-in-9 c = search (rules, c.send_echo_response.ensures)

pub returns-in-11 : goal.returns-in-11
unfolding act_of
returns-in-11 c = search (rules, c.ignore-in-11.ensures)

pub returns-in_default : goal.returns-in_default
unfolding act_of
returns-in_default c = search (rules, ne_eqb, c.send_terminate_ack.ensures, sym c.is_closed.ensures ∙ c.if-is_closed.true)

pub returns-in-1 : goal.returns-in-1
unfolding act_of
returns-in-1 c = rw (c.in-1.is, ← c.is_closed.ensures, c.if-is_closed.false) c.received_configure_req.ensures

pub returns-in-2 : goal.returns-in-2
unfolding act_of
returns-in-2 c = rw (c.in-2.is, ← c.is_closed.ensures, c.if-is_closed.false) c.received_configure_ack.ensures

pub returns-in-3 : goal.returns-in-3
unfolding act_of
returns-in-3 c = rw (c.in-3.is, ← c.is_closed.ensures, c.if-is_closed.false) c.received_configure_nack.ensures

pub returns-in-4 : goal.returns-in-4
unfolding act_of
returns-in-4 c = rw (c.in-4.is, ← c.is_closed.ensures, c.if-is_closed.false) c.received_configure_nack-in-4.ensures

pub returns-in-5 : goal.returns-in-5
unfolding act_of
returns-in-5 c = rw (c.in-5.is, ← c.is_closed.ensures, c.if-is_closed.false, ← c.after_term.ensures, ← c.with_state.ensures) c.send_terminate_ack-in-5.ensures

pub returns-in_default-2 : goal.returns-in_default-2
unfolding act_of
returns-in_default-2 c = search (rules, ne_eqb, c.ignore.ensures, sym c.is_closed.ensures ∙ c.if-is_closed.false)

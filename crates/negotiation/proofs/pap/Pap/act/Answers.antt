use Rattle.std.proofs.Common.{rules, ap, sym, ◌∙◌, ne_eqb}
use Rattle.negotiation.specs.Pap.{pap_handled, pap_act_of}
use Rattle.negotiation.proofs.Paps.{act_idle, act_ack, act_nack, pap_waits, pap_idle}
use Rattle.negotiation.proofs.pap.Pap.act.Goals as goal

pub returns-then-ne : goal.returns-then-ne
returns-then-ne c = c.ignore.ensures ∙ ap pap_handled (sym (act_idle _ _ _ (pap_idle _ c.ne.ensures c.if-ne.true)))

pub returns-in-2 : goal.returns-in-2
returns-in-2 c = rw c.with_state.ensures at c.ignore-in-2.ensures ∙ ap pap_handled (sym (act_ack _ _ _ (pap_waits _ c.ne.ensures c.if-ne.false) c.in-2.is))

pub returns-in-3 : goal.returns-in-3
returns-in-3 c = c.send_configure_request.ensures ∙ ap pap_handled (sym (act_nack _ _ _ (pap_waits _ c.ne.ensures c.if-ne.false) c.in-3.is))

pub returns-in_default : goal.returns-in_default
unfolding pap_act_of
returns-in_default c = search (rules, ne_eqb, c.ignore-in_default.ensures, pap_waits _ c.ne.ensures c.if-ne.false)

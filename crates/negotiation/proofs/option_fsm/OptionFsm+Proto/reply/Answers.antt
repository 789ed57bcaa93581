use Rattle.std.proofs.Common.{sym, ◌∙◌}
use Rattle.negotiation.proofs.Automata.{req_refused, req_resent, req_kept, one_reply}
use Rattle.negotiation.proofs.option_fsm.OptionFsm+Proto.reply.Goals as goal

pub returns-in-Err : goal.returns-in-Err
returns-in-Err c = let a = c.args in
    req_refused a.self a.id a.r c.in-Err.is c.refuse.ensures

pub returns-then-is_opened : goal.returns-then-is_opened
returns-then-is_opened c =
    let a = c.args in
    req_resent a.self a.id a.r c.in_default.is c.after_reply-f.ensures
    (one_reply _ c.none.ensures.0 c.reply_packet.ensures c.add-replies.ensures)
    (sym c.is_opened.ensures ∙ c.if-is_opened.true)
    c.send_configure_request.ensures

pub returns : goal.returns
returns c =
    let a = c.args in
    c.new.ensures ∙ req_kept a.self a.id a.r c.in_default.is c.after_reply-f.ensures
    (one_reply _ c.none.ensures.0 c.reply_packet.ensures c.add-replies.ensures)
    (sym c.is_opened.ensures ∙ c.if-is_opened.false)

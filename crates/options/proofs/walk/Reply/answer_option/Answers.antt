use Rattle.options.proofs.Replying.{step_of_lem}
use Rattle.options.proofs.walk.Reply.answer_option.Goals as goal

pub returns : goal.returns
returns c = let a = c.args in (
  step_of_lem a.self c.list.result c.peer_option_received-j.result a.code a.d.now _ _
      c.suggestion.ensures c.peer_option_received-j.ensures c.sent_back-value.ensures c.list.ensures.0,
  c.list.ensures.1,
)

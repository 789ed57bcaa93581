use Rattle.std.proofs.Common.{le-ltb, lt-ltb}
use Rattle.negotiation.specs.Automaton.{req_of}
use Rattle.options.proofs.Walks.{rest}
use Rattle.negotiation.proofs.option_fsm.OptionFsm+Proto.received_configure_req.Goals as goal

pub returns-then-p-lt6 : goal.returns-then-p-lt6
unfolding req_of
returns-then-p-lt6 c = rw (lt-ltb _ _ c.if-p-lt6.true) c.refuse.ensures

pub returns : goal.returns
unfolding req_of
returns c =
    let p = c.args.p.now in
    rw (le-ltb _ _ c.if-p-lt6.false, ← rest p 6, ← c.peer_options_start.ensures, ← c.answer_options.ensures.0) c.reply.ensures

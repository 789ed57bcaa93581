use Rattle.std.proofs.Common.{◌≡◌, true, sym, ap, ◌∙◌, arith}
use Rattle.negotiation.specs.Automaton.{handled, is_opened}
use Rattle.negotiation.proofs.Automata.{echo_not, echo_short, echo-long, echo-sent, one_reply}
use Rattle.negotiation.proofs.option_fsm.OptionFsm+Proto.send_echo_response.Goals as goal

pub returns-then-not-is_opened : goal.returns-then-not-is_opened
returns-then-not-is_opened c = let a = c.args in
    c.ignore.ensures ∙ ap handled (echo_not a.self a.p.now (sym c.is_opened.ensures ∙ c.if-not-is_opened.true))

pub returns-then-p-lt3 : goal.returns-then-p-lt3
returns-then-p-lt3 c =
    let in-opened : is_opened c.args.self.state ≡ true = sym c.is_opened.ensures ∙ c.if-not-is_opened.false in
    let a = c.args in
    c.refuse.ensures ∙ ap handled (echo_short a.self a.p.now in-opened (omega arith))

pub returns-then-p-gt-MAX_PACKET : goal.returns-then-p-gt-MAX_PACKET
returns-then-p-gt-MAX_PACKET c =
    let in-opened : is_opened c.args.self.state ≡ true = sym c.is_opened.ensures ∙ c.if-not-is_opened.false in
    let a = c.args in
    c.refuse-then-p-gt-MAX_PACKET.ensures ∙ ap handled (echo-long a.self a.p.now in-opened (omega arith) (omega arith))

pub returns : goal.returns
returns c =
    let in-opened : is_opened c.args.self.state ≡ true = sym c.is_opened.ensures ∙ c.if-not-is_opened.false in
    let a = c.args in
    rw c.new.ensures (echo-sent a.self a.p.now in-opened (omega arith) (omega arith)
    (one_reply _ c.none.ensures.0 c.echo_packet.ensures c.add.ensures))

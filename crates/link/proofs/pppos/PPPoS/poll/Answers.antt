use mathlib.Core.Path.{sym, ap, ap₂, ◌∙◌}
use native.Mathlib.Omega.{arith}
use Rattle.std.specs.Prelude.{Result, Ok}
use Rattle.phases.specs.Phases.{Turn}
use Rattle.phases.proofs.Phasing.{poll_sends}
use Rattle.link.specs.Link.{answered_poll}
use Rattle.link.specs.declared.refusal.Refusal.{Refusal}
use Rattle.link.specs.declared.pppos.PPPoS.{PPPoS}
use Rattle.link.specs.declared.pppos.PPPoSAction.{PPPoSAction}
use Rattle.link.proofs.Polling.{polled, polls_of, answered_rested, turned_is, turns_short, poll_short, poll-nothing, poll_refused, poll_packet_lem}
use Rattle.link.proofs.pppos.PPPoS.poll.Goals as goal

pub returns-then-rx-self : goal.returns-then-rx-self
returns-then-rx-self c = let a = c.args in
    let e = c.decline.ensures in
    let k = poll_short a.self a.tx.now a.rx.now (omega arith) in
    polls_of (ap₂ (λ (x : Result PPPoSAction Refusal) (l : PPPoS). polled x l a.tx.now a.rx.now) e.0 e.1 ∙ sym k)

pub returns-in-None : goal.returns-in-None
returns-in-None c = let a = c.args in
    polls_of (answered_rested a.self a.tx.now a.rx.now (sym c.rests.ensures ∙ c.if-rests.true)
    ∙ sym (poll-nothing a.self a.tx.now a.rx.now (omega arith) c.receive-got.ensures (c.in-Ok.is ∙ ap Ok c.in-None.is)))

pub answer-requires : goal.answer-requires
answer-requires c = turns_short c.poll.ensures (poll_sends c.args.self.ppp) (omega arith)

pub returns-in-None-2 : goal.returns-in-None-2
returns-in-None-2 c = let a = c.args in
    let t = c.poll in
    polls_of (c.answer.ensures
    ∙ ap (λ (x : Turn). answered_poll a.self a.self.frame_reader x a.tx.now a.rx.now) (turned_is {t = t.result} t.ensures)
    ∙ sym (poll-nothing a.self a.tx.now a.rx.now (omega (arith, c.if-rx-self.false)) c.receive-got.ensures (c.in-Ok.is ∙ ap Ok c.in-None-2.is)))

pub returns-in-Some : goal.returns-in-Some
returns-in-Some c = let a = c.args in
    polls_of (c.poll_packet.ensures
    ∙ sym (poll_packet_lem a.self a.tx.now a.rx.now (omega arith) c.receive-got.ensures (c.in-Ok.is ∙ ap Ok c.in-Some.is)))

pub returns-in-Err : goal.returns-in-Err
returns-in-Err c = let a = c.args in
    let e = c.decline-in-Err.ensures in
    polls_of (ap₂ (λ (x : Result PPPoSAction Refusal) (l : PPPoS). polled x l a.tx.now a.rx.now) e.0 (e.1 ∙ c.with_reader.ensures)
    ∙ sym (poll_refused a.self a.tx.now a.rx.now (omega arith) c.receive-got.ensures c.in-Err.is))

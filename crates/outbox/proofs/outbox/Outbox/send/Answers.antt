use native.Mathlib.Omega.{arith}
use mathlib.Core.Path.{ap, sym, ◌∙◌}
use Rattle.outbox.specs.Outbox.{as_send}
use Rattle.outbox.proofs.Sending.{send_short, send-none, send_down, send-up, answer_is}
use Rattle.outbox.proofs.outbox.Outbox.send.Goals as goal
use Rattle.outbox.proofs.outbox.Outbox.send.Goals.{then-self-eq0-via-then-self-eq0, then-self-eq0-via-else-self-eq0+then-not-up}

pub returns-then-buf-self : goal.returns-then-buf-self
returns-then-buf-self c = let a = c.args in
    sym (send_short a.self a.l a.buf.now a.tx.now (omega arith))

pub returns-then-self-eq0 : goal.returns-then-self-eq0
returns-then-self-eq0 c = let a = c.args in
    elim c.then-self-eq0.branch [
      | then-self-eq0-via-then-self-eq0 w ↦ sym (send-none a.self a.l a.buf.now a.tx.now (omega arith) w.if-self-eq0.true)
      | then-self-eq0-via-else-self-eq0+then-not-up w ↦ sym (send_down a.self a.l a.buf.now a.tx.now (omega arith) w.if-self-eq0.false (sym w.up.ensures ∙ w.if-not-up.true))
    ]

pub returns : goal.returns
returns c = let a = c.args in
    ap (λ r. as_send r c.send_front.new.tx) c.answer.ensures
    ∙ answer_is a.self c.front_len-n.result c.send_front.ensures c.front_len-n.ensures
    ∙ sym (send-up a.self a.l a.buf.now a.tx.now (omega arith) (λ z. omega arith) (sym c.up.ensures ∙ c.if-not-up.false))

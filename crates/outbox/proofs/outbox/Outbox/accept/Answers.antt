use native.Mathlib.Omega.{arith}
use mathlib.Core.Path.{ap₂, sym, ◌∙◌}
use borrow.Author.Tests.{eqb-true, eqb-false}
use Rattle.std.specs.Prelude.{Ok}
use Rattle.std.proofs.Common.{⊎_elim}
use Rattle.outbox.proofs.Accepting.{declined_is, accept_short, accept_empty, accept_long, accept_full, accept_done}
use Rattle.outbox.proofs.outbox.Outbox.accept.Goals as goal

pub returns-then-buf-self : goal.returns-then-buf-self
returns-then-buf-self c = let a = c.args in
    declined_is a.buf.now c.decline.ensures.0 c.decline.ensures.1 ∙ sym (accept_short a.self a.buf.now a.pkt.now (omega arith))

pub returns-then-is_empty : goal.returns-then-is_empty
returns-then-is_empty c = let a = c.args in
    declined_is a.buf.now c.decline-then-is_empty.ensures.0 c.decline-then-is_empty.ensures.1
    ∙ ⊎_elim
    (λ e. sym (accept_empty a.self a.buf.now a.pkt.now (omega arith) (eqb-true _ 0 (sym c.is_empty.ensures ∙ e))))
    (λ p. sym (accept_long a.self a.buf.now a.pkt.now (omega arith) p.1))
    c.then-is_empty.either

pub returns-then-is_full : goal.returns-then-is_full
returns-then-is_full c = let a = c.args in
    let some = eqb-false _ 0 (sym c.is_empty.ensures ∙ c.if-is_empty.false) in
    declined_is a.buf.now c.decline-then-is_full.ensures.0 c.decline-then-is_full.ensures.1
    ∙ sym (accept_full a.self a.buf.now a.pkt.now (omega arith) (omega (arith, some)) (omega arith) (sym c.is_full.ensures ∙ c.if-is_full.true))

pub returns : goal.returns
returns c =
    let a = c.args in
    let e = c.store.ensures in
    let some = eqb-false _ 0 (sym c.is_empty.ensures ∙ c.if-is_empty.false) in
    ap₂ (λ x y. record { outcome = Ok tt; outbox = x; buf = y }) e.0 e.1
    ∙ sym (accept_done a.self a.buf.now a.pkt.now (omega arith) (omega (arith, some)) (omega arith) (sym c.is_full.ensures ∙ c.if-is_full.false))

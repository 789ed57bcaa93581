use mathlib.Core.Path.{sym, ap₂, ◌∙◌}
use Rattle.std.specs.Prelude.{Result}
use Rattle.link.specs.Link.{as_turn}
use Rattle.link.specs.declared.refusal.Refusal.{Refusal}
use Rattle.link.specs.declared.pppos.PPPoS.{PPPoS}
use Rattle.link.specs.declared.pppos.PPPoSAction.{PPPoSAction}
use Rattle.link.proofs.Polling.{polled, answered_refused, answered-done}
use Rattle.link.proofs.pppos.PPPoS.answer.Goals as goal

pub returns-in-Ok : goal.returns-in-Ok
returns-in-Ok c =
    let a = c.args in
    c.write.ensures ∙ sym (answered-done a.self a.r (as_turn a.t) a.tx.now a.rx.now c.in-Ok.is)

pub returns-in-Err : goal.returns-in-Err
returns-in-Err c = let a = c.args in
    let e = c.decline.ensures in
    ap₂ (λ (x : Result PPPoSAction Refusal) (l : PPPoS). polled x l a.tx.now a.rx.now) e.0 (e.1 ∙ c.with_reader.ensures)
    ∙ sym (answered_refused a.self a.r (as_turn a.t) a.tx.now a.rx.now c.in-Err.is)

use mathlib.Core.Path.{sym, ◌∙◌}
use Rattle.phases.proofs.Phasing.{turns_refused, turns_rested, turns-done}
use Rattle.phases.proofs.ppp.Ppp.turn.Goals as goal

pub returns-in-Err : goal.returns-in-Err
returns-in-Err c = let a = c.args in
    turns_refused a.self a.pkt.now c.received-t.ensures c.in-Err.is c.refuse.ensures

pub returns-then-rests : goal.returns-then-rests
returns-then-rests c =
    let a = c.args in
    turns_rested a.self a.pkt.now c.received-t.ensures c.in_default.is (sym c.rests.ensures ∙ c.if-rests.true)

pub returns : goal.returns
returns c =
    let a = c.args in
    turns-done a.self a.pkt.now c.received-t.ensures c.in_default.is c.step_phase.ensures c.join.ensures

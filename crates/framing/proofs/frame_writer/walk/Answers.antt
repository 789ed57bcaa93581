use mathlib.Core.Path.{◌≡◌, refl, sym, ◌∙◌}
use mathlib.Core.List.{[]}
use Prim.Native.Nat.{◌+◌}
use native.Mathlib.Omega.{arith}
use lib.ListN.{drop, drop_of_length-le}
use Rattle.laws.proofs.Passed.{passed}
use Rattle.framing.specs.Writer.{units}
use Rattle.framing.proofs.Run.{run_next, run_stop, run_is, run_none, units-drop}
use Rattle.framing.proofs.Fcs.{fcs_turn, fcs_end}
use Rattle.framing.proofs.frame_writer.walk.Goals as goal

pub loop-b-preserved : goal.loop-b-preserved
loop-b-preserved c =
    let a = c.args in
    let n = c.loop-b.b-index in
    let u = units-drop a.asyncmap a.src.now n (omega arith) in (
      sym (run_next c.in_ok-at.ensures refl (units a.asyncmap (drop (n + 1) a.src.now))) ∙ rw u at c.loop-b.invariant.0,
      fcs_turn _ _ n a.src.now (omega arith) c.step-crc.ensures c.loop-b.invariant.1,
    )

pub returns-in_err-at : goal.returns-in_err-at
returns-in_err-at c =
    let a = c.args in
    let n = c.loop-b.b-index in
    let u = units-drop a.asyncmap a.src.now n (omega arith) in
    rw (passed _ _ c.from_residual.ensures.1)
    (record { ran = run_is (run_stop c.in_err-at.ensures refl (units a.asyncmap (drop (n + 1) a.src.now))) (rw u at c.loop-b.invariant.0); check = λ d. cc })

pub returns : goal.returns
unfolding units
returns c =
    let s = c.args.src.now in
    let e : drop c.loop-b.b-index s ≡ [] = drop_of_length-le s (omega arith) in
    record { ran = run_is (run_none refl) (rw e at c.loop-b.invariant.0); check = λ _. sym (fcs_end _ c.loop-b.b-index s (omega arith)) ∙ c.loop-b.invariant.1 }

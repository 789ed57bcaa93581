use mathlib.Core.Path.{refl}
use mathlib.Core.List.{◌++◌}
use Rattle.laws.proofs.Passed.{passed}
use Rattle.framing.specs.Rfc1662.{fcs}
use Rattle.framing.specs.Writer.{units, finish_units}
use Rattle.framing.proofs.Run.{run_stop, run_then}
use Rattle.framing.proofs.encode.frame_at.Goals as goal

pub returns-in_err-at : goal.returns-in_err-at
returns-in_err-at c =
    let a = c.args in
    let p = a.head.now ++ (a.part.now ++ a.rest.now) in
    rw (passed _ _ c.from_residual.ensures.1) (run_stop (run_stop c.in_err-at.ensures refl (units a.asyncmap p)) refl (finish_units a.asyncmap (fcs 0x3DE3 p)))

pub returns-in_err-at-2 : goal.returns-in_err-at-2
returns-in_err-at-2 c =
    let a = c.args in
    let p = a.head.now ++ (a.part.now ++ a.rest.now) in
    rw (passed _ _ c.from_residual-in_err-at-2.ensures.1) (run_stop (run_then c.in_ok-at.ensures refl c.in_err-at-2.ensures.ran) refl (finish_units a.asyncmap (fcs 0x3DE3 p)))

pub returns : goal.returns
returns c =
    run_then (run_then c.in_ok-at.ensures refl c.in_ok-at-2.ensures.ran) refl (rw (c.in_ok-at-2.ensures.check refl) at c.finish_at.ensures)

use Rattle.feeding.proofs.Feeding.{starts, again, still_all, still_few, finished}
use native.Mathlib.Omega.{arith}
use Rattle.options.proofs.Walks.{some_left, none_left}
use Rattle.feeding.proofs.feed.feed.Goals as goal

pub loop-rest-init : goal.loop-rest-init
loop-rest-init c = (omega arith, rw c.none.ensures (starts _ _ _ _), rw c.none.ensures (omega arith))

pub loop-rest-preserved : goal.loop-rest-preserved
loop-rest-preserved c = let l = c.loop-rest in
    let left = l.rest.now in
    let t = c.turn-t.ensures in
    let e = c.idle_after-idle.ensures in (
      still_all l.fed.count left l.invariant.0 t,
      rw e (again left (some_left c.is_empty.ensures c.loop-rest-test.true) (omega arith) l.invariant.1 t),
      still_few l.fed.link l.tx l.rx left l.fed.drops l.invariant.2 t,
    )

pub returns-else-idle-lt2 : goal.returns-else-idle-lt2
returns-else-idle-lt2 c = let l = c.loop-rest in
    finished c.args.src.now l.rest.now l.invariant.0 (λ z. omega arith) l.invariant.1

pub returns-after-loop-rest : goal.returns-after-loop-rest
returns-after-loop-rest c = let l = c.loop-rest in
    finished c.args.src.now l.rest.now l.invariant.0 (λ z. omega (arith, none_left c.is_empty.ensures c.loop-rest-test.false)) l.invariant.1

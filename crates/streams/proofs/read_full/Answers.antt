-- What a turn read stands behind the front.
use Rattle.std.proofs.Common.{arith, length-take-le}
use Rattle.std.proofs.lemmas.Grind.{common_steps}
use Rattle.streams.proofs.Reading.{Consumes-grown}
use Rattle.streams.proofs.read_full.Goals as goal

pub loop-done-preserved : goal.loop-done-preserved
loop-done-preserved g c =
    let done = c.loop-done.done in
    let before = c.loop-done.invariant in
    record {
      room = grind (arith, common_steps);
      within = grind (arith, common_steps);
      front = Consumes-grown _ _ _ _ c.read.new.buf _ done c.in_ok-n.n (length-take-le done c.loop-done.buf before.within) c.in_ok-n.ensures.bound.0 before.front c.in_ok-n.ensures.bytes.0;
    }

use mathlib.Core.Path.{ap}
use mathlib.Core.List.{[]}
use native.Mathlib.Omega.{arith}
use lib.ListN.{length, length-take}
use Rattle.link.proofs.Sending.{length-next, frames_end}
use Rattle.link.proofs.frames.replies_len.Goals as goal

pub overflow_add-n : goal.overflow_add-n
overflow_add-n c =
    record { fits = omega (arith, c.reply_len-n.ensures.1, c.loop-p.invariant.0, c.requires.few, length-take c.args.rs.count c.args.rs.packets) }

pub loop-p-preserved : goal.loop-p-preserved
loop-p-preserved c =
    let e = length-next c.args.rs c.loop-p.p-index (record { len = 0; bytes = [] }) (omega arith) in
    (omega (arith, c.reply_len-n.ensures.1), omega (arith, e, c.reply_len-n.ensures.0, c.loop-p.invariant.1))

pub returns : goal.returns
returns c = let e = ap length (frames_end c.args.rs c.loop-p.p-index (omega arith)) in
    omega (arith, e, c.loop-p.invariant.1)

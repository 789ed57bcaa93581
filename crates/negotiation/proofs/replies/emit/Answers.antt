use Rattle.std.proofs.Common.{arith}
use Rattle.laws.proofs.Be.{be_two}
use Rattle.options.proofs.Wires.{pushed_both, pushed_fresh, pushes}
use Rattle.negotiation.proofs.replies.emit.Goals as goal

pub returns : goal.returns
returns c = let b = c.blank in
    let h = pushes c.push_all.ensures b.ensures.1 (omega arith) in
    let k = pushes c.push_all-2.ensures h.tidy (omega (arith, h.len)) in
    let e = pushed_fresh _ b.ensures.0 (pushed_both h k) in
    simp be_two (rw (c.to_be_bytes.ensures, c.to_be_bytes-2.ensures) at e)

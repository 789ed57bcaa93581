use Rattle.std.proofs.Common.{arith, length-drop, length-take}
use Rattle.laws.proofs.Be.{be_two}
use Rattle.options.proofs.Wires.{pushed_both, pushed_fresh, pushes}
use Rattle.options.proofs.Walks.{rest}
use Rattle.negotiation.proofs.messages.echo_packet.Goals as goal

pub returns : goal.returns
returns c =
    let h = pushes c.push_all.ensures c.blank.ensures.1 (omega arith) in
    let k = pushes c.push_all-2.ensures h.tidy (simp (length-take, length-drop) (omega (arith, h.len))) in
    let e = pushed_fresh _ c.blank.ensures.0 (pushed_both h k) in
    simp be_two (rw (← c.protocol.ensures, ← rest c.args.p.now 3) (rw c.to_be_bytes.ensures at e))

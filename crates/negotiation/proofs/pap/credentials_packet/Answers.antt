use Rattle.std.proofs.Common.{arith}
use Rattle.options.proofs.Wires.{pushed_fresh, content_of_lem}
use Rattle.negotiation.proofs.Paps.{pushed_four}
use Rattle.negotiation.proofs.pap.credentials_packet.Goals as goal

pub emit_packet-requires : goal.emit_packet-requires
emit_packet-requires c =
    let e = pushed_four _ _ _ _ c.blank.ensures.0 c.push_all.ensures c.push_all-2.ensures c.push_all-3.ensures c.push_all-b.ensures (omega arith) in
    (e.0.tidy, omega (arith, e.1))

pub returns : goal.returns
returns c =
    let b = c.blank in
    let e = pushed_four _ _ _ _ b.ensures.0 c.push_all.ensures c.push_all-2.ensures c.push_all-3.ensures c.push_all-b.ensures (omega arith) in
    rw (content_of_lem (pushed_fresh _ b.ensures.0 e.0)) at c.emit_packet.ensures

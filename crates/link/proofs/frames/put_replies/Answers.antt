use mathlib.Core.Path.{ap, ◌∙◌}
use mathlib.Core.List.{[]}
use Prim.Native.Nat.{◌+◌, ◌<◌}
use native.Mathlib.Omega.{arith}
use lib.ListN.{length, take, get_or}
use Rattle.laws.proofs.Stores.{sets_append}
use Rattle.framing.specs.Rfc1662.{frame}
use Rattle.options.specs.Wire.{content_of}
use Rattle.options.specs.declared.wire.Packet.{Packet}
use Rattle.negotiation.proofs.Joining.{short_at}
use Rattle.link.specs.Frames.{every_byte}
use Rattle.link.proofs.Sending.{frames_from, frames-next, length-next, frames_end}
use Rattle.link.proofs.frames.put_replies.Goals as goal

pub put_reply-at-requires : goal.put_reply-at-requires
put_reply-at-requires c =
    let l = c.loop-p in
    let d : Packet = record { len = 0; bytes = [] } in
    let h : l.p-index < length (take c.args.rs.count c.args.rs.packets) = omega arith in
    (short_at c.args.rs l.p-index d h c.requires.0, omega (arith, length-next c.args.rs l.p-index d h, c.requires.1, l.invariant.0, l.invariant.1))

pub loop-p-preserved : goal.loop-p-preserved
loop-p-preserved c =
    let l = c.loop-p in
    let p = c.put_reply-at in
    let d : Packet = record { len = 0; bytes = [] } in
    let h : l.p-index < length (take c.args.rs.count c.args.rs.packets) = omega arith in
    let f = frame every_byte (content_of (get_or (take c.args.rs.count c.args.rs.packets) l.p-index d)) in
    let g = frames_from c.args.rs (l.p-index + 1) in (
      omega (arith, p.auto.tx, l.invariant.0),
      omega (arith, length-next c.args.rs l.p-index d h, p.ensures.0, l.invariant.1),
      rw (p.ensures.1, p.ensures.0) (sets_append f g l.tx l.at ∙ rw (frames-next c.args.rs l.p-index d h) at l.invariant.2),
    )

pub returns : goal.returns
returns c = let e = frames_end c.args.rs c.loop-p.p-index (omega arith) in
    (omega (arith, ap length e, c.loop-p.invariant.1), rw e at c.loop-p.invariant.2)

use mathlib.Core.Path.{◌≡◌, ◌∙◌}
use native.Mathlib.Omega.{arith}
use lib.ListN.{length}
use lib.Seq.{length-take-le}
use Rattle.options.specs.Wire.{max_packet, content_of}
use Rattle.link.proofs.Sending.{frame_short, capped_short}
use borrow.Author.Rules.{rules}
use Prim.Native.Nat.{◌≤◌}
use Rattle.link.proofs.frames.reply_len.Goals as goal

pub returns : goal.returns
returns c =
    let long : length c.args.p.bytes ≡ max_packet = search rules in
    let part : length (content_of c.args.p) ≡ c.args.p.len = length-take-le c.args.p.len c.args.p.bytes (omega (arith, long)) in
    let l = content_of c.args.p in
    let h : length l ≤ max_packet = omega (arith, part, c.requires) in
    let k = c.frame_len.ensures ∙ capped_short l h in
    (k, omega (arith, k, frame_short l h))

use mathlib.Core.Path.{◌≡◌, ap, ◌∙◌}
use Prim.Native.Nat.{◌^◌}
use native.Mathlib.Omega.{arith}
use borrow.Author.Tests.{lt-ltb, le-ltb}
use lib.ListN.{length}
use Rattle.laws.proofs.Cases.{by_le}
use Rattle.framing.specs.Rfc1662.{fcs, check_bytes, stuffed, frame}
use Rattle.framing.proofs.Frame.{frame_parts}
use Rattle.framing.proofs.encode.frame_len.Goals as goal

pub returns : goal.returns
returns c = let a = c.args in
    let s = a.src.now in
    let e : c.stuffed_len.result ≡ length (stuffed a.asyncmap (check_bytes (fcs 0x3DE3 s))) = c.stuffed_len.ensures.0 ∙ ap (λ l. length (stuffed a.asyncmap l)) (c.check_bytes-check.ensures ∙ ap check_bytes c.crc16.ensures) in
    by_le (2 ^ 64) (length (frame a.asyncmap s))
    (λ h. rw (le-ltb (length (frame a.asyncmap s)) (2 ^ 64) h) (omega (arith, frame_parts a.asyncmap s, e)))
    (λ h. rw (lt-ltb (length (frame a.asyncmap s)) (2 ^ 64) h) (omega (arith, frame_parts a.asyncmap s, e)))

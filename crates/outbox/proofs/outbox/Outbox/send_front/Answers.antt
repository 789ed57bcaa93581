use native.Mathlib.Omega.{arith}
use mathlib.Core.Path.{◌≡◌, ap, ap₂, sym, ◌∙◌}
use Prim.Native.Nat.{◌+◌, ◌-◌}
use lib.ListN.{take, drop}
use lib.Seq.{length-take-le}
use Rattle.outbox.specs.Ring.{around}
use Rattle.outbox.proofs.Contents.{first_fits, front_one, front_two}
use Rattle.outbox.proofs.Sending.{sends_as}
use Rattle.outbox.proofs.outbox.Outbox.send_front.Goals as goal

pub place-from-requires : goal.place-from-requires
place-from-requires c =
    let a = c.args in
    omega (arith, c.ring.ensures.0, first_fits a.self a.buf.now c.requires.0 a.n c.requires.1 (omega arith))

pub returns-then-n-room : goal.returns-then-n-room
returns-then-n-room c =
    let a = c.args in
    let buf = a.buf.now in
    let from = c.place-from.result in
    let fit : from + a.n - from ≡ a.n = omega arith in
    sends_as (ap (λ m. take m (drop from buf)) fit ∙ front_one a.self buf c.requires.0 a.n from c.requires.1 (omega arith) (c.place-from.ensures.0 ∙ ap₂ (λ n x. around n (x + 2)) c.ring.ensures.0 c.ring.ensures.1) (omega (arith, c.if-n-room.true, c.place-from.ensures.1, c.ring.ensures.0)))
    c.send-then-n-room.ensures

pub slice_bounds-send_parts-length-2 : goal.slice_bounds-send_parts-length-2
slice_bounds-send_parts-length-2 c =
    let a = c.args in
    let buf = a.buf.now in
    sym (length-take-le _ _ (omega (arith, first_fits a.self buf c.requires.0 a.n c.requires.1 (omega arith), c.requires.0)))

pub returns : goal.returns
returns c =
    let a = c.args in
    let buf = a.buf.now in
    let from = c.place-from.result in
    sends_as (front_two a.self buf c.requires.0 a.n from c.requires.1 (omega arith) (c.place-from.ensures.0 ∙ ap₂ (λ n x. around n (x + 2)) c.ring.ensures.0 c.ring.ensures.1) (omega (arith, c.if-n-room.false, c.place-from.ensures.1, c.ring.ensures.0)))
    c.send_parts.ensures

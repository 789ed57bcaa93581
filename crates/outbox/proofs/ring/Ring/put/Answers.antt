use mathlib.Core.Path.{ap, ◌∙◌}
use Prim.Native.Nat.{◌-◌}
use native.Mathlib.Omega.{arith}
use lib.ListN.{length, take, drop, length-drop}
use lib.Seq.{sets, take_all}
use Rattle.outbox.proofs.Rings.{put_one, put_two}
use Rattle.outbox.proofs.ring.Ring.put.Goals as goal

pub returns-then-src-room : goal.returns-then-src-room
returns-then-src-room c =
    let a = c.args in
    c.copy.ensures
    ∙ put_one a.self.size a.self.front a.behind a.src.now a.buf.now c.requires.0 c.args.self.within c.requires.1 _ c.place-at.ensures.0 (omega (arith, c.place-at.ensures.1))

pub returns : goal.returns
returns c =
    let a = c.args in
    let at = c.place-at.result in
    let room = a.self.size - at in
    let src = a.src.now in
    c.copy-3.ensures
    ∙ ap (λ l. sets l 0 (take (length src - room) (drop room src))) c.copy-2.ensures
    ∙ ap (sets (sets a.buf.now at (take room src)) 0) (take_all (length src - room) (drop room src) (simp length-drop (omega arith)))
    ∙ put_two a.self.size a.self.front a.behind src a.buf.now c.requires.0 c.args.self.within c.requires.1 at c.place-at.ensures.0 (omega arith)

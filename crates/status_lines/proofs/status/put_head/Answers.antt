use Rattle.status_lines.proofs.Writing.{joined}
use Rattle.status_lines.specs.Lines.{head_of}
use mathlib.Core.List.{append_assoc}
use Rattle.status_lines.proofs.status.put_head.Goals as goal

pub returns : goal.returns
unfolding head_of
returns c =
    let name = rw c.phase_name.ensures at c.put-i-2.ensures in
    let up = rw c.up_name.ensures at c.put-i-4.ensures in
    simp append_assoc (joined c.put-i.ensures (joined name (joined c.put-i-3.ensures (joined up c.put.ensures))))

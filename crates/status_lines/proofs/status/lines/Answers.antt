use Rattle.status_lines.proofs.Writing.{lines_count, lines_front, lines_short, lines_shown}
use native.Mathlib.Omega.{arith}
use Rattle.status_lines.proofs.status.lines.Goals as goal

pub slice_bounds-text-end : goal.slice_bounds-text-end
slice_bounds-text-end c =
    let s = c.args.s in
    omega (arith, lines_count s c.fields_of.ensures c.put_lines-n.ensures, lines_short s)

pub slice_bounds-put-end : goal.slice_bounds-put-end
slice_bounds-put-end c =
    let s = c.args.s in
    let count = lines_count s c.fields_of.ensures c.put_lines-n.ensures in
    rw (lines_front s c.fields_of.ensures c.put_lines-n.ensures) (omega (arith, count))

pub returns : goal.returns
returns c =
    let s = c.args.s in
    let count = lines_count s c.fields_of.ensures c.put_lines-n.ensures in
    lines_shown s (lines_front s c.fields_of.ensures c.put_lines-n.ensures) (omega (arith, count)) c.put.ensures

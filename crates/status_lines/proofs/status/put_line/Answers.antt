use Rattle.status_lines.proofs.Writing.{joined, address_short}
use native.Mathlib.Omega.{arith}
use Rattle.status_lines.specs.Lines.{address_line}
use Rattle.status_lines.proofs.status.put_line.Goals as goal

pub put-requires : goal.put-requires
put-requires c = omega (arith, address_short c.args.a)

pub returns : goal.returns
unfolding address_line
returns c =
    joined c.put-i.ensures (joined c.put_address-i.ensures c.put.ensures)

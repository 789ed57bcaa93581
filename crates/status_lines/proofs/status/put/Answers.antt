use Rattle.status_lines.proofs.Writing.{copied}
use native.Mathlib.Omega.{arith}
use borrow.Author.Rules.{rules}
use Rattle.status_lines.proofs.status.put.Goals as goal

pub returns : goal.returns
returns c = copied c.args.src.now c.args.buf.now c.args.at (search rules) (omega arith)

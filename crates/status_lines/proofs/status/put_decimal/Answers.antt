use native.Mathlib.Omega.{arith}
use borrow.Author.Tests.{lt-ltb, le-ltb}
use Rattle.status_lines.specs.Lines.{decimal}
use Rattle.status_lines.proofs.status.put_decimal.Goals as goal

pub returns-then-n-lt10 : goal.returns-then-n-lt10
unfolding decimal
returns-then-n-lt10 c = (rw (lt-ltb _ _ c.if-n-lt10.true) c.put.ensures, omega arith)

pub returns-then-n-lt100 : goal.returns-then-n-lt100
unfolding decimal
returns-then-n-lt100 c = (rw (le-ltb _ _ c.if-n-lt10.false, lt-ltb _ _ c.if-n-lt100.true) c.put-then-n-lt100.ensures, omega arith)

pub returns : goal.returns
unfolding decimal
returns c = (rw (le-ltb _ _ c.if-n-lt10.false, le-ltb _ _ c.if-n-lt100.false) c.put-2.ensures, omega arith)

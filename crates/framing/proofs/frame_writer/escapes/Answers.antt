use borrow.Author.Tests.{lt-ltb, le-ltb, eq-eqb, ne_eqb}
use Rattle.framing.specs.Rfc1662.{escaped}
use Rattle.framing.proofs.frame_writer.escapes.Goals as goal

pub returns-then-b-lt32 : goal.returns-then-b-lt32
unfolding escaped
returns-then-b-lt32 c = simp (c.from.ensures, lt-ltb _ _ c.if-b-lt32.true)

pub returns-then-b-eq125 : goal.returns-then-b-eq125
unfolding escaped
returns-then-b-eq125 c = simp (le-ltb _ _ c.if-b-lt32.false, eq-eqb _ _ c.if-b-eq125.true)

pub returns-else-b-eq125 : goal.returns-else-b-eq125
unfolding escaped
returns-else-b-eq125 c = simp (le-ltb _ _ c.if-b-lt32.false, ne_eqb _ _ c.if-b-eq125.false)

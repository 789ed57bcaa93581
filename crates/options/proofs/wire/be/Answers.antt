use mathlib.Core.Path.{sym, ◌∙◌}
use borrow.Author.Rules.{rules}
use native.Mathlib.Omega.{arith}
use Rattle.laws.proofs.Be.{be_step, be_end, be_bound}
use Rattle.options.proofs.wire.be.Goals as goal

pub loop-b-preserved : goal.loop-b-preserved
loop-b-preserved c = let l = c.loop-b in
    let d = c.args.d.now in (
      be_bound _ _ _ l.invariant.0 (search rules),
      l.invariant.1 ∙ rw c.from.ensures (be_step d l.v l.b-index (omega arith)),
    )

pub returns : goal.returns
returns c = let l = c.loop-b in
    sym (l.invariant.1 ∙ be_end _ l.v l.b-index (omega arith) (omega arith))

use mathlib.Core.Path.{ap, sym, ◌∙◌}
use mathlib.Core.Bool.{not}
use Rattle.phases.specs.Phases.{rests_of}
use Rattle.phases.proofs.ppp.Ppp.rests.Goals as goal

pub returns-then-rests_in : goal.returns-then-rests_in
unfolding rests_of
returns-then-rests_in c = rw (← c.closed.ensures, ← c.opened.ensures, sym c.rests_in.ensures ∙ c.if-rests_in.true) (ap not c.dies.ensures)

pub returns-else-rests_in : goal.returns-else-rests_in
unfolding rests_of
returns-else-rests_in c = rw (← c.closed.ensures, ← c.opened.ensures, sym c.rests_in.ensures ∙ c.if-rests_in.false) c.if-rests_in.false

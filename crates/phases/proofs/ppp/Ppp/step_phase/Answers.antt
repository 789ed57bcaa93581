use mathlib.Core.Path.{refl}
use Rattle.phases.specs.Phases.{phase_of}
use Rattle.phases.proofs.ppp.Ppp.step_phase.Goals as goal

pub returns : goal.returns
unfolding phase_of
returns c = rw (c.settle.ensures, c.by_phase-s.ensures) refl

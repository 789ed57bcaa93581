use mathlib.Core.Path.{refl}
use Rattle.laws.proofs.Same.{same_slices}
use Rattle.options.proofs.lcp.Lcp.peer_option_received.Goals as goal

pub returns-in-3 : goal.returns-in-3
returns-in-3 c = rw (c.in-3.is, ← c.suggestion.ensures, ← same_slices, ← c.eq.ensures, c.if-eq.true) refl

pub returns-in-3-2 : goal.returns-in-3-2
returns-in-3-2 c = rw (c.in-3.is, ← c.suggestion.ensures, ← same_slices, ← c.eq.ensures, c.if-eq.false) refl

use mathlib.Core.Path.{refl}
use Rattle.options.specs.Lcp.{suggestion_lcp}
use Rattle.options.proofs.lcp.Lcp.suggestion.Goals as goal

pub returns : goal.returns
unfolding suggestion_lcp
returns c = refl

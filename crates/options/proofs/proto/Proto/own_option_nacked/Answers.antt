use mathlib.Core.Path.{refl}
use Rattle.options.specs.Proto.{own_nacked}
use Rattle.options.proofs.proto.Proto.own_option_nacked.Goals as goal

pub returns-in-Lcp : goal.returns-in-Lcp
unfolding own_nacked
returns-in-Lcp c = rw (c.in-Lcp.is, c.own_option_nacked.ensures) refl

pub returns-in-Ipv4cp : goal.returns-in-Ipv4cp
unfolding own_nacked
returns-in-Ipv4cp c = rw (c.in-Ipv4cp.is, c.own_option_nacked-in-Ipv4cp.ensures) refl

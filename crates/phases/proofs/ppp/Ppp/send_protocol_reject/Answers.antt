use mathlib.Core.Path.{refl}
use Rattle.phases.specs.Phases.{reject_of}
use Rattle.phases.proofs.ppp.Ppp.send_protocol_reject.Goals as goal

pub returns : goal.returns
unfolding reject_of
returns c = rw (c.take_lcp.ensures, c.send_protocol_reject.ensures, c.wrap.ensures) refl

use mathlib.Core.Path.{◌∙◌}
use Rattle.link.proofs.Sending.{starts_ip}
use Rattle.link.proofs.pppos.is_ip.Goals as goal

pub returns : goal.returns
returns c = c.starts_with.ensures.value ∙ starts_ip c.args.pkt.now

use Rattle.options.proofs.Fair.{own_packet}
use Rattle.options.proofs.proto.Proto.own_options.Goals as goal
use Rattle.options.specs.declared.proto.Proto.TheVariants.{Lcp, Ipv4cp}

pub returns-in-Lcp : goal.returns-in-Lcp
returns-in-Lcp c = rw c.in-Lcp.is (own_packet (Lcp c.in-Lcp.l) c.own_options.ensures)

pub returns-in-Ipv4cp : goal.returns-in-Ipv4cp
returns-in-Ipv4cp c = rw c.in-Ipv4cp.is (own_packet (Ipv4cp c.in-Ipv4cp.i) c.own_options-in-Ipv4cp.ensures)

-- A protocol as the automaton's step takes it, and back.
use Rattle.options.specs.declared.proto.Proto.{Proto}
use Rattle.options.specs.declared.proto.Proto.TheVariants as proto
use Rattle.options.specs.declared.lcp.Lcp.{Lcp}
use Rattle.options.specs.declared.ipv4cp.Ipv4cp.{Ipv4cp}
use Rattle.negotiation.specs.declared.states.State.TheVariants.{Closed}
use Rattle.negotiation.specs.declared.option_fsm.OptionFsm.{OptionFsm}

abbrev pub of_lcp : Lcp → Proto
of_lcp p = proto.Lcp p

abbrev pub of_ipv4cp : Ipv4cp → Proto
of_ipv4cp p = proto.Ipv4cp p

-- a step keeps the protocol, so another one is never met
abbrev pub lcp_or : Proto → Lcp → Lcp
lcp_or (proto.Lcp p) q = p
lcp_or (proto.Ipv4cp p) q = q

abbrev pub ipv4cp_or : Proto → Ipv4cp → Ipv4cp
ipv4cp_or (proto.Lcp p) q = q
ipv4cp_or (proto.Ipv4cp p) q = p

-- an automaton before it was ever opened
abbrev pub fresh_fsm : {P : Type 0} → P → OptionFsm P
fresh_fsm p = record { id = 1; state = Closed; proto = p }

-- the record with another protocol
abbrev pub with_proto : {P Q : Type 0} → OptionFsm P → Q → OptionFsm Q
with_proto f p = record { id = f.id; state = f.state; proto = p }

-- The two protocols that negotiate options, by cases.
use Rattle.std.specs.Prelude.{Bool, List, [], ℕ, Ok, Err}
use Rattle.options.specs.Lcp.{start_lcp, suggestion_lcp, judge_lcp, own_lcp, lcp_nacked}
use Rattle.options.specs.Ipv4cp.{judge_ipv4cp, own_ipv4cp, ipv4cp_nacked}
use Rattle.options.specs.Options.{Walk, done, cut, opt}
use Rattle.options.specs.declared.proto.Proto.{Proto}
use Rattle.options.specs.declared.proto.Proto.TheVariants.{Lcp, Ipv4cp}
use Rattle.options.specs.declared.proto.Judged.{Judged}
use Rattle.options.specs.declared.proto.Nacked.{Nacked}
use Rattle.options.specs.declared.refusal.Refusal.TheVariants.{OptionCut}

abbrev pub protocol_of : Proto → ℕ
protocol_of (Lcp p) = 0xC021
protocol_of (Ipv4cp p) = 0x8021

abbrev pub start_of : Proto → Proto
start_of (Lcp p) = Lcp (start_lcp p)
start_of (Ipv4cp p) = Ipv4cp p

-- the value that a Nack sends back; IPv4CP never nacks
abbrev pub suggestion_of : Proto → List ℕ
suggestion_of (Lcp p) = suggestion_lcp p
suggestion_of (Ipv4cp p) = []

-- the verdict on an option c with the value d, and what the option changes
abbrev pub judge_of : Proto → ℕ → List ℕ → Judged Proto
judge_of (Lcp p) c d = record { verdict = (judge_lcp p c d).verdict; proto = Lcp (judge_lcp p c d).proto }
judge_of (Ipv4cp p) c d = record { verdict = (judge_ipv4cp p c d).verdict; proto = Ipv4cp (judge_ipv4cp p c d).proto }

-- the options of an own request
abbrev pub own_of : Proto → List ℕ
own_of (Lcp p) = own_lcp p
own_of (Ipv4cp p) = own_ipv4cp p

unfoldable pub own_nacked : Proto → ℕ → List ℕ → Bool → Proto
own_nacked (Lcp p) c d rej = Lcp (lcp_nacked p c d rej)
own_nacked (Ipv4cp p) c d rej = Ipv4cp (ipv4cp_nacked p c d rej)

-- all options of a Nack or a Rej
unfoldable pub nacks_of : Bool → Proto → Walk → Nacked
nacks_of rej p done = record { outcome = Ok tt; proto = p }
nacks_of rej p (cut at) = record { outcome = Err (OptionCut at); proto = p }
nacks_of rej p (opt c d w) = nacks_of rej (own_nacked p c d rej) w

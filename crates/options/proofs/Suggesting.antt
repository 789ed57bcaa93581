-- Laws of what a Nack suggests: few bytes, and the same ones throughout a request.
-- Assumes nothing.
use Prim.Native.Nat.{ℕ, ◌≤◌}
use mathlib.Core.Path.{◌≡◌, refl}
use mathlib.Core.List.{List}
use native.Mathlib.Omega.{arith}
use lib.Dec.{lit<}
use lib.ListN.{length}
use Rattle.laws.specs.Each.{Bytes}
use Rattle.options.specs.declared.proto.Proto.{Proto}
use Rattle.options.specs.declared.proto.Proto.TheVariants.{Lcp, Ipv4cp}
use Rattle.options.specs.Lcp.{suggestion_lcp}
use Rattle.options.specs.Options.{max_option_len}
use Rattle.options.specs.Proto.{start_of, suggestion_of, judge_of}

pub suggestion_short : (p : Proto) → length (suggestion_of p) ≤ max_option_len
unfolding suggestion_lcp
suggestion_short (Lcp p) = omega arith
suggestion_short (Ipv4cp p) = omega arith

pub suggestion_bytes : (p : Proto) → Bytes (suggestion_of p)
unfolding suggestion_lcp
suggestion_bytes (Lcp p) = (lit< tt, (lit< tt, tt))
suggestion_bytes (Ipv4cp p) = tt

-- no option changes it, nor does a request's start
pub judge_suggestion : (p : Proto) (c : ℕ) (d : List ℕ) → suggestion_of (judge_of p c d).proto ≡ suggestion_of p
unfolding suggestion_lcp
judge_suggestion (Lcp p) c d = refl
judge_suggestion (Ipv4cp p) c d = refl

pub start_suggestion : (p : Proto) → suggestion_of (start_of p) ≡ suggestion_of p
unfolding suggestion_lcp
start_suggestion (Lcp p) = refl
start_suggestion (Ipv4cp p) = refl

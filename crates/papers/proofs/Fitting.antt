-- The numbers of a protocol's record stay 32 bits wide, so the own request that follows a packet is the papers' too.
-- Assumes nothing.
use Prim.Native.Nat.{ℕ, ◌<◌}
use mathlib.Core.Path.{◌≡◌}
use mathlib.Core.Bool.{Bool, true, cond, not, ◌&&◌}
use mathlib.Core.List.{List, [], ◌∷◌}
use borrow.Author.Tests.{eqb-true}
use native.Mathlib.Omega.{arith}
use lib.Dec.{eqb}
use lib.ListN.{length}
use Rattle.laws.specs.Be.{be_of}
use Rattle.laws.specs.Each.{Each, Bytes}
use Rattle.laws.specs.Same.{same}
use Rattle.laws.proofs.Be.{be_less}
use Rattle.laws.proofs.Cases.{cond_by, cond_all, both}
use Rattle.laws.proofs.Each.{each_left, each_right}
use Rattle.options.specs.declared.ipv4cp.IpOption.{IpOption}
use Rattle.options.specs.declared.ipv4cp.Ipv4cp.{Ipv4cp}
use Rattle.options.specs.declared.lcp.Lcp.{Lcp}
use Rattle.options.specs.declared.proto.Judged.{Judged}
use Rattle.options.specs.declared.proto.Proto.{Proto}
use Rattle.options.specs.declared.proto.Proto.TheVariants.{Lcp as OfLcp, Ipv4cp as OfIpv4cp}
use Rattle.papers.specs.Rfc1661.{Option, Options, none, more}
use Rattle.options.specs.Lcp.{fresh_lcp, suggestion_lcp}
use Rattle.options.specs.Ipv4cp.{fresh_ipv4cp, ip_nacked}
use Rattle.options.specs.Proto.{start_of, judge_of, own_nacked}
use Rattle.papers.proofs.Verdicts.{judged_all}
use Rattle.papers.proofs.Sending.{Fits}
use Rattle.papers.proofs.Judging.{taken_up}

-- fresh records are so
pub fits_fresh : Fits (OfLcp fresh_lcp) × Fits (OfIpv4cp fresh_ipv4cp)
fits_fresh = (omega arith, (omega arith, omega arith, omega arith))

-- the values of a list of bytes are bytes
pub values_bytes : {s : List ℕ} {os : List Option} → Options s os → Bytes s → Each (λ o. Bytes o.value) os
values_bytes none b = tt
values_bytes (more {bytes} o h k p) b = (each_left _ o.value bytes b.1.1, values_bytes p (each_right _ o.value bytes b.1.1))

-- four bytes say a number of 32 bits
four_bytes : (rej : Bool) (d : List ℕ) → Bytes d → not rej && eqb (length d) 4 ≡ true → be_of d < 0x100000000
four_bytes rej d b e = rw (eqb-true (length d) 4 (both (not rej) (eqb (length d) 4) e).1) at (be_less d b)

-- ---- as a Nak or a Reject changes them

fits_address : (rej : Bool) (q : IpOption) (d : List ℕ) → Bytes d → q.address < 0x100000000 → (ip_nacked q d rej).address < 0x100000000
fits_address rej q d b h =
    cond_by (λ (o : IpOption). o.address < 0x100000000) (not rej && eqb (length d) 4) (λ e. four_bytes rej d b e) (λ _. h)

fits_own : (rej : Bool) (t : Bool) (q : IpOption) (d : List ℕ) → Bytes d → q.address < 0x100000000 → (cond t (ip_nacked q d rej) q).address < 0x100000000
fits_own rej t q d b h = cond_all (λ (o : IpOption). o.address < 0x100000000) t (fits_address rej q d b h) h

fits_nacked : (rej : Bool) (p : Proto) (c : ℕ) (d : List ℕ) → Bytes d → Fits p → Fits (own_nacked p c d rej)
unfolding own_nacked
fits_nacked rej (OfLcp p) c d b h =
    let P : Lcp → Type 0 = λ q. q.asyncmap < 0x100000000 in
    cond_all P (eqb c 2) (cond_by P (not rej && eqb (length d) 4) (λ e. four_bytes rej d b e) (λ _. h)) h
fits_nacked rej (OfIpv4cp p) c d b h =
    (fits_own rej (eqb c 3) p.address d b h.0, fits_own rej (eqb c 129) p.dns_server_1 d b h.1, fits_own rej (eqb c 131) p.dns_server_2 d b h.2)

pub fits_taken : (rej : Bool) (p : Proto) (os : List Option) → Each (λ o. Bytes o.value) os → Fits p → Fits (taken_up rej p os)
fits_taken rej p [] b h = h
fits_taken rej p (o ∷ os) b h = fits_taken rej (own_nacked p o.type o.value rej) os b.1 (fits_nacked rej p o.type o.value b.0 h)

-- ---- as a request leaves them

fits_one : (p : Proto) (c : ℕ) (d : List ℕ) → Fits p → Fits (judge_of p c d).proto
fits_one (OfLcp p) c d h =
    let P : Judged Lcp → Type 0 = λ j. j.proto.asyncmap < 0x100000000 in
    cond_all P (eqb c 2) (cond_all P (eqb (length d) 4) h h) (cond_all P (eqb c 3) (cond_all P (same d (suggestion_lcp p)) h h) h)
fits_one (OfIpv4cp p) c d h =
    cond_all (λ (j : Judged Ipv4cp). Fits (OfIpv4cp j.proto)) (eqb c 3 && eqb (length d) 4) h h

fits_judged : (p : Proto) (os : List Option) → Fits p → Fits (judged_all p os)
fits_judged p [] h = h
fits_judged p (o ∷ os) h = fits_judged (judge_of p o.type o.value).proto os (fits_one p o.type o.value h)

fits_start : (p : Proto) → Fits p → Fits (start_of p)
fits_start (OfLcp p) h = h
fits_start (OfIpv4cp p) h = h

pub fits_asked : (p : Proto) (os : List Option) → Fits p → Fits (judged_all (start_of p) os)
fits_asked p os h = fits_judged (start_of p) os (fits_start p h)

-- How an option of a request is judged, by the option that the paper has (RFC 1661, 6.2; RFC 1662, 7.1; RFC 1334, 2.1; RFC 1332, 3.3).
-- Assumes nothing.
use Prim.Native.Nat.{ℕ, ◌/◌, ◌%◌}
use mathlib.Core.Path.{◌≡◌, refl, ap, sym, ◌∙◌}
use mathlib.Core.Bool.{Bool, true, false, cond, ◌&&◌}
use mathlib.Core.List.{List, [], ◌∷◌, ◌++◌}
use borrow.Author.Tests.{ne_eqb}
use native.Mathlib.Omega.{arith}
use lib.Dec.{eqb}
use lib.ListN.{length}
use Rattle.laws.specs.Each.{Each}
use Rattle.laws.specs.Same.{same}
use Rattle.laws.proofs.Cases.{by_test, cond_all, cond_ap}
use Rattle.laws.proofs.Same.{same_eq}
use Rattle.options.specs.declared.ipv4cp.Ipv4cp.{Ipv4cp}
use Rattle.options.specs.declared.lcp.AuthType.TheVariants.{Pap}
use Rattle.options.specs.declared.lcp.Lcp.{Lcp}
use Rattle.options.specs.declared.proto.Judged.{Judged}
use Rattle.options.specs.declared.proto.Proto.{Proto}
use Rattle.options.specs.declared.proto.Proto.TheVariants.{Lcp as OfLcp, Ipv4cp as OfIpv4cp}
use Rattle.options.specs.declared.proto.Verdict.{Verdict}
use Rattle.options.specs.declared.proto.Verdict.TheVariants.{Ack, Nack, Rej}
use Rattle.papers.specs.Rfc1661.{Option, AuthenticationProtocol}
use Rattle.papers.specs.Rfc1662Options.{AsyncMap}
use Rattle.papers.specs.Rfc1332.{IpAddress}
use Rattle.papers.specs.Rfc1334.{pap, PapOption}
use Rattle.options.specs.Ipv4cp.{fresh_ipv4cp}
use Rattle.options.specs.Lcp.{with_auth, suggestion_lcp, judge_lcp, judged_lcp}
use Rattle.options.specs.Proto.{judge_of}
use Rattle.options.proofs.Suggesting.{judge_suggestion}
use Rattle.papers.proofs.Layouts1662.{judge_map}
use Rattle.papers.proofs.Layouts1332.{judge_address}

-- ---- the verdict on an option, which no earlier option changes

-- s is what is suggested
abbrev pub lcp_verdict : List ℕ → ℕ → List ℕ → Verdict
lcp_verdict s c d = cond (eqb c 2) (cond (eqb (length d) 4) Ack Rej) (cond (eqb c 3) (cond (same d s) Ack Nack) Rej)

abbrev pub ipv4cp_verdict : ℕ → List ℕ → Verdict
ipv4cp_verdict c d = cond (eqb c 3 && eqb (length d) 4) Ack Rej

abbrev pub verdict_of : Proto → ℕ → List ℕ → Verdict
verdict_of (OfLcp p) = lcp_verdict (suggestion_lcp p)
verdict_of (OfIpv4cp p) = ipv4cp_verdict

pub judged_verdict : (p : Proto) (c : ℕ) (d : List ℕ) → (judge_of p c d).verdict ≡ verdict_of p c d
judged_verdict (OfLcp p) c d = go (eqb c 2) (eqb (length d) 4) (eqb c 3) (same d (suggestion_lcp p)) _ _ _ _ _
  where
    go : (s t u v : Bool) (a b e f g : Judged Lcp) → (cond s (cond t a b) (cond u (cond v e f) g)).verdict
        ≡ cond s (cond t a.verdict b.verdict) (cond u (cond v e.verdict f.verdict) g.verdict)
    go true true u v a b e f g = refl
    go true false u v a b e f g = refl
    go false t true true a b e f g = refl
    go false t true false a b e f g = refl
    go false t false v a b e f g = refl
judged_verdict (OfIpv4cp p) c d = cond_ap (λ (j : Judged Ipv4cp). j.verdict) (eqb c 3 && eqb (length d) 4) _ _

pub judged_proto : (p : Proto) (c : ℕ) (d : List ℕ) → verdict_of (judge_of p c d).proto ≡ verdict_of p
judged_proto (OfLcp p) c d = ap lcp_verdict (judge_suggestion (OfLcp p) c d)
judged_proto (OfIpv4cp p) c d = refl

-- ---- Authentication-Protocol

-- for PAP it is acked, and PAP is what is asked for
pub judge_pap : (p : Lcp) {o : Option} → PapOption o → judge_lcp p o.type o.value ≡ judged_lcp Ack (with_auth p Pap)
unfolding same suggestion_lcp
judge_pap p x = rw (x.value, x.type) refl

-- in any other way it is nacked
pub judge_else : (p : Lcp) (o : Option) → o.type ≡ 3 → (PapOption o → ⊥) → judge_lcp p o.type o.value ≡ judged_lcp Nack p
unfolding suggestion_lcp
judge_else p o e n =
    by_test (same o.value (suggestion_lcp p))
    (λ t. absurd (n (record { small = omega arith; type = e; value = same_eq o.value (suggestion_lcp p) (rw t tt) })))
    (λ t. rw (e, t) refl)

-- so it is for any other protocol
pub judge_other : (p : Lcp) {o : Option} {n : ℕ} {needed : List ℕ} → AuthenticationProtocol o n needed → (n ≡ pap → ⊥)
    → judge_lcp p o.type o.value ≡ judged_lcp Nack p
judge_other p {o} {n} {needed} x k =
    judge_else p o x.type
    (λ y.
    let e : n / 256 ∷ n % 256 ∷ needed ≡ 0xC0 ∷ 0x23 ∷ [] = sym x.value ∙ y.value in
    let a : n / 256 ≡ 0xC0 = cc in
    let b : n % 256 ≡ 0x23 = cc in
    k (omega arith))

-- ---- the verdicts of the papers' options

lcp_verdict_lem : (p : Lcp) (o : Option) {v : Verdict} {q : Lcp} → judge_lcp p o.type o.value ≡ judged_lcp v q
    → verdict_of (OfLcp p) o.type o.value ≡ v
lcp_verdict_lem p o e = sym (judged_verdict (OfLcp p) o.type o.value) ∙ ap (λ (j : Judged Lcp). j.verdict) e

pub pap_acked : (p : Lcp) {o : Option} → PapOption o → verdict_of (OfLcp p) o.type o.value ≡ Ack
pap_acked p {o} x = lcp_verdict_lem p o (judge_pap p x)

pub other_nacked : (p : Lcp) {o : Option} {n : ℕ} {needed : List ℕ} → AuthenticationProtocol o n needed → (n ≡ pap → ⊥)
    → verdict_of (OfLcp p) o.type o.value ≡ Nack
other_nacked p {o} x k = lcp_verdict_lem p o (judge_other p x k)

pub map_acked : (p : Lcp) {o : Option} {m : ℕ} → AsyncMap o m → verdict_of (OfLcp p) o.type o.value ≡ Ack
map_acked p {o} x = lcp_verdict_lem p o (judge_map x p)

pub address_acked : {o : Option} {a : ℕ} → IpAddress o a → ipv4cp_verdict o.type o.value ≡ Ack
address_acked {o} x =
    sym (judged_verdict (OfIpv4cp fresh_ipv4cp) o.type o.value) ∙ ap (λ (j : Judged Ipv4cp). j.verdict) (judge_address fresh_ipv4cp x)

-- any other option is rejected (RFC 1661, 5.4)
pub lcp_rejects : (p : Lcp) (o : Option) → (o.type ≡ 2 → ⊥) → (o.type ≡ 3 → ⊥) → verdict_of (OfLcp p) o.type o.value ≡ Rej
lcp_rejects p o h k = rw (ne_eqb o.type 2 h, ne_eqb o.type 3 k) refl

pub ipcp_rejects : (o : Option) → (o.type ≡ 3 → ⊥) → ipv4cp_verdict o.type o.value ≡ Rej
ipcp_rejects o h = rw (ne_eqb o.type 3 h) refl

-- ---- the whole of a request

abbrev pub judged_lcps : Lcp → List Option → Lcp
judged_lcps p [] = p
judged_lcps p (o ∷ os) = judged_lcps (judge_lcp p o.type o.value).proto os

abbrev pub judged_all : Proto → List Option → Proto
judged_all p [] = p
judged_all p (o ∷ os) = judged_all (judge_of p o.type o.value).proto os

pub judged_lcps_lem : (p : Lcp) (os : List Option) → judged_all (OfLcp p) os ≡ OfLcp (judged_lcps p os)
judged_lcps_lem p [] = refl
judged_lcps_lem p (o ∷ os) = judged_lcps_lem (judge_lcp p o.type o.value).proto os

-- no other option changes the map
map_kept : (p : Lcp) (os : List Option) → Each (λ o. o.type ≡ 2 → ⊥) os → (judged_lcps p os).asyncmap_remote ≡ p.asyncmap_remote
map_kept p [] n = refl
map_kept p (o ∷ os) n =
    let P : Judged Lcp → Type 0 = λ j. j.proto.asyncmap_remote ≡ p.asyncmap_remote in
    let j = judge_lcp p o.type o.value in
    map_kept j.proto os n.1
    ∙ rw (ne_eqb o.type 2 n.0) (cond_all P (eqb o.type 3) (cond_all P (same o.value (suggestion_lcp p)) refl refl) refl)

-- the last map of a request is the one stored
pub stored-map : (p : Lcp) (before : List Option) {o : Option} {m : ℕ} (after : List Option) → AsyncMap o m
    → Each (λ x. x.type ≡ 2 → ⊥) after → (judged_lcps p (before ++ (o ∷ after))).asyncmap_remote ≡ m
stored-map p [] {o} after x n = map_kept _ after n ∙ ap (λ (j : Judged Lcp). j.proto.asyncmap_remote) (judge_map x p)
stored-map p (b ∷ before) after x n = stored-map (judge_lcp p b.type b.value).proto before after x n

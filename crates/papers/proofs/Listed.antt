-- The options that a reply sends back (RFC 1661, 5.2 to 5.4): those whose verdict is the reply's, in order; an Ack has all of them as they
-- came, and a Nak of LCP the one for PAP.
-- Assumes nothing.
use Prim.Native.Nat.{ℕ, ◌≤◌}
use mathlib.Core.Path.{◌≡◌, refl}
use mathlib.Core.Bool.{cond}
use mathlib.Core.List.{List, [], ◌∷◌}
use borrow.Author.Tests.{eqb-true, eq-eqb}
use native.Mathlib.Omega.{arith}
use lib.Dec.{eqb}
use lib.ListN.{length}
use Rattle.laws.specs.Each.{Each}
use Rattle.laws.proofs.Cases.{cond_by, cond_all}
use Rattle.options.specs.declared.lcp.Lcp.{Lcp}
use Rattle.options.specs.declared.proto.Verdict.{Verdict}
use Rattle.options.specs.declared.proto.Verdict.TheVariants.{Ack, Nack, Rej}
use Rattle.papers.specs.Rfc1661.{Option}
use Rattle.papers.specs.Rfc1334.{PapOption}
use Rattle.options.specs.Lcp.{suggestion_lcp}
use Rattle.options.specs.Options.{sent_back}
use Rattle.options.specs.Reply.{rank_of}
use Rattle.papers.proofs.Layouts1661.{option_as}
use Rattle.papers.proofs.Verdicts.{lcp_verdict}

-- ---- the options that a reply of verdict v holds, where s is suggested

module _ (f : ℕ → List ℕ → Verdict) where
  module _ (s : List ℕ) where
    -- an option as it is sent back
    abbrev pub answer_to : Option → Option
    answer_to o = option_as o.type (sent_back (f o.type o.value) o.value s)

    abbrev pub answers : Verdict → List Option → List Option
    answers v [] = []
    answers v (o ∷ os) = cond (eqb (rank_of (f o.type o.value)) (rank_of v)) (answer_to o ∷ answers v os) (answers v os)

  -- no option has a higher verdict
  abbrev pub Top : Verdict → List Option → Type 0
  Top v [] = Unit {0}
  Top v (o ∷ os) = (rank_of (f o.type o.value) ≤ rank_of v) × Top v os

-- ---- what a Nak of LCP suggests

nacked_type : (s : List ℕ) (c : ℕ) (d : List ℕ) → rank_of (lcp_verdict s c d) ≡ rank_of Nack → c ≡ 3
nacked_type s c d =
    let P : Verdict → Type 0 = λ v. rank_of v ≡ rank_of Nack → c ≡ 3 in
    cond_by P (eqb c 2) (λ _. cond_all P (eqb (length d) 4) (λ n. absurd (omega arith)) (λ n. absurd (omega arith)))
    (λ _. cond_by P (eqb c 3) (λ h _. eqb-true c 3 h) (λ _ n. absurd (omega arith)))

nacked_value : (v : Verdict) (d s : List ℕ) → rank_of v ≡ rank_of Nack → sent_back v d s ≡ s
nacked_value Ack d s e = absurd (omega arith)
nacked_value Nack d s e = refl
nacked_value Rej d s e = absurd (omega arith)

-- only an Authentication-Protocol is nacked, and each option of the list asks for PAP
pub nak_suggests : (p : Lcp) (os : List Option) → Each PapOption (answers (lcp_verdict (suggestion_lcp p)) (suggestion_lcp p) Nack os)
unfolding suggestion_lcp
nak_suggests p [] = tt
nak_suggests p (o ∷ os) =
    let s = suggestion_lcp p in
    let v = lcp_verdict s o.type o.value in
    cond_by (Each PapOption) (eqb (rank_of v) (rank_of Nack))
    (λ t.
    let e = eqb-true (rank_of v) (rank_of Nack) t in
    (record { small = omega arith; type = nacked_type s o.type o.value e; value = nacked_value v o.value s e }, nak_suggests p os))
    (λ _. nak_suggests p os)

-- ---- an Ack

-- an Ack sends a value back as it came
acked_value : (v : Verdict) (d s : List ℕ) → rank_of v ≤ 0 → sent_back v d s ≡ d
acked_value Ack d s h = refl
acked_value Nack d s h = absurd (omega arith)
acked_value Rej d s h = refl

pub acked_all : (f : ℕ → List ℕ → Verdict) (s : List ℕ) (os : List Option) → Top f Ack os → answers f s Ack os ≡ os
acked_all f s [] t = refl
acked_all f s (o ∷ os) t =
    let v = f o.type o.value in
    let e : rank_of v ≡ 0 = omega (arith, t.0) in
    rw (eq-eqb (rank_of v) 0 e, acked_value v o.value s t.0, acked_all f s os t.1) refl

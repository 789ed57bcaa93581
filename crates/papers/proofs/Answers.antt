-- The reply to a request holds what its options call for: each one joins it, clears it, is left out, or is refused.
-- Assumes nothing.
use Prim.Native.Nat.{ℕ, ◌≤◌, ◌<◌}
use mathlib.Core.Path.{◌≡◌, refl, ap, sym, subst, ◌∙◌}
use mathlib.Core.Bool.{Bool, true, false, cond, true≢false, false≢true}
use mathlib.Core.List.{List, [], ◌∷◌, ◌++◌, append_assoc, append-nil}
use borrow.Author.Tests.{eq-eqb, ne_eqb, ltb-true, ltb-false}
use native.Mathlib.Omega.{arith}
use lib.Dec.{eqb, ltb, leb}
use lib.ListN.{length}
use Rattle.laws.proofs.Cases.{by_test, cond_by}
use Rattle.options.specs.declared.walk.Reply.{Reply}
use Rattle.options.specs.declared.proto.Proto.{Proto}
use Rattle.options.specs.declared.proto.Verdict.{Verdict}
use Rattle.options.specs.declared.proto.Verdict.TheVariants.{Ack}
use Rattle.papers.specs.Rfc1661.{Option, Options, none}
use Rattle.options.specs.Refusal.{is_done}
use Rattle.options.specs.Wire.{content_of}
use Rattle.options.specs.Options.{opt_bytes, sent_back, Walk, done, cut, opt, walk_of}
use Rattle.options.specs.Proto.{suggestion_of, judge_of, own_nacked, nacks_of}
use Rattle.options.specs.Reply.{rank_of, fresh_reply, listed_of, step_of, reply_of}
use Rattle.options.proofs.Suggesting.{judge_suggestion}
use Rattle.options.proofs.Wires.{content_pkt}
use Rattle.papers.proofs.Layouts1661.{laid_one, laid_both, bytes_of, options_bytes}
use Rattle.papers.proofs.Walked.{walk_options, walk_options_lem, is_whole, Typed, options_typed}
use Rattle.papers.proofs.Listed.{answer_to, answers, Top, acked_all}
use Rattle.papers.proofs.Verdicts.{verdict_of, judged_verdict, judged_proto, judged_all}

-- ---- an option joins a reply

-- what one option leaves: refused, not listed, alone, or one more; d is the value to be sent back
data Stepped (r s : Reply) (p : Proto) (v : Verdict) (c : ℕ) (d : List ℕ) : Type 0 where
  refused : is_done s.outcome ≡ false → Stepped r s p v c d
  lower : s.proto ≡ p → rank_of v < rank_of r.verdict → s.verdict ≡ r.verdict → content_of s.packet ≡ content_of r.packet
      → Stepped r s p v c d
  alone : s.proto ≡ p → length d ≤ 4 → rank_of r.verdict < rank_of v → s.verdict ≡ v → content_of s.packet ≡ opt_bytes c d
      → Stepped r s p v c d
  another : s.proto ≡ p → length d ≤ 4 → rank_of r.verdict ≡ rank_of v → s.verdict ≡ v
      → content_of s.packet ≡ content_of r.packet ++ opt_bytes c d → Stepped r s p v c d

stepped : (r : Reply) (p : Proto) (v : Verdict) (c : ℕ) (d : List ℕ) → Stepped r (listed_of r p v c d) p v c d
unfolding listed_of
stepped r p v c d =
    let P : Reply → Type 0 = λ s. Stepped r s p v c d in
    cond_by P (ltb (rank_of v) (rank_of r.verdict)) (λ e. lower refl (ltb-true _ _ e) refl refl)
    (λ e. cond_by P (ltb 4 (length d)) (λ l. refused refl)
    (λ l. cond_by P (ltb (rank_of r.verdict) (rank_of v)) (λ h. alone refl (ltb-false _ _ l) (ltb-true _ _ h) refl (content_pkt _))
    (λ h. cond_by P (leb 6 r.count) (λ m. refused refl)
    (λ m. another refl (ltb-false _ _ l)
    (omega (arith, ltb-false (rank_of v) (rank_of r.verdict) e, ltb-false (rank_of r.verdict) (rank_of v) h)) refl (content_pkt _)))))

-- a list that an option may have joined
joined_alone : (t : Bool) (a : Option) (l : List Option) → cond t (a ∷ []) [] ++ l ≡ cond t (a ∷ l) l
joined_alone true a l = refl
joined_alone false a l = refl

joined-behind : (t : Bool) (ls : List Option) (a : Option) (l : List Option)
    → cond t (ls ++ (a ∷ [])) [] ++ l ≡ cond t ls [] ++ cond t (a ∷ l) l
joined-behind true ls a l = append_assoc ls (a ∷ []) l
joined-behind false ls a l = refl

-- a reply r to the options os, with a verdict v and a list ls before them; u is suggested
record Answered (f : ℕ → List ℕ → Verdict) (u : List ℕ) (v : Verdict) (ls os : List Option) (r : Reply) : Type 0 where
  up : rank_of v ≤ rank_of r.verdict
  top : Top f r.verdict os
  laid : Options (content_of r.packet) (cond (eqb (rank_of v) (rank_of r.verdict)) ls [] ++ answers f u r.verdict os)

module _ (f : ℕ → List ℕ → Verdict) (u : List ℕ) (o : Option) (os : List Option) (r s z : Reply) (p : Proto) (ls : List Option) (c : o.type < 256) where
  extend : Stepped r s p (f o.type o.value) o.type (answer_to f u o).value → is_done s.outcome ≡ true
      → Options (content_of r.packet) ls
      → ((ms : List Option) → s.proto ≡ p → Options (content_of s.packet) ms → Answered f u s.verdict ms os z)
      → Answered f u r.verdict ls (o ∷ os) z
  extend (refused e) d l ih = absurd (true≢false (sym d ∙ e))
  extend (lower q h e i) d l ih =
      let a = ih ls q (rw i l) in
      let k : rank_of s.verdict ≡ rank_of r.verdict = ap rank_of e in
      let n : rank_of (f o.type o.value) ≡ rank_of z.verdict → ⊥ = λ y. omega (arith, a.up) in
      record {
        up = omega (arith, a.up);
        top = (omega (arith, a.up), a.top);
        laid = rw (ne_eqb _ _ n, ← k) a.laid;
      }
  extend (alone q m h e i) d l ih =
      let a = ih (answer_to f u o ∷ []) q (rw i (laid_one _ _ c (omega arith))) in
      let k : rank_of s.verdict ≡ rank_of (f o.type o.value) = ap rank_of e in
      let n : rank_of r.verdict ≡ rank_of z.verdict → ⊥ = λ y. omega (arith, a.up) in
      record {
        up = omega (arith, a.up);
        top = (omega (arith, a.up), a.top);
        laid = rw (ne_eqb _ _ n, ← joined_alone, ← k) a.laid;
      }
  extend (another q m h e i) d l ih =
      let a = ih (ls ++ (answer_to f u o ∷ [])) q (rw i (laid_both l (laid_one _ _ c (omega arith)))) in
      let k : rank_of s.verdict ≡ rank_of (f o.type o.value) = ap rank_of e in
      record {
        up = omega (arith, a.up);
        top = (omega (arith, a.up), a.top);
        laid = rw (h, ← joined-behind, ← k) a.laid;
      }

step-stepped : (r : Reply) (c : ℕ) (d : List ℕ)
    → Stepped r (step_of r c d) (judge_of r.proto c d).proto (verdict_of r.proto c d) c
    (sent_back (verdict_of r.proto c d) d (suggestion_of r.proto))
unfolding step_of
step-stepped r c d = rw (← judged_verdict r.proto c d) (stepped r _ _ c _)

reply_answered : (os : List Option) (r : Reply) (ls : List Option) → Typed os → Options (content_of r.packet) ls
    → is_done (reply_of r (walk_options os)).outcome ≡ true
    → Answered (verdict_of r.proto) (suggestion_of r.proto) r.verdict ls os (reply_of r (walk_options os))
unfolding reply_of
reply_answered [] r ls y l d = record { up = omega arith; top = tt; laid = rw (eq-eqb _ _ refl, append-nil) l }
reply_answered (o ∷ os) r ls y l d =
    let s = step_of r o.type o.value in
    let z = reply_of s (walk_options os) in
    by_test (is_done s.outcome)
    (λ t. rw t (extend _ _ o os r s z _ ls y.0 (step-stepped r o.type o.value) t l
    (λ ms e m. subst (λ (f : ℕ → List ℕ → Verdict). Answered f (suggestion_of r.proto) s.verdict ms os z)
    (ap verdict_of e ∙ judged_proto r.proto o.type o.value)
    (subst (λ (u : List ℕ). Answered (verdict_of s.proto) u s.verdict ms os z) (ap suggestion_of e ∙ judge_suggestion r.proto o.type o.value)
    (reply_answered os s ms y.1 m (rw t at d))))))
    (λ t. absurd (true≢false (sym (rw t at d) ∙ t)))

-- what the options change of the protocol, where none is refused
stepped_proto : {r s : Reply} {p : Proto} {v : Verdict} {c : ℕ} {d : List ℕ} → Stepped r s p v c d → is_done s.outcome ≡ true → s.proto ≡ p
stepped_proto (refused e) t = absurd (true≢false (sym t ∙ e))
stepped_proto (lower q h e i) t = q
stepped_proto (alone q m h e i) t = q
stepped_proto (another q m h e i) t = q

answered_proto : (os : List Option) (r : Reply) → is_done (reply_of r (walk_options os)).outcome ≡ true
    → (reply_of r (walk_options os)).proto ≡ judged_all r.proto os
unfolding reply_of
answered_proto [] r d = refl
answered_proto (o ∷ os) r d =
    let s = step_of r o.type o.value in
    by_test (is_done s.outcome)
    (λ t. rw (t, ← stepped_proto (step-stepped r o.type o.value) t) (answered_proto os s (rw t at d)))
    (λ t. absurd (true≢false (sym (rw t at d) ∙ t)))

-- ---- the reply to a request whose options are os

no_list : (t : Bool) (l : List Option) → cond t [] [] ++ l ≡ l
no_list true l = refl
no_list false l = refl

-- the reply to the options s from a fresh start
abbrev pub reply_to : Proto → List ℕ → Reply
reply_to p s = reply_of (fresh_reply p) (walk_of s)

module _ (p : Proto) {s : List ℕ} {os : List Option} (l : Options s os) (d : is_done (reply_to p s).outcome ≡ true) where
  from_fresh : Answered (verdict_of p) (suggestion_of p) Ack [] os (reply_to p s)
  from_fresh =
      let e = walk_options_lem 0 l in
      rw e (reply_answered os (fresh_reply p) [] (options_typed l) (rw content_pkt none) (rw e at d))

  -- no option's verdict is higher than the reply's, and the reply holds those that have it
  pub reply_top : Top (verdict_of p) (reply_to p s).verdict os
  reply_top = from_fresh.top

  pub reply_options : Options (content_of (reply_to p s).packet) (answers (verdict_of p) (suggestion_of p) (reply_to p s).verdict os)
  reply_options = rw no_list at from_fresh.laid

  pub reply_proto : (reply_to p s).proto ≡ judged_all p os
  reply_proto = let e = walk_options_lem 0 l in rw e (answered_proto os (fresh_reply p) (rw e at d))

  -- an Ack holds the bytes of the request
  pub reply_ack : (reply_to p s).verdict ≡ Ack → content_of (reply_to p s).packet ≡ s
  reply_ack e =
      let a : answers (verdict_of p) (suggestion_of p) (reply_to p s).verdict os ≡ os = rw e (acked_all (verdict_of p) (suggestion_of p) os (rw e at reply_top)) in
      options_bytes reply_options ∙ ap bytes_of a ∙ sym (options_bytes l)

-- ---- a walk that is cut ends in a refusal

pub reply_whole : (r : Reply) (w : Walk) → is_done (reply_of r w).outcome ≡ true → is_whole w ≡ true
unfolding reply_of
reply_whole r done e = refl
reply_whole r (cut at) e = absurd (false≢true e)
reply_whole r (opt c d w) e =
    by_test (is_done (step_of r c d).outcome) (λ t. reply_whole (step_of r c d) w (rw t at e)) (λ t. absurd (true≢false (sym (rw t at e) ∙ t)))

-- and nothing else refuses a Nack or a Rej
pub nacks_whole : (rej : Bool) (p : Proto) (w : Walk) → is_done (nacks_of rej p w).outcome ≡ is_whole w
unfolding nacks_of
nacks_whole rej p done = refl
nacks_whole rej p (cut at) = refl
nacks_whole rej p (opt c d w) = nacks_whole rej (own_nacked p c d rej) w

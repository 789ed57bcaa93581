-- A refusal's number, with the values beside it, tells its cause, but for the two numbers that two crates give.
-- Assumes nothing.
use mathlib.Core.Path.{◌≡◌, refl, ap, ap₂, sym, ◌∙◌}
use mathlib.Core.Bool.{false, cond, true≢false}
use mathlib.Core.List.{List, [], ◌∷◌}
use Prim.Native.Nat.{ℕ}
use native.Mathlib.Omega.{arith}
use borrow.Author.Tests.{ne_eqb}
use lib.Dec.{eqb}
use Rattle.std.specs.Prelude.{Result, Ok, Err}
use Rattle.framing.specs.declared.refusal.Refusal.TheVariants.{BufferFull, BufferShort, FrameShort}
use Rattle.options.proofs.Numbers as below
use Rattle.link.specs.Refusal.{number_of, values_of, is_shared}
use Rattle.link.specs.Link.{action_number, action_values}
use Rattle.link.specs.declared.refusal.Refusal.{Refusal}
use Rattle.link.specs.declared.refusal.Refusal.TheVariants.{Framing, Negotiation, FramesFull}
use Rattle.link.specs.declared.pppos.PPPoSAction.{PPPoSAction}
use Rattle.link.specs.declared.pppos.PPPoSAction.TheVariants.{Idle, Received, Transmit}

-- the cause that a number and its values stand for
abbrev cause_of : ℕ → List ℕ → Refusal
cause_of n v = cond (eqb n (number_of (Framing BufferShort))) (Framing BufferShort) (Negotiation (below.cause_of n v))

record Told (r : Refusal) : Type 0 where
  some : eqb (number_of r) 0 ≡ false
  back : is_shared (number_of r) ≡ false → cause_of (number_of r) (values_of r) ≡ r

told : (r : Refusal) → Told r
told (Framing BufferFull) = record { some = refl; back = λ e. absurd (true≢false e) }
told (Framing BufferShort) = record { some = refl; back = λ e. refl }
told (Framing FrameShort) = record { some = refl; back = λ e. absurd (true≢false e) }
told (Negotiation r) =
    record {
      some = ne_eqb _ 0 (below.not_given r 0 (λ e. omega arith));
      back = λ e. rw (ne_eqb _ 3 (below.not_given r 3 (λ e. omega arith))) (ap Negotiation (below.cause_back r));
    }
told FramesFull = record { some = refl; back = λ e. absurd (true≢false e) }

pub causes_apart : (x y : Refusal) → number_of x ≡ number_of y → values_of x ≡ values_of y → is_shared (number_of x) ≡ false → x ≡ y
causes_apart x y n v e = sym ((told x).back e) ∙ ap₂ cause_of n v ∙ (told y).back (sym (ap is_shared n) ∙ e)

-- the action that a number and its values stand for
abbrev handing : List ℕ → Result PPPoSAction Refusal
handing [] = Ok Idle
handing (n ∷ []) = Ok (Transmit n)
handing (from ∷ to ∷ v) = Ok (Received from to)

abbrev action_for : ℕ → List ℕ → Result PPPoSAction Refusal
action_for n v = cond (eqb n 0) (handing v) (Err (cause_of n v))

action_back : (a : Result PPPoSAction Refusal) → is_shared (action_number a) ≡ false → action_for (action_number a) (action_values a) ≡ a
action_back (Ok Idle) e = refl
action_back (Ok (Received from to)) e = refl
action_back (Ok (Transmit n)) e = refl
action_back (Err r) e = rw ((told r).some, (told r).back e) refl

pub actions_apart : (a b : Result PPPoSAction Refusal) → action_number a ≡ action_number b → action_values a ≡ action_values b → is_shared (action_number a) ≡ false → a ≡ b
actions_apart a b n v e = sym (action_back a e) ∙ ap₂ action_for n v ∙ action_back b (sym (ap is_shared n) ∙ e)

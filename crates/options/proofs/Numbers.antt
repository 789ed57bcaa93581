-- A refusal's number, with the values beside it, tells its cause.
-- Assumes nothing.
use mathlib.Core.Path.{◌≡◌, refl, ap, ap₂, sym, ◌∙◌}
use mathlib.Core.Bool.{cond}
use mathlib.Core.List.{List, []}
use Prim.Native.Nat.{ℕ}
use lib.Dec.{eqb}
use lib.ListN.{get_or}
use Rattle.options.specs.Refusal.{number_of, values_of}
use Rattle.options.specs.declared.refusal.Refusal.{Refusal}
use Rattle.options.specs.declared.refusal.Refusal.TheVariants.{NotDead, CredentialsLong, PacketShort, ConfigureShort, EchoEmpty, PapPast, OptionCut, OptionLong, OptionsMany, ReplyLong}

-- the cause r if the number is its, else another
abbrev or_else : ℕ → Refusal → Refusal → Refusal
or_else n r other = cond (eqb n (number_of r)) r other

-- the cause that a number and its values stand for: it names no number, since these are said in `number_of` alone
abbrev pub cause_of : ℕ → List ℕ → Refusal
cause_of n v =
    or_else n NotDead
    (or_else n CredentialsLong
    (or_else n PacketShort
    (or_else n ConfigureShort
    (or_else n EchoEmpty
    (or_else n PapPast
    (or_else n (OptionCut (get_or v 0 0))
    (or_else n OptionLong
    (or_else n OptionsMany ReplyLong))))))))

pub cause_back : (r : Refusal) → cause_of (number_of r) (values_of r) ≡ r
cause_back NotDead = refl
cause_back CredentialsLong = refl
cause_back PacketShort = refl
cause_back ConfigureShort = refl
cause_back EchoEmpty = refl
cause_back PapPast = refl
cause_back (OptionCut at) = refl
cause_back OptionLong = refl
cause_back OptionsMany = refl
cause_back ReplyLong = refl

-- what `number` answers, as its promise has it, tells the causes apart, with the values beside it
pub numbers_apart : (x y : Refusal) {n m : ℕ} → n ≡ number_of x → m ≡ number_of y → n ≡ m → values_of x ≡ values_of y → x ≡ y
numbers_apart x y e f same v = sym (cause_back x) ∙ ap₂ cause_of (sym e ∙ same ∙ f) v ∙ cause_back y

-- a number that is no cause's is given by none
pub not_given : (r : Refusal) (n : ℕ) → (number_of (cause_of n (values_of r)) ≡ n → ⊥) → number_of r ≡ n → ⊥
not_given r n other e = other (ap (λ (m : ℕ). number_of (cause_of m (values_of r))) (sym e) ∙ ap number_of (cause_back r) ∙ e)

-- 7 alone tells more than its number
pub silent : (r : Refusal) → (number_of r ≡ 7 → ⊥) → values_of r ≡ []
silent NotDead h = refl
silent CredentialsLong h = refl
silent PacketShort h = refl
silent ConfigureShort h = refl
silent EchoEmpty h = refl
silent PapPast h = refl
silent (OptionCut at) h = absurd (h refl)
silent OptionLong h = refl
silent OptionsMany h = refl
silent ReplyLong h = refl

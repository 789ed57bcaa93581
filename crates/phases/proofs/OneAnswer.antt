-- Each promise admits one answer: two answers to the same call are equal, part by part.
-- Assumes nothing.
use Rattle.std.specs.Prelude.{Result}
use mathlib.Core.Path.{◌≡◌, sym, ◌∙◌}
use mathlib.Core.Bool.{Bool}
use Rattle.options.specs.declared.refusal.Refusal.{Refusal}
use Rattle.negotiation.specs.declared.replies.Replies.{Replies}
use Rattle.phases.specs.declared.ppp.Ppp.{Ppp}
use Rattle.phases.specs.Phases.{Turn, Changes, Turns}

pub changes_one : {t : Turn} {o₁ o₂ : Result Unit Refusal} {p₁ p₂ : Ppp} → Changes t o₁ p₁ → Changes t o₂ p₂ → (o₁ ≡ o₂) × (p₁ ≡ p₂)
changes_one a b = (a.outcome ∙ sym b.outcome, a.ppp ∙ sym b.ppp)

pub turns_one : {t : Turn} {o₁ o₂ : Result Unit Refusal} {e₁ e₂ : Bool} {p₁ p₂ : Ppp} {r₁ r₂ : Replies}
    → Turns t o₁ e₁ p₁ r₁ → Turns t o₂ e₂ p₂ r₂ → (o₁ ≡ o₂) × (e₁ ≡ e₂) × (p₁ ≡ p₂) × (r₁ ≡ r₂)
turns_one a b =
    (a.outcome ∙ sym b.outcome, a.echoed ∙ sym b.echoed, a.ppp ∙ sym b.ppp, a.replies ∙ sym b.replies)

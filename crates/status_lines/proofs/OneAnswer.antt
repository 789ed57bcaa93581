-- Each promise admits one answer: two answers to the same call are equal, part by part.
-- Assumes nothing.
use mathlib.Core.Path.{◌≡◌, sym, ◌∙◌}
use mathlib.Core.List.{List}
use Prim.Native.Nat.{ℕ}
use Rattle.std.specs.Prelude.{Result}
use Rattle.framing.specs.declared.refusal.Refusal.{Refusal}
use Rattle.framing.proofs.OneAnswer.{counts_differ}
use Rattle.phases.specs.declared.ppp.Status.{Status}
use Rattle.status_lines.specs.Lines.{Shows}

pub shows_one : {s : Status} {buf buf₁ buf₂ : List ℕ} {r₁ r₂ : Result ℕ Refusal}
    → Shows s buf r₁ buf₁ → Shows s buf r₂ buf₂ → (r₁ ≡ r₂) × (buf₁ ≡ buf₂)
shows_one {r₁ = r₁} {r₂ = r₂} a b = (counts_differ r₁ r₂ (a.number ∙ sym b.number) (a.count ∙ sym b.count), a.bytes ∙ sym b.bytes)

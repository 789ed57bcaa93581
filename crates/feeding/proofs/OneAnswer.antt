-- Each promise admits one answer: two answers to the same call are equal, part by part.
-- Assumes nothing.
use mathlib.Core.Path.{◌≡◌, sym, ◌∙◌}
use mathlib.Core.List.{List}
use Prim.Native.Nat.{ℕ}
use Rattle.framing.specs.declared.drops.Drops.{Drops}
use Rattle.link.specs.declared.pppos.PPPoS.{PPPoS}
use Rattle.feeding.specs.Feed.{Progress, Feeds}

pub feeds_one : {s : Progress} {bs tx₁ tx₂ rx₁ rx₂ : List ℕ} {n₁ n₂ : ℕ} {l₁ l₂ : PPPoS} {d₁ d₂ : Drops}
    → Feeds s bs n₁ l₁ d₁ tx₁ rx₁ → Feeds s bs n₂ l₂ d₂ tx₂ rx₂ → (n₁ ≡ n₂) × (l₁ ≡ l₂) × (d₁ ≡ d₂) × (tx₁ ≡ tx₂) × (rx₁ ≡ rx₂)
feeds_one a b =
    (a.count ∙ sym b.count, a.link ∙ sym b.link, a.drops ∙ sym b.drops, a.transmit ∙ sym b.transmit, a.receive ∙ sym b.receive)

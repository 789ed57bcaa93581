-- What holds of each element of a list.
use Rattle.std.specs.Prelude.{◌≡◌, List, [], ◌∷◌, ℕ, ◌<◌}

abbrev pub Each : {A : Type 0} → (A → Type 0) → List A → Type 0
Each P [] = Unit {0}
Each P (b ∷ bs) = P b × Each P bs

-- numbers that are bytes
abbrev pub Bytes : List ℕ → Type 0
Bytes = Each (λ b. b < 256)

-- x stands nowhere in the list
abbrev pub Without : ℕ → List ℕ → Type 0
Without x = Each (λ b. b ≡ x → ⊥)

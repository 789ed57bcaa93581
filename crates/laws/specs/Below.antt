-- A test at every number below a bound, or at every entry of a list, which antt computes.
use Rattle.std.specs.Prelude.{Bool, true, ◌&&◌, List, [], ◌∷◌, ℕ, zero, suc}

abbrev pub every : (ℕ → Bool) → ℕ → Bool
every f zero = true
every f (suc n) = f n && every f n

-- each entry with its place, counted from i
abbrev pub every_entry : {A : Type 0} → (ℕ → A → Bool) → ℕ → List A → Bool
every_entry f i [] = true
every_entry f i (x ∷ xs) = f i x && every_entry f (suc i) xs

-- A machine that is fed one number after the other, and the runs in which it is never full.
use Rattle.std.specs.Prelude.{◌≡◌, Bool, false, List, [], ◌∷◌, ℕ}

module _ {S : Type 0} (feed : S → ℕ → S) (full : S → Bool) where
  -- fed the list, the machine goes from the first state to the second, and it is full in neither nor anywhere between
  pub data Quiet : S → List ℕ → S → Type 0 where
    none : {s : S} → full s ≡ false → Quiet s [] s
    more : {s t : S} {b : ℕ} {w : List ℕ} → full s ≡ false → Quiet (feed s b) w t → Quiet s (b ∷ w) t

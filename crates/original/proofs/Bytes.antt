-- Parts of a list of bytes, and one with a byte stored, are lists of bytes.
-- Assumes nothing.
use mathlib.Core.List.{List, [], ◌∷◌}
use Prim.Native.Nat.{ℕ, zero, suc, ◌<◌}
use native.Mathlib.Omega.{arith}
use lib.ListN.{length, get_or, take, drop, set}
use Rattle.laws.specs.Each.{Each}

module _ {A : Type 0} (P : A → Type 0) where
  pub each_take : (n : ℕ) (l : List A) → Each P l → Each P (take n l)
  each_take zero l h = tt
  each_take (suc n) [] h = tt
  each_take (suc n) (x ∷ l) h = (h.0, each_take n l h.1)

  pub each_drop : (n : ℕ) (l : List A) → Each P l → Each P (drop n l)
  each_drop zero l h = h
  each_drop (suc n) [] h = tt
  each_drop (suc n) (x ∷ l) h = each_drop n l h.1

  pub each_set : (l : List A) (i : ℕ) (x : A) → Each P l → P x → Each P (set l i x)
  each_set [] i x h p = tt
  each_set (y ∷ l) zero x h p = (p, h.1)
  each_set (y ∷ l) (suc i) x h p = (h.0, each_set l i x h.1 p)

  pub each_get : (l : List A) (i : ℕ) (d : A) → i < length l → Each P l → P (get_or l i d)
  each_get [] i d k h = absurd (omega arith)
  each_get (x ∷ l) zero d k h = h.0
  each_get (x ∷ l) (suc i) d k h = each_get l i d (omega arith) h.1

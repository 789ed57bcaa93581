-- A computed test gives its fact at each number, or at each entry of a list.
-- Assumes nothing.
use mathlib.Core.Path.{◌≡◌, ◌∙◌, subst, sym}
use mathlib.Core.Bool.{Bool, true, false, ◌&&◌}
use mathlib.Core.List.{List, [], ◌∷◌}
use mathlib.Core.Logic.{⊎_elim}
use Prim.Native.Nat.{ℕ, zero, suc, ◌+◌, ◌<◌}
use native.Mathlib.Nat.{add-zero, zero-add, add-suc, suc-add, le_of_suc-le-suc, not-suc-le-zero, eq-or-lt_of_le}
use lib.Dec.{T}
use lib.ListN.{length, get_or}
use Rattle.laws.specs.Below.{every, every_entry}

pub both_left : (a b : Bool) → T (a && b) → T a
both_left true b t = tt
both_left false b t = t

pub both_right : (a b : Bool) → T (a && b) → T b
both_right true b t = t
both_right false b t = absurd t

pub below : (f : ℕ → Bool) (n : ℕ) → T (every f n) → (k : ℕ) → k < n → T (f k)
below f zero t k h = absurd (not-suc-le-zero h)
below f (suc n) t k h =
    ⊎_elim (λ (e : k ≡ n). rw e (both_left (f n) (every f n) t))
    (λ l. below f n (both_right (f n) (every f n) t) k l)
    (eq-or-lt_of_le (le_of_suc-le-suc h))

module _ {A : Type 0} (f : ℕ → A → Bool) (d : A) where
  entry_from : (xs : List A) (i : ℕ) → T (every_entry f i xs) → (k : ℕ) → k < length xs → T (f (i + k) (get_or xs k d))
  entry_from [] i t k h = absurd (not-suc-le-zero h)
  entry_from (x ∷ xs) i t zero h = subst (λ (m : ℕ). T (f m x)) (sym (add-zero i)) (both_left (f i x) (every_entry f (suc i) xs) t)
  entry_from (x ∷ xs) i t (suc k) h =
      subst (λ (m : ℕ). T (f m (get_or xs k d))) (suc-add i k ∙ sym (add-suc i k))
      (entry_from xs (suc i) (both_right (f i x) (every_entry f (suc i) xs) t) k (le_of_suc-le-suc h))

  pub each_entry : (xs : List A) → T (every_entry f 0 xs) → (k : ℕ) → k < length xs → T (f k (get_or xs k d))
  each_entry xs t k h = subst (λ (m : ℕ). T (f m (get_or xs k d))) (zero-add k) (entry_from xs 0 t k h)

-- The last two of a list, and what stands before them.
-- Assumes nothing.
use mathlib.Core.Path.{◌≡◌, refl, ap}
use mathlib.Core.List.{List, [], ◌∷◌, ◌++◌}
use Prim.Native.Nat.{ℕ, ◌≤◌}
use native.Mathlib.Omega.{arith}
use lib.ListN.{length}

pub record LastTwo (l : List ℕ) : Type 0 where
  pub front : List ℕ
  pub a : ℕ
  pub b : ℕ
  pub is : l ≡ front ++ (a ∷ b ∷ [])

pub last_two : (l : List ℕ) → 2 ≤ length l → LastTwo l
last_two [] h = absurd (omega arith)
last_two (x ∷ []) h = absurd (omega arith)
last_two (x ∷ y ∷ []) h = record { front = []; a = x; b = y; is = refl }
last_two (x ∷ y ∷ z ∷ r) h =
    let t = last_two (y ∷ z ∷ r) (omega arith) in
    record { front = x ∷ t.front; a = t.a; b = t.b; is = ap (λ l. x ∷ l) t.is }

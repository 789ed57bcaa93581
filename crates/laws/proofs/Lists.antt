-- Facts of lists that the library lacks.
-- Assumes nothing.
use mathlib.Core.Path.{◌≡◌, refl}
use mathlib.Core.List.{List, [], ◌∷◌}
use Prim.Native.Nat.{ℕ, zero, suc, ◌+◌, ◌<◌}
use native.Mathlib.Nat.{zero-add, suc-add}
use native.Mathlib.Omega.{arith}
use lib.ListN.{length, get_or, drop, replicate}

-- an element within the list is the same whatever stands for one past it
pub get_d_any : {A : Type 0} (l : List A) (i : ℕ) (d e : A) → i < length l → get_or l i d ≡ get_or l i e
get_d_any [] i d e h = absurd (omega arith)
get_d_any (x ∷ l) zero d e h = refl
get_d_any (x ∷ l) (suc i) d e h = get_d_any l i d e (omega arith)

pub drop-replicate : {A : Type 0} (n k : ℕ) (a : A) → drop n (replicate (n + k) a) ≡ replicate k a
drop-replicate zero k a = rw zero-add
drop-replicate (suc n) k a = rw suc-add (drop-replicate n k a)

-- The test for two same lists says that they are equal, and `==` on slices is that test.
-- Assumes nothing.
use mathlib.Core.Path.{◌≡◌, refl, ap, ap₂}
use mathlib.Core.Bool.{◌&&◌}
use mathlib.Core.List.{List, [], ◌∷◌}
use Prim.Native.Nat.{ℕ}
use lib.Dec.{T, eqb, eqb→eq}
use Rattle.std.proofs.Common.{nat_eq}
use Rattle.std.specs.Cmp.Lexicographic.{pointwise}
use Rattle.laws.specs.Same.{same}
use Rattle.laws.proofs.Below.{both_left, both_right}

pub same_eq : (a b : List ℕ) → T (same a b) → a ≡ b
unfolding same
same_eq [] [] t = refl
same_eq [] (y ∷ ys) t = absurd t
same_eq (x ∷ xs) [] t = absurd t
same_eq (x ∷ xs) (y ∷ ys) t =
    ap₂ (λ (h : ℕ) (l : List ℕ). h ∷ l) (eqb→eq x y (both_left (eqb x y) (same xs ys) t)) (same_eq xs ys (both_right (eqb x y) (same xs ys) t))

pub same_slices : (a b : List ℕ) → pointwise nat_eq a b ≡ same a b
unfolding same
same_slices [] [] = refl
same_slices [] (y ∷ ys) = refl
same_slices (x ∷ xs) [] = refl
same_slices (x ∷ xs) (y ∷ ys) = ap (λ t. eqb x y && t) (same_slices xs ys)

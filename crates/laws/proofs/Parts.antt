-- Parts of a list: what two lists with the same front have in common.
-- Assumes nothing.
use mathlib.Core.Path.{◌≡◌, refl, sym, ap, ◌∙◌}
use mathlib.Core.List.{List, [], ◌∷◌}
use Prim.Native.Nat.{ℕ, zero, suc, ◌-◌, ◌≤◌}
use native.Mathlib.Nat.{sub-zero, zero-sub, suc-sub-suc}
use lib.ListN.{length, take, drop}
use lib.Seq.{take-nil, take-take}

module _ {A : Type 0} where
  pub drop-take : (n k : ℕ) (l : List A) → drop n (take k l) ≡ take (k - n) (drop n l)
  drop-take zero k l = rw sub-zero
  drop-take (suc n) zero l = rw zero-sub
  drop-take (suc n) (suc k) [] = sym (take-nil (suc k - suc n))
  drop-take (suc n) (suc k) (a ∷ l) = rw suc-sub-suc (drop-take n k l)

  -- lists that agree up to k agree on m elements from n on, where these end by k
  pub same_part : (k n m : ℕ) (x y : List A) → m ≤ k - n → take k x ≡ take k y → take m (drop n x) ≡ take m (drop n y)
  same_part k n m x y h e = sym (front x) ∙ ap (λ (l : List A). take m (drop n l)) e ∙ front y
    where
      front : (l : List A) → take m (drop n (take k l)) ≡ take m (drop n l)
      front l = ap (take m) (drop-take n k l) ∙ take-take m (k - n) (drop n l) h

  -- a front of a front is a front, as long as it is
  pub take_of_take : (k v : ℕ) (l : List A) → take k (take v l) ≡ take (length (take k (take v l))) l
  take_of_take zero v l = refl
  take_of_take (suc k) zero l = refl
  take_of_take (suc k) (suc v) [] = refl
  take_of_take (suc k) (suc v) (a ∷ l) = ap (λ (r : List A). a ∷ r) (take_of_take k v l)

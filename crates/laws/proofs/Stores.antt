-- Runs of stores into a list: one behind the other, and behind a part that stays.
-- Assumes nothing.
use mathlib.Core.Path.{◌≡◌, refl, ap, ◌∙◌}
use mathlib.Core.List.{List, [], ◌∷◌, ◌++◌, append_assoc}
use Prim.Native.Nat.{ℕ, zero, suc, ◌+◌, ◌-◌, ◌≤◌, ◌<◌}
use native.Mathlib.Numerals.{add-one}
use native.Mathlib.Omega.{arith}
use native.Mathlib.Nat.{add-zero, zero-add, add-suc, suc-add}
use lib.ListN.{length, get_or, take, drop, set, replicate, length-append, length-set}
use lib.Seq.{sets, sets-eq, drop-cons, length-take-le, take_at, set-append_seam, set-append_left, get_or-set_same, get_or-set_other}

-- two runs of stores are one
pub sets_append : (us vs l : List ℕ) (i : ℕ) → sets (sets l i us) (i + length us) vs ≡ sets l i (us ++ vs)
sets_append [] vs l i = rw add-zero
sets_append (a ∷ us) vs l i = rw (add-suc i (length us), ← suc-add i (length us)) (sets_append us vs (set l i a) (suc i))

-- the rest of a run of stores, one store on
pub sets_next : (l us : List ℕ) (at i : ℕ) → i < length us
    → sets (set l (at + i) (get_or us i 0)) (at + (i + 1)) (drop (i + 1) us) ≡ sets l (at + i) (drop i us)
sets_next l us at i h = rw (add-one i, add-suc at i, drop-cons us i 0)

-- stores from the front
pub sets_front : (us l : List ℕ) → length us ≤ length l → sets l 0 us ≡ us ++ drop (length us) l
sets_front us l h = simp zero-add at (sets-eq us l 0 (simp zero-add h))

-- what stands before the end of a run of stores
pub take_sets : (us l : List ℕ) (i : ℕ) → i + length us ≤ length l → take (i + length us) (sets l i us) ≡ take i l ++ us
take_sets us l i h =
    let long : length (take i l ++ us) ≡ i + length us = simp (length-append, length-take-le i l (omega arith)) in
    rw (sets-eq us l i h, take_at (take i l ++ us) (drop (i + length us) l) (i + length us) long)

-- stores into the first, or the second, of two lists behind one another
pub sets_left : (a b us : List ℕ) (i : ℕ) → i + length us ≤ length a → sets (a ++ b) i us ≡ sets a i us ++ b
sets_left a b [] i h = refl
sets_left a b (u ∷ us) i h = rw (set-append_left a b i u (omega arith)) (sets_left (set a i u) b us (suc i) (rw length-set (omega arith)))

set_right : (a b : List ℕ) (i u : ℕ) → set (a ++ b) (length a + i) u ≡ a ++ set b i u
set_right [] b i u = rw zero-add
set_right (x ∷ a) b i u = rw suc-add (ap (λ (l : List ℕ). x ∷ l) (set_right a b i u))

pub sets_right : (a b us : List ℕ) (i : ℕ) → sets (a ++ b) (length a + i) us ≡ a ++ sets b i us
sets_right a b [] i = refl
sets_right a b (u ∷ us) i = rw (set_right a b i u, ← add-suc (length a) i) (sets_right a (set b i u) us (suc i))

-- an element that a run of stores passes by, and one that it stores
pub sets_out : (bs l : List ℕ) (u i : ℕ) → (u ≤ i → i < u + length bs → ⊥) → get_or (sets l u bs) i 0 ≡ get_or l i 0
sets_out [] l u i h = refl
sets_out (b ∷ bs) l u i h =
    sets_out bs (set l u b) (suc u) i (λ p q. h (omega arith) (omega arith))
    ∙ get_or-set_other l u i b 0 (λ e. h (omega arith) (omega arith))

pub sets_in : (bs l : List ℕ) (u j : ℕ) → u + length bs ≤ length l → j < length bs → get_or (sets l u bs) (u + j) 0 ≡ get_or bs j 0
sets_in [] l u j h k = absurd (omega arith)
sets_in (b ∷ bs) l u zero h k =
    rw add-zero (sets_out bs (set l u b) (suc u) u (λ p q. omega arith) ∙ get_or-set_same l u b 0 (omega arith))
sets_in (b ∷ bs) l u (suc j) h k =
    let e : u + suc j ≡ suc u + j = omega arith in
    rw e (sets_in bs (set l u b) (suc u) j (rw length-set (omega arith)) (omega arith))

-- one more element behind those held, with padding z up to n
pub seam : {A : Type 0} (n : ℕ) (xs : List A) (y z : A) → length xs < n
    → set (xs ++ replicate (n - length xs) z) (length xs) y ≡ (xs ++ y ∷ []) ++ replicate (n - (length xs + 1)) z
seam n xs y z h =
    let e : n - length xs ≡ suc (n - (length xs + 1)) = omega arith in
    rw (e, set-append_seam, append_assoc) refl

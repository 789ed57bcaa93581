-- Rows in their order: from the first that holds, each row exactly.
-- Assumes nothing.
use mathlib.Core.Path.{◌≡◌, sym, ◌∙◌}
use mathlib.Core.Bool.{Bool, true, not, cond, ◌&&◌}
use mathlib.Core.List.{List, [], ◌∷◌, ◌++◌}
use mathlib.Core.Logic.{◌⊎◌, inl, inr}
use Prim.Native.Nat.{ℕ}
use borrow.Author.Tests.{eqb-true, eqb-false, not-true}
use lib.Dec.{eqb}
use Rattle.laws.proofs.Cases.{by_test, both}
use Rattle.refusals.specs.Rows.{Row, row, Exactly}

-- n is none of the numbers, nor 0
abbrev pub fresh : ℕ → List ℕ → Bool
fresh n [] = not (eqb n 0)
fresh n (m ∷ ms) = not (eqb n m) && fresh n ms

-- the numbers differ from each other and from 0
abbrev pub distinct : List ℕ → Bool
distinct [] = true
distinct (m ∷ ms) = fresh m ms && distinct ms

abbrev pub numbers : {A : Type 0} → List (Row A) → List ℕ
numbers [] = []
numbers (r ∷ rs) = r.number ∷ numbers rs

-- a call that gives n and leaves a: n is the number of the first row that holds, and 0 if none does
abbrev pub First : {A : Type 0} → ℕ → A → List (Row A) → Type 0
First n a [] = n ≡ 0
First n a (r ∷ rs) = ((n ≡ r.number) × r.when × r.leaves a) ⊎ ((r.when → ⊥) × First n a rs)

differs : (n m : ℕ) → not (eqb n m) ≡ true → n ≡ m → ⊥
differs n m e = eqb-false n m (not-true (eqb n m) e)

module _ {A : Type 0} (n : ℕ) (a : A) where
  -- rows behind the first that holds
  passed : (before : Type 0) (rs : List (Row A)) → before → (m : ℕ) → n ≡ m → fresh m (numbers rs) ≡ true → Exactly before rs n a
  passed before [] b m e d = ((λ z _. differs m 0 d (sym e ∙ z)), (λ f. absurd (f b)))
  passed before (r ∷ rs) b m e d =
      let t = both (not (eqb m r.number)) (fresh m (numbers rs)) d in
      let apart : n ≡ r.number → ⊥ = λ z. differs m r.number t.0 (sym e ∙ z) in (
        record { only = λ z. absurd (apart z); always = λ _ f. absurd (f b); left = λ z. absurd (apart z) },
        passed (before ⊎ r.when) rs (inl b) m e t.1,
      )

  -- the number is 0 or one of those to come
  later : (rs : List (Row A)) (m : ℕ) → First n a rs → fresh m (numbers rs) ≡ true → n ≡ m → ⊥
  later [] m e d z = differs m 0 d (sym z ∙ e)
  later (r ∷ rs) m (inl h) d z = differs m r.number (both (not (eqb m r.number)) (fresh m (numbers rs)) d).0 (sym z ∙ h.0)
  later (r ∷ rs) m (inr h) d z = later rs m h.1 (both (not (eqb m r.number)) (fresh m (numbers rs)) d).1 z

  first : (rs : List (Row A)) (before : Type 0) → (before → ⊥) → First n a rs → distinct (numbers rs) ≡ true → Exactly before rs n a
  first [] before b e d = ((λ _. b), (λ _. e))
  first (r ∷ rs) before b (inl h) d = (
    record { only = λ _. (h.1, b); always = λ _ _. h.0; left = λ _. h.2 },
    passed (before ⊎ r.when) rs (inr h.1) r.number h.0 (both (fresh r.number (numbers rs)) (distinct (numbers rs)) d).0,
  )
  first (r ∷ rs) before b (inr h) d =
      let t = both (fresh r.number (numbers rs)) (distinct (numbers rs)) d in
      let apart : n ≡ r.number → ⊥ = later rs r.number h.1 t.0 in (
        record { only = λ z. absurd (apart z); always = λ w. absurd (h.0 w); left = λ z. absurd (apart z) },
        first rs (before ⊎ r.when) either h.1 t.1,
      )
    where
      either : before ⊎ r.when → ⊥
      either (inl x) = b x
      either (inr x) = h.0 x

  -- at the head of all rows
  pub first_exactly : (rs : List (Row A)) → First n a rs → distinct (numbers rs) ≡ true → Exactly ⊥ rs n a
  first_exactly rs f d = first rs ⊥ (λ x. x) f d

-- ---- rows before others

-- of each row (laws' Each takes no rows: they are of Type 1)
abbrev pub Each : {A : Type 0} → (Row A → Type 0) → List (Row A) → Type 0
Each P [] = Unit {0}
Each P (r ∷ rs) = P r × Each P rs

-- the row of number n; where there is none, one that never holds
abbrev pub row_of : {A : Type 0} → ℕ → List (Row A) → Row A
row_of n [] = row n ⊥ (λ _. ⊥)
row_of n (r ∷ rs) = cond (eqb n r.number) r (row_of n rs)

-- the row of number n holds, and the call leaves what it says
abbrev pub Holds : {A : Type 0} → ℕ → A → List (Row A) → Type 0
Holds n a rs = (row_of n rs).when × (row_of n rs).leaves a

not_zero : (m : ℕ) (ms : List ℕ) → fresh m ms ≡ true → m ≡ 0 → ⊥
not_zero m [] d = differs m 0 d
not_zero m (k ∷ ms) d = not_zero m ms (both (not (eqb m k)) (fresh m ms) d).1

module _ {A : Type 0} (n : ℕ) (a : A) (rest : List (Row A)) where
  -- rows that could hold under the number 0 only
  pub none_first : (rs : List (Row A)) → distinct (numbers rs) ≡ true → Each (λ r. r.when → r.number ≡ 0) rs → First n a rest → First n a (rs ++ rest)
  none_first [] d e f = f
  none_first (r ∷ rs) d e f =
      let t = both (fresh r.number (numbers rs)) (distinct (numbers rs)) d in
      inr ((λ w. not_zero r.number (numbers rs) t.0 (e.0 w)), none_first rs t.1 e.1 f)

  -- rows that could hold under their own number only: the one of number n, where it holds, is the first
  pub holds-first : (rs : List (Row A)) → Each (λ r. r.when → n ≡ r.number) rs → Holds n a rs → First n a (rs ++ rest)
  holds-first [] e h = absurd h.0
  holds-first (r ∷ rs) e h =
      by_test (eqb n r.number)
      (λ t. let k : r.when × r.leaves a = rw t at h in inl (eqb-true n r.number t, k.0, k.1))
      (λ t. let k : Holds n a rs = rw t at h in inr ((λ w. eqb-false n r.number t (e.0 w)), holds-first rs e.1 k))

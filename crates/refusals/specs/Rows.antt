-- What a refusal table says of a call: its rows in their order, each given exactly when it says.
use Rattle.std.specs.Prelude.{◌≡◌, List, [], ◌∷◌, ◌⊎◌, ℕ}

-- a row, for a call that leaves an A, what it tells beside the number included
pub record Row (A : Type 0) : Type 1 where
  pub number : ℕ
  pub when : Type 0
  pub leaves : A → Type 0

abbrev pub row : {A : Type 0} → ℕ → Type 0 → (A → Type 0) → Row A
row n when leaves = record { number = n; when = when; leaves = leaves }

-- a call that gives n and leaves a gives the row's number exactly when the row holds and none before it does
pub record Given {A : Type 0} (r : Row A) (before : Type 0) (n : ℕ) (a : A) : Type 0 where
  pub only : n ≡ r.number → r.when × (before → ⊥)
  pub always : r.when → (before → ⊥) → n ≡ r.number
  pub left : n ≡ r.number → r.leaves a

-- so of each row; and it refuses nothing, which is 0, exactly when no row holds
abbrev pub Exactly : {A : Type 0} → Type 0 → List (Row A) → ℕ → A → Type 0
Exactly before [] n a = (n ≡ 0 → before → ⊥) × ((before → ⊥) → n ≡ 0)
Exactly before (r ∷ rs) n a = Given r before n a × Exactly (before ⊎ r.when) rs n a

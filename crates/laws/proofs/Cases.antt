-- Facts by cases: on a test, and on which of two numbers is larger.
-- Assumes nothing.
use mathlib.Core.Path.{◌≡◌, refl}
use mathlib.Core.Bool.{Bool, true, false, cond, ◌&&◌, ◌||◌, true≢false, false≢true}
use Prim.Native.Nat.{ℕ, ◌≤◌, ◌<◌}
use native.Mathlib.Omega.{arith}
use lib.Dec.{leb}
use borrow.Author.Tests.{leb-true, leb-false}

-- where two constructors would be equal anything holds: `cc` finds this equation
pub apart : {P : Type 0} → ◌≡◌ {A = ℕ} 0 1 → P
apart e = absurd (omega arith)

pub by_test : {P : Type 0} (t : Bool) → (t ≡ true → P) → (t ≡ false → P) → P
by_test true f g = f refl
by_test false f g = g refl

pub by_le : {P : Type 0} (m n : ℕ) → (m ≤ n → P) → (n < m → P) → P
by_le m n f g = by_test (leb m n) (λ e. f (leb-true m n e)) (λ e. g (leb-false m n e))

pub cond_by : {A : Type 0} (P : A → Type 0) {x y : A} (t : Bool) → (t ≡ true → P x) → (t ≡ false → P y) → P (cond t x y)
cond_by P true f g = f refl
cond_by P false f g = g refl

pub cond_all : {A : Type 0} (P : A → Type 0) {x y : A} (t : Bool) → P x → P y → P (cond t x y)
cond_all P t p q = cond_by P t (λ _. p) (λ _. q)

-- a relation of two values by cases, where both are chosen by the same test
pub cond_both : {A B : Type 0} (P : A → B → Type 0) {x y : A} {x' y' : B} {t u : Bool} → t ≡ u → (t ≡ true → P x x') → (t ≡ false → P y y') → P (cond t x y) (cond u x' y')
cond_both P {x} {y} {x'} {y'} {t} e f g = rw (← e) (go t f g)
  where
    go : (t : Bool) → (t ≡ true → P x x') → (t ≡ false → P y y') → P (cond t x y) (cond t x' y')
    go true f g = f refl
    go false f g = g refl

-- a function goes through a test
pub cond_ap : {A B : Type 0} (f : A → B) (t : Bool) (x y : A) → f (cond t x y) ≡ cond t (f x) (f y)
cond_ap f true x y = refl
cond_ap f false x y = refl

-- what a false and a true test on two say of each
pub neither : (a b c : Bool) → a && (b || c) ≡ false → (b && a ≡ false) × (a && c ≡ false)
neither true true c e = (e, absurd (true≢false e))
neither true false c e = (refl, e)
neither false true c e = (refl, refl)
neither false false c e = (refl, refl)

pub both : (a b : Bool) → a && b ≡ true → (a ≡ true) × (b ≡ true)
both true b e = (refl, e)
both false b e = absurd (false≢true e)

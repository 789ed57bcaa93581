-- Laws of big-endian fields, proved once over the width.
-- Assumes nothing.
use Prim.Native.Nat.{ℕ, suc, zero, ◌+◌, ◌*◌, ◌/◌, ◌%◌, ◌^◌, ◌<◌, ◌≤◌}
use mathlib.Core.Path.{◌≡◌, refl, ap, ap₂, sym, ◌∙◌}
use mathlib.Core.List.{List, [], ◌∷◌}
use native.Mathlib.Numerals.{add-one}
use native.Mathlib.Nat.{pow-le-pow_right, zero-add, pow-suc, pow-succ', one-le-pow, add-mul, mul_assoc, add_assoc, mod-eq_of_lt, div-one}
use lib.Arith.{mod-mul, digits_lt, digits_div, digits_mod}
use native.Mathlib.Omega.{arith}
use lib.Dec.{lit<}
use lib.ListN.{length, take, drop, get_or}
use lib.Seq.{drop-cons, drop-length}
use Rattle.laws.specs.Each.{Bytes}
use Rattle.laws.specs.Be.{be_from, be_of, be_bytes}

-- one more byte
pub be_step : (d : List ℕ) (v i : ℕ) → i < length d → be_from v (drop i d) ≡ be_from (v * 256 + get_or d i 0) (drop (i + 1) d)
unfolding be_from
be_step d v i h = rw (add-one, drop-cons d i 0)

pub be_end : (d : List ℕ) (v i : ℕ) → length d ≤ i → i ≤ length d → be_from v (drop i d) ≡ v
unfolding be_from
be_end d v i h k = let e : i ≡ length d = omega arith in rw (e, drop-length)

-- a field of two bytes, read
pub be_pair : (d : List ℕ) → 2 ≤ length d → be_of (take 2 d) ≡ get_or d 0 0 * 256 + get_or d 1 0
unfolding be_from
be_pair [] h = absurd (omega arith)
be_pair (a ∷ []) h = absurd (omega arith)
be_pair (a ∷ b ∷ d) h = omega arith

-- the bytes of a field of two, and of one of four
pub be_two : (v : ℕ) → be_bytes 2 v ≡ v / 256 % 256 ∷ v % 256 ∷ []
unfolding be_bytes
be_two v = simp div-one refl

pub be_four : (v : ℕ) → be_bytes 4 v ≡ v / 0x1000000 % 256 ∷ v / 0x10000 % 256 ∷ v / 256 % 256 ∷ v % 256 ∷ []
unfolding be_bytes
be_four v = simp div-one refl

-- a number of i bytes, at most k
pub be_room : {v i : ℕ} (k : ℕ) → v < 256 ^ i → i ≤ k → v < 256 ^ k
be_room k h l = omega (arith, pow-le-pow_right {n = 256} (lit< tt) l)

-- one more byte keeps the bound
pub be_bound : (v b i : ℕ) → v < 256 ^ i → b < 256 → v * 256 + b < 256 ^ (i + 1)
be_bound v b i h l = rw (add-one, pow-suc) (omega arith)

-- a field of k bytes, read back: the number's k low digits. One law for every width
pub be_back : (k a v : ℕ) → be_from a (be_bytes k v) ≡ a * 256 ^ k + v % 256 ^ k
unfolding be_from be_bytes
be_back zero a v = omega arith
be_back (suc k) a v =
    be_back k (a * 256 + v / 256 ^ k % 256) v
    ∙ sym (rw (pow-succ', mod-mul v {m = 256} {c = 256 ^ k} (lit< tt) (one-le-pow k 256 (lit< tt)), add-mul, mul_assoc, add_assoc) refl)

pub be_round : (k v : ℕ) → v < 256 ^ k → be_of (be_bytes k v) ≡ v
be_round k v h = be_back k 0 v ∙ omega (arith, mod-eq_of_lt h)

pub length_be : (k v : ℕ) → length (be_bytes k v) ≡ k
unfolding be_bytes
length_be zero v = refl
length_be (suc k) v = ap suc (length_be k v)

-- what was read before stands above what the bytes say
be_above : (a : ℕ) (d : List ℕ) → be_from a d ≡ a * 256 ^ length d + be_of d
unfolding be_from
be_above a [] = omega arith
be_above a (x ∷ d) =
    let p = 256 ^ length d in
    be_above (a * 256 + x) d
    ∙ rw (pow-succ', add-mul (a * 256) x p, mul_assoc a 256 p, add_assoc)
    (ap (λ (y : ℕ). a * (256 * p) + y) (sym (be_above (0 * 256 + x) d ∙ rw (zero-add x) refl)))

-- bytes say a number that has no more of them
pub be_less : (d : List ℕ) → Bytes d → be_of d < 256 ^ length d
unfolding be_from
be_less [] b = lit< tt
be_less (x ∷ d) b = rw (be_above (0 + x) d, zero-add x, pow-succ') (digits_lt b.0 (be_less d b.1))

-- the bytes of the number that bytes say are those bytes
pub be_again : (a : ℕ) (d : List ℕ) → Bytes d → be_bytes (length d) (be_from a d) ≡ d
unfolding be_from be_bytes
be_again a [] b = refl
be_again a (x ∷ d) b =
    let l = be_less d b.1 in
    let e : be_from (a * 256 + x) d / 256 ^ length d % 256 ≡ x = rw (be_above (a * 256 + x) d, digits_div (a * 256 + x) l) (digits_mod a b.0) in
    ap₂ (λ (y : ℕ) (z : List ℕ). y ∷ z) e (be_again (a * 256 + x) d b.1)

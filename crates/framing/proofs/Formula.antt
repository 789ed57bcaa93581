-- The crate's formula for one byte is eight steps of the register, and so is the same multiplied out, as the writer has it.
-- Assumes nothing.
use mathlib.Core.Path.{◌≡◌, sym, ap, ◌∙◌}
use mathlib.Core.Bool.{Bool}
use Prim.Native.Nat.{ℕ, ◌*◌, ◌/◌, ◌%◌, ◌^◌, ◌<◌}
use native.Mathlib.Omega.{arith}
use lib.Dec.{T, eqb, eqb→eq}
use lib.Bits.{bit_xor, xor_zero_l, xor_zero_r, xor_shr}
use Rattle.laws.proofs.Xor.{xor_assoc}
use Rattle.laws.specs.Below.{every}
use Rattle.laws.proofs.Below.{below}
use Rattle.framing.specs.Rfc1662.{fcs_bits, fcs_byte}
use Rattle.framing.specs.Table.{fold, mixed, by_formula}
use Rattle.framing.proofs.Fcs.{fcs_byte_lem, fcs_index, fcs_index_lt}

first_out : (h a b c : ℕ) → bit_xor (bit_xor (bit_xor h a) b) c ≡ bit_xor h (bit_xor (bit_xor a b) c)
first_out h a b c = ap (λ (x : ℕ). bit_xor x c) (xor_assoc h a b) ∙ xor_assoc h (bit_xor a b) c

-- the seed's high byte goes in as it is; the rest is the formula from seed 0, of the index
pub formula_high : (s b : ℕ) → by_formula s b ≡ bit_xor (s / 2 ^ 8) (by_formula 0 (bit_xor (s % 2 ^ 8) b))
formula_high s b =
    let e = bit_xor (s % 2 ^ 8) b in
    first_out (s / 2 ^ 8) _ _ _ ∙ ap (λ (x : ℕ). bit_xor (s / 2 ^ 8) (mixed 0 (fold x))) (sym (xor_zero_l e))

-- the test, at the 256 values of a byte, of what a way adds for the index
right : (ℕ → ℕ) → ℕ → Bool
right o e = eqb (o e) (fcs_byte e 0)

-- what passes it is eight steps of the register, once the seed's high byte goes in
tested : (o : ℕ → ℕ) → T (every (right o) 256) → (s b : ℕ) → b < 256 → bit_xor (s / 256) (o (bit_xor (s % 256) b)) ≡ fcs_byte s b
unfolding right
tested o t s b h =
    let e = bit_xor (s % 256) b in
    ap (bit_xor (s / 256)) (eqb→eq (o e) (fcs_byte e 0) (below (right o) 256 t e (fcs_index_lt s b h))) ∙ sym (fcs_byte_lem s b h)

pub formula : (s b : ℕ) → b < 256 → by_formula s b ≡ fcs_byte s b
unfolding right fcs_bits
formula s b h = formula_high s b ∙ tested (by_formula 0) tt s b h

-- the same multiplied out, of the seed's high byte h and the index e: what mixing the index with itself adds is one product
abbrev multiplied : ℕ → ℕ → ℕ
multiplied h e = bit_xor (bit_xor (bit_xor (bit_xor h (e * 256)) (e / 16)) (e * 8)) (e % 16 * 0x1081)

multiplied_high : (h e : ℕ) → multiplied h e ≡ bit_xor h (multiplied 0 e)
multiplied_high h e =
    let p = e % 16 * 0x1081 in
    ap (λ (x : ℕ). bit_xor x p) (first_out h (e * 256) (e / 16) (e * 8))
    ∙ xor_assoc h _ p
    ∙ ap (λ (x : ℕ). bit_xor h (bit_xor (bit_xor (bit_xor x (e / 16)) (e * 8)) p)) (sym (xor_zero_l (e * 256)))

-- as the code has it, of the seed with the byte in it: no shift of the index loses a bit in 16 of them
pub formula_multiplied : (s b t : ℕ) → b < 256 → t ≡ bit_xor s b
    → bit_xor (bit_xor (bit_xor (bit_xor (t / 256) (t * 256 % 65536)) (t % 256 / 16)) (t % 256 * 8 % 65536)) (t % 16 * 0x1081) ≡ fcs_byte s b
unfolding right fcs_bits
formula_multiplied s b t h e =
    let i = bit_xor (s % 256) b in
    let low : t % 256 ≡ i = ap (λ (x : ℕ). x % 256) e ∙ fcs_index s b h in
    let high : t / 256 ≡ s / 256 = ap (λ (x : ℕ). x / 256) e ∙ xor_shr s b 8 ∙ ap (bit_xor (s / 256)) (omega arith) ∙ xor_zero_r (s / 256) in
    let up : t * 256 % 65536 ≡ i * 256 = omega arith in
    let three : t % 256 * 8 % 65536 ≡ i * 8 = omega arith in
    let half : t % 16 ≡ i % 16 = omega arith in
    rw (up, three, half, low, high) (multiplied_high (s / 256) i ∙ tested (multiplied 0) tt s b h)

-- Only the right check bytes leave the good residue.
-- Assumes nothing.
use mathlib.Core.Path.{◌≡◌, sym, ap, ap₂, ◌∙◌}
use mathlib.Core.Bool.{Bool, cond}
use mathlib.Core.List.{[], ◌∷◌}
use Prim.Native.Nat.{ℕ, zero, suc, ◌+◌, ◌*◌, ◌/◌, ◌%◌, ◌^◌, ◌<◌}
use native.Mathlib.Omega.{arith}
use lib.Dec.{eqb, eqb→eq, ltb}
use lib.Bits.{bit_xor, xor_lt, xor_shr}
use Rattle.framing.specs.Rfc1662.{fcs_generator, fcs_bits, fcs_byte, fcs, check_bytes}
use Rattle.laws.proofs.Xor.{xor_twice, xor_back}
use Rattle.laws.proofs.Below.{below}
use Rattle.framing.proofs.Fcs.{fcs_byte_lem, fcs_index_lt, fcs_byte_lt, fcs_residue}

-- n steps back: the top bit says whether the generator went in
back : ℕ → ℕ → ℕ
back zero v = v
back (suc n) v = back n (cond (ltb v 0x8000) (v * 2 % 65536) ((bit_xor v fcs_generator * 2 + 1) % 65536))

-- the byte whose table entry has the high byte t
from_high : ℕ → ℕ
from_high t = back 8 (t * 256) % 256

test : ℕ → Bool
test k = eqb (from_high (fcs_byte k 0 / 256)) k

from : (k : ℕ) → k < 256 → from_high (fcs_byte k 0 / 256) ≡ k
unfolding test from_high back fcs_bits
from k h = eqb→eq (from_high (fcs_byte k 0 / 256)) k (below test 256 tt k h)

-- the high byte of a step tells the index, and so the byte
high : (s b : ℕ) → s < 2 ^ 16 → b < 2 ^ 8 → fcs_byte s b / 2 ^ 8 ≡ fcs_byte (bit_xor (s % 2 ^ 8) b) 0 / 2 ^ 8
high s b hs hb =
    let none : s / 2 ^ 8 / 2 ^ 8 ≡ 0 = omega arith in
    ap (λ (x : ℕ). x / 2 ^ 8) (fcs_byte_lem s b hb)
    ∙ xor_shr (s / 2 ^ 8) (fcs_byte (bit_xor (s % 2 ^ 8) b) 0) 8
    ∙ ap (λ (x : ℕ). bit_xor x (fcs_byte (bit_xor (s % 2 ^ 8) b) 0 / 2 ^ 8)) none

index : (s b : ℕ) → s < 2 ^ 16 → b < 2 ^ 8 → bit_xor (s % 2 ^ 8) b ≡ from_high (fcs_byte s b / 2 ^ 8)
index s b hs hb = sym (from (bit_xor (s % 2 ^ 8) b) (fcs_index_lt s b hb)) ∙ ap from_high (sym (high s b hs hb))

-- a byte is told by its index
told : (s b : ℕ) → b ≡ bit_xor (s % 2 ^ 8) (bit_xor (s % 2 ^ 8) b)
told s b = sym (xor_twice (s % 2 ^ 8) b)

-- two bytes behind s are told by the register that they leave
module _ (s a b a' b' : ℕ) (hs : s < 2 ^ 16) (ha : a < 2 ^ 8) (hb : b < 2 ^ 8) (ha' : a' < 2 ^ 8) (hb' : b' < 2 ^ 8)
    (e : fcs s (a ∷ b ∷ []) ≡ fcs s (a' ∷ b' ∷ [])) where
  mid : (x : ℕ) → fcs_byte s x < 2 ^ 16
  mid x = fcs_byte_lt s x hs

  ends : fcs_byte (fcs_byte s a) b ≡ fcs_byte (fcs_byte s a') b'
  unfolding fcs
  ends = e

  last_index : bit_xor (fcs_byte s a % 2 ^ 8) b ≡ bit_xor (fcs_byte s a' % 2 ^ 8) b'
  last_index = index (fcs_byte s a) b (mid a) hb ∙ ap (λ (x : ℕ). from_high (x / 2 ^ 8)) ends ∙ sym (index (fcs_byte s a') b' (mid a') hb')

  -- the last entry goes out of both sides
  tops : fcs_byte s a / 2 ^ 8 ≡ fcs_byte s a' / 2 ^ 8
  tops =
      let T = fcs_byte (bit_xor (fcs_byte s a % 2 ^ 8) b) 0 in
      sym (xor_back (fcs_byte s a / 2 ^ 8) T)
      ∙ ap (λ (x : ℕ). bit_xor x T)
      (sym (fcs_byte_lem (fcs_byte s a) b hb) ∙ ends ∙ fcs_byte_lem (fcs_byte s a') b' hb' ∙ ap (λ (x : ℕ). bit_xor (fcs_byte s a' / 2 ^ 8) (fcs_byte x 0)) (sym last_index))
      ∙ xor_back (fcs_byte s a' / 2 ^ 8) T

  pub same_first : a ≡ a'
  same_first = told s a ∙ ap (bit_xor (s % 2 ^ 8)) (index s a hs ha ∙ ap from_high tops ∙ sym (index s a' hs ha')) ∙ sym (told s a')

  pub same_second : b ≡ b'
  same_second =
      told (fcs_byte s a) b
      ∙ ap₂ (λ (x y : ℕ). bit_xor (fcs_byte s x % 2 ^ 8) y) same_first last_index
      ∙ sym (told (fcs_byte s a') b')

pub fcs_only : (s a b : ℕ) → s < 2 ^ 16 → a < 2 ^ 8 → b < 2 ^ 8 → fcs s (a ∷ b ∷ []) ≡ 0xF0B8 → (a ∷ b ∷ []) ≡ check_bytes s
fcs_only s a b hs ha hb e =
    let h = xor_lt 16 s 0xFFFF hs (omega arith) in
    let low : bit_xor s 0xFFFF % 256 < 2 ^ 8 = omega arith in
    let top : bit_xor s 0xFFFF / 256 < 2 ^ 8 = omega arith in
    let q = e ∙ sym (fcs_residue s hs) in
    ap₂ (λ (x y : ℕ). x ∷ y ∷ [])
    (same_first s a b (bit_xor s 0xFFFF % 256) (bit_xor s 0xFFFF / 256) hs ha hb low top q)
    (same_second s a b (bit_xor s 0xFFFF % 256) (bit_xor s 0xFFFF / 256) hs ha hb low top q)

-- Laws of the check value: a byte's eight steps in one formula, joins, the range, and the good residue.
-- Assumes nothing.
use mathlib.Core.Path.{◌≡◌, refl, sym, ap, ap₂, ◌∙◌}
use mathlib.Core.Bool.{Bool, true, false, cond}
use mathlib.Core.List.{List, [], ◌∷◌, ◌++◌}
use Prim.Native.Nat.{ℕ, zero, suc, ◌+◌, ◌*◌, ◌/◌, ◌%◌, ◌^◌, ◌≤◌, ◌<◌}
use native.Mathlib.Nat.{mul-one, pow-suc}
use native.Mathlib.Decide.{ℕ_discrete}
use native.Mathlib.Numerals.{add-one}
use native.Mathlib.Omega.{arith}
use borrow.Author.Tests.{eq-eqb, ne_eqb}
use lib.Arith.{lt-one}
use lib.Dec.{eqb}
use lib.ListN.{length, get_or, drop, drop_of_length-le}
use lib.Seq.{drop-cons}
use lib.Bits.{bit_xor, differ, xor_zero_r, xor_lt, xor_shr, xor_mod, shifted_half, shifted_even}
use Rattle.framing.specs.Rfc1662.{fcs_generator, fcs_bit, fcs_bits, fcs_byte, fcs, check_bytes}
use Rattle.laws.proofs.Xor.{xor_half, xor_odd, xor_assoc, xor_swap, xor_twice, xor_cancel, xor_split}

-- ---- one bit, by cases

same : (s d : ℕ) → s % 2 ≡ d → fcs_bit s d ≡ s / 2
same s d h = ap (λ (t : Bool). cond t (s / 2) (bit_xor (s / 2) fcs_generator)) (eq-eqb (s % 2) d h)

other : (s d : ℕ) → (s % 2 ≡ d → ⊥) → fcs_bit s d ≡ bit_xor (s / 2) fcs_generator
other s d h = ap (λ (t : Bool). cond t (s / 2) (bit_xor (s / 2) fcs_generator)) (ne_eqb (s % 2) d h)

differ_zero : (x y : ℕ) → differ x y ≡ 0 → x ≡ y
differ_zero zero y h = sym h
differ_zero (suc x) zero h = h
differ_zero (suc x) (suc y) h = ap suc (differ_zero x y h)

differ_self : (x : ℕ) → differ x x ≡ 0
differ_self zero = refl
differ_self (suc x) = differ_self x

-- ---- one bit: the data is a xor into the register, and what stands above the low bits only moves down

module _ (n h v d : ℕ) where
  top_half : bit_xor (h * 2 ^ suc n) v / 2 ≡ bit_xor (h * 2 ^ n) (v / 2)
  top_half = xor_half (h * 2 ^ suc n) v ∙ ap (λ (x : ℕ). bit_xor x (v / 2)) (shifted_half h n)

  top_odd : bit_xor (h * 2 ^ suc n) v % 2 ≡ v % 2
  top_odd = xor_odd (h * 2 ^ suc n) v ∙ ap (λ (x : ℕ). differ x (v % 2)) (shifted_even h n)

  top_by : Dec (v % 2 ≡ d) → fcs_bit (bit_xor (h * 2 ^ suc n) v) d ≡ bit_xor (h * 2 ^ n) (fcs_bit v d)
  top_by (yes e) = same (bit_xor (h * 2 ^ suc n) v) d (top_odd ∙ e) ∙ top_half ∙ ap (bit_xor (h * 2 ^ n)) (sym (same v d e))
  top_by (no e) =
      other (bit_xor (h * 2 ^ suc n) v) d (λ z. e (sym top_odd ∙ z))
      ∙ ap (λ (x : ℕ). bit_xor x fcs_generator) top_half
      ∙ xor_assoc (h * 2 ^ n) (v / 2) fcs_generator
      ∙ ap (bit_xor (h * 2 ^ n)) (sym (other v d e))

data_by : (v b : ℕ) → Dec (v % 2 ≡ b % 2) → bit_xor (fcs_bit v (b % 2)) (b / 2) ≡ fcs_bit (bit_xor v b) 0
data_by v b (yes e) =
    ap (λ (x : ℕ). bit_xor x (b / 2)) (same v (b % 2) e) ∙ sym (xor_half v b)
    ∙ sym (same (bit_xor v b) 0 (xor_odd v b ∙ ap (λ (x : ℕ). differ x (b % 2)) e ∙ differ_self (b % 2)))
data_by v b (no e) =
    ap (λ (x : ℕ). bit_xor x (b / 2)) (other v (b % 2) e) ∙ xor_swap (v / 2) fcs_generator (b / 2)
    ∙ ap (λ (x : ℕ). bit_xor x fcs_generator) (sym (xor_half v b))
    ∙ sym (other (bit_xor v b) 0 (λ z. e (differ_zero (v % 2) (b % 2) (sym (xor_odd v b) ∙ z))))

-- ---- n bits

bits : (n h v b : ℕ) → b < 2 ^ n → fcs_bits n (bit_xor (h * 2 ^ n) v) b ≡ bit_xor h (fcs_bits n (bit_xor v b) 0)
unfolding fcs_bits
bits zero h v b hb = ap₂ bit_xor (mul-one h) (sym (xor_zero_r v) ∙ ap (bit_xor v) (sym (lt-one hb)))
bits (suc n) h v b hb =
    ap (λ (s : ℕ). fcs_bits n s (b / 2)) (top_by n h v (b % 2) (ℕ_discrete (v % 2) (b % 2)))
    ∙ bits n h (fcs_bit v (b % 2)) (b / 2) (omega (arith, pow-suc 2 n))
    ∙ ap (λ (s : ℕ). bit_xor h (fcs_bits n s 0)) (data_by v b (ℕ_discrete (v % 2) (b % 2)))

-- a byte: RFC 1662's `(fcs >> 8) ^ table[(fcs ^ byte) & 0xff]`, where table[i] is the eight steps of i on no data
pub fcs_byte_lem : (s b : ℕ) → b < 2 ^ 8 → fcs_byte s b ≡ bit_xor (s / 2 ^ 8) (fcs_byte (bit_xor (s % 2 ^ 8) b) 0)
fcs_byte_lem s b hb = ap (λ (x : ℕ). fcs_byte x b) (sym (xor_split s 8)) ∙ bits 8 (s / 2 ^ 8) (s % 2 ^ 8) b hb

-- the index into the table
pub fcs_index_lt : (s b : ℕ) → b < 2 ^ 8 → bit_xor (s % 2 ^ 8) b < 2 ^ 8
fcs_index_lt s b h = xor_lt 8 (s % 2 ^ 8) b (omega arith) h

-- the paper's, of the register with the byte in it, is the same
pub fcs_index : (s b : ℕ) → b < 2 ^ 8 → bit_xor s b % 2 ^ 8 ≡ bit_xor (s % 2 ^ 8) b
fcs_index s b h =
    let all : b % 2 ^ 8 ≡ b = omega (arith, h) in
    xor_mod s b 8 ∙ ap (bit_xor (s % 2 ^ 8)) all

-- ---- runs of bytes

pub fcs-append : (s : ℕ) (a b : List ℕ) → fcs s (a ++ b) ≡ fcs (fcs s a) b
unfolding fcs
fcs-append s [] b = refl
fcs-append s (x ∷ a) b = fcs-append (fcs_byte s x) a b

-- the address byte takes the sender's seed to the reader's
pub fcs_address : (l : List ℕ) → fcs 0xFFFF (0xFF ∷ l) ≡ fcs 0x00FF l
unfolding fcs fcs_bits
fcs_address l = refl

-- what a loop over the bytes of l uses: at index i, and past the end
pub fcs-next : (s i : ℕ) (l : List ℕ) → i < length l → fcs s (drop i l) ≡ fcs (fcs_byte s (get_or l i 0)) (drop (i + 1) l)
unfolding fcs
fcs-next s i l h = rw (add-one, drop-cons l i 0)

pub fcs_end : (s i : ℕ) (l : List ℕ) → length l ≤ i → fcs s (drop i l) ≡ s
unfolding fcs
fcs_end s i l h = ap (fcs s) (drop_of_length-le l h)

-- a turn of such a loop: r is the register s with the byte at i
pub fcs_turn : (s₀ s i : ℕ) (l : List ℕ) {r : ℕ} → i < length l → r ≡ fcs_byte s (get_or l i 0) → fcs s (drop i l) ≡ fcs s₀ l → fcs r (drop (i + 1) l) ≡ fcs s₀ l
fcs_turn s₀ s i l h e q = ap (λ (x : ℕ). fcs x (drop (i + 1) l)) e ∙ sym (fcs-next s i l h) ∙ q

-- ---- the range

bit_lt : (t : Bool) (x : ℕ) → x < 2 ^ 16 → cond t (x / 2) (bit_xor (x / 2) fcs_generator) < 2 ^ 16
bit_lt true x h = omega arith
bit_lt false x h = xor_lt 16 (x / 2) fcs_generator (omega arith) (omega arith)

bits_lt : (n s b : ℕ) → s < 2 ^ 16 → fcs_bits n s b < 2 ^ 16
unfolding fcs_bits
bits_lt zero s b h = h
bits_lt (suc n) s b h = bits_lt n (fcs_bit s (b % 2)) (b / 2) (bit_lt (eqb (s % 2) (b % 2)) s h)

pub fcs_byte_lt : (s b : ℕ) → s < 2 ^ 16 → fcs_byte s b < 2 ^ 16
fcs_byte_lt = bits_lt 8

pub fcs_lt : (s : ℕ) (bs : List ℕ) → s < 2 ^ 16 → fcs s bs < 2 ^ 16
unfolding fcs
fcs_lt s [] h = h
fcs_lt s (b ∷ bs) h = fcs_lt (fcs_byte s b) bs (fcs_byte_lt s b h)

-- ---- the good residue: any register, then its check bytes

first : (s : ℕ) → fcs_byte s (bit_xor s 0xFFFF % 2 ^ 8) ≡ bit_xor (s / 2 ^ 8) 0x0F78
unfolding fcs_bits
first s =
    fcs_byte_lem s (bit_xor s 0xFFFF % 2 ^ 8) (omega arith)
    ∙ ap (λ (x : ℕ). bit_xor (s / 2 ^ 8) (fcs_byte x 0))
    (ap (bit_xor (s % 2 ^ 8)) (xor_mod s 0xFFFF 8) ∙ xor_twice (s % 2 ^ 8) 0xFF)

second : (h : ℕ) → h < 2 ^ 8 → fcs_byte (bit_xor h 0x0F78) (bit_xor h 0xFF) ≡ 0xF0B8
unfolding fcs_bits
second h k =
    let none : h / 2 ^ 8 ≡ 0 = omega arith in
    let all : h % 2 ^ 8 ≡ h = omega arith in
    fcs_byte_lem (bit_xor h 0x0F78) (bit_xor h 0xFF) (xor_lt 8 h 0xFF k (omega arith))
    ∙ ap₂ (λ (x y : ℕ). bit_xor x (fcs_byte (bit_xor y (bit_xor h 0xFF)) 0))
    (xor_shr h 0x0F78 8 ∙ ap (λ (x : ℕ). bit_xor x 0x0F) none)
    (xor_mod h 0x0F78 8 ∙ ap (λ (x : ℕ). bit_xor x 0x78) all)
    ∙ ap (λ (x : ℕ). bit_xor 0x0F (fcs_byte x 0)) (xor_cancel h 0x78 0xFF)

pub fcs_residue : (s : ℕ) → s < 2 ^ 16 → fcs s (check_bytes s) ≡ 0xF0B8
unfolding fcs
fcs_residue s k =
    ap (λ (x : ℕ). fcs_byte x (bit_xor s 0xFFFF / 2 ^ 8)) (first s)
    ∙ ap (fcs_byte (bit_xor (s / 2 ^ 8) 0x0F78)) (xor_shr s 0xFFFF 8)
    ∙ second (s / 2 ^ 8) (omega arith)

-- any message and its check bytes leave the good residue
pub fcs_good : (s : ℕ) (m : List ℕ) → s < 2 ^ 16 → fcs s (m ++ check_bytes (fcs s m)) ≡ 0xF0B8
fcs_good s m k = fcs-append s m (check_bytes (fcs s m)) ∙ fcs_residue (fcs s m) (fcs_lt s m k)

-- RFC 1662, "PPP in HDLC-like Framing", from the paper alone: the check sequence, the frame as it is sent, and
-- what a receiver reads off the bytes between two flags.
use Rattle.std.specs.Prelude.{◌≡◌, Bool, true, false, cond, not, ◌&&◌, ◌||◌, List, [], ◌∷◌, ◌++◌, ℕ, zero, suc, ◌/◌, ◌%◌, ◌^◌, eqb, ltb}
use Rattle.std.specs.Int.Bits.{bit_xor}

-- Appendix C.1 (P): the generator x^16 + x^12 + x^5 + 1, its bits reversed
abbrev pub fcs_generator : ℕ
fcs_generator = 0x8408

-- Appendix C.1: one bit d enters the register s, which is shifted right; the generator goes in where the bits differ
abbrev pub fcs_bit : ℕ → ℕ → ℕ
fcs_bit s d = cond (eqb (s % 2) d) (s / 2) (bit_xor (s / 2) fcs_generator)

-- Section 3.1: bits are sent least significant first; the n lowest bits of b
unfoldable pub fcs_bits : ℕ → ℕ → ℕ → ℕ
fcs_bits zero s b = s
fcs_bits (suc n) s b = fcs_bits n (fcs_bit s (b % 2)) (b / 2)

abbrev pub fcs_byte : ℕ → ℕ → ℕ
fcs_byte s b = fcs_bits 8 s b

-- the register after a run of bytes
unfoldable pub fcs : ℕ → List ℕ → ℕ
fcs s [] = s
fcs s (b ∷ bs) = fcs (fcs_byte s b) bs

-- Section 3.1, Appendix C.2: the complement of the register, low byte first
abbrev pub check_bytes : ℕ → List ℕ
check_bytes s = bit_xor s 0xFFFF % 256 ∷ bit_xor s 0xFFFF / 256 ∷ []

-- Section 3.1: what stands between the flags: address, control, information, check sequence from FFFF
abbrev pub fields : List ℕ → List ℕ
fields p = (0xFF ∷ 0x03 ∷ p) ++ check_bytes (fcs 0xFFFF (0xFF ∷ 0x03 ∷ p))

-- Sections 4.2 and 7.1: 7D, 7E, and each byte below 20 whose bit is set in the map
unfoldable pub escaped : ℕ → ℕ → Bool
escaped m b = cond (ltb b 0x20) (eqb (m / 2 ^ b % 2) 1) (eqb b 0x7D || eqb b 0x7E)

-- Section 4.2: a byte as it is sent
unfoldable pub unit : ℕ → ℕ → List ℕ
unit m b = cond (escaped m b) (0x7D ∷ bit_xor b 0x20 ∷ []) (b ∷ [])

unfoldable pub stuffed : ℕ → List ℕ → List ℕ
stuffed m [] = []
stuffed m (b ∷ bs) = unit m b ++ stuffed m bs

-- Sections 3.1 and 4.1: the fields of p between two flags
unfoldable pub frame : ℕ → List ℕ → List ℕ
frame m p = 0x7E ∷ (stuffed m (fields p) ++ (0x7E ∷ []))

-- Section 7.1: the bits of a map are numbered from the least significant on, from 0
unfoldable pub bit : ℕ → ℕ → ℕ
bit zero m = m % 2
bit (suc b) m = bit b (m / 2)

-- Sections 4.2 and 7.1: a byte below 20 that a receiver's map flags: the bit of its number is set
unfoldable pub flagged : ℕ → ℕ → Bool
flagged m b = ltb b 0x20 && eqb (bit b m) 1

-- Section 4.2: a receiver first removes those, since the line may have inserted them
unfoldable pub removed : ℕ → List ℕ → List ℕ
removed m [] = []
removed m (b ∷ w) = cond (flagged m b) (removed m w) (b ∷ removed m w)

-- Section 4.2: then it takes each escape away and the byte behind it xor 20; the Bool says whether an escape is open
unfoldable pub unescaped : Bool → List ℕ → List ℕ
unescaped o [] = []
unescaped o (b ∷ w) = cond o (bit_xor b 0x20 ∷ unescaped false w) (cond (eqb b 0x7D) (unescaped true w) (b ∷ unescaped false w))

-- Section 4.3: a frame that ends with an escape right before the closing flag is invalid
unfoldable pub aborted : Bool → List ℕ → Bool
aborted o [] = o
aborted o (b ∷ w) = aborted (not o && eqb b 0x7D) w

-- to a receiver with the map m the bytes w between two flags are a valid frame with the information p
pub record Carries (m : ℕ) (w p : List ℕ) : Type 0 where
  pub whole : aborted false (removed m w) ≡ false
  pub read : unescaped false (removed m w) ≡ fields p

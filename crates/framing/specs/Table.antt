-- Two ways to take the check value's register over a byte: the crate's formula, and a table as RFC 1662 has it. Neither says what the check
-- value is: that is `fcs` of Rfc1662 alone, which both are proved to give.
use Rattle.std.specs.Prelude.{◌≡◌, List, [], ◌∷◌, ℕ, ◌*◌, ◌/◌, ◌%◌, ◌^◌, ◌<◌, T, eqb, length, get_or}
use Rattle.std.specs.Int.Bits.{bit_xor}
use Rattle.laws.specs.Below.{every_entry}
use Rattle.laws.specs.Each.{Bytes}
use Rattle.framing.specs.Rfc1662.{fcs}

-- crc.rs of the crate: its f, and the three shifts of it
abbrev pub fold : ℕ → ℕ
fold e = bit_xor e (e * 2 ^ 4 % 2 ^ 8)

abbrev pub mixed : ℕ → ℕ → ℕ
mixed s f = bit_xor (bit_xor (bit_xor (s / 2 ^ 8) (f * 2 ^ 8 % 2 ^ 16)) (f * 2 ^ 3 % 2 ^ 16)) (f / 2 ^ 4)

-- crc.rs of the crate: one byte
abbrev pub by_formula : ℕ → ℕ → ℕ
by_formula s b = mixed s (fold (bit_xor (s % 256) b))

-- Appendix C.2: `fcs = (fcs >> 8) ^ fcstab[(fcs ^ *cp++) & 0xff]`
abbrev pub by_table : List ℕ → ℕ → ℕ → ℕ
by_table t s b = bit_xor (s / 256) (get_or t (bit_xor s b % 256) 0)

-- the register after a run of bytes, by a way to take it over one
unfoldable pub register : (ℕ → ℕ → ℕ) → ℕ → List ℕ → ℕ
register way s [] = s
register way s (b ∷ bs) = register way (way s b) bs

-- Document 02, 6/12: 256 entries, each the formula's value of the byte of its place from seed 0; one test over the whole table
unfoldable pub Table : List ℕ → Type 0
Table t = (length t ≡ 256) × T (every_entry (λ k x. eqb x (by_formula 0 k)) 0 t)

-- Document 02, 6/12: what such a table comes to, at each entry, and then for every seed and byte string
pub record BothWays (t : List ℕ) : Type 0 where
  pub entry : (k : ℕ) → k < 256 → get_or t k 0 ≡ by_formula 0 k
  pub same : (s : ℕ) (bs : List ℕ) → Bytes bs → register (by_table t) s bs ≡ register by_formula s bs
  pub check : (s : ℕ) (bs : List ℕ) → Bytes bs → register by_formula s bs ≡ fcs s bs

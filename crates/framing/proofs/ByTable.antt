-- A table whose entries are the formula's values from seed 0 gives, for every seed and byte string, what the formula gives: the check value.
-- Assumes nothing.
use mathlib.Core.Path.{◌≡◌, refl, sym, ap, ◌∙◌}
use mathlib.Core.List.{List, [], ◌∷◌}
use Prim.Native.Nat.{ℕ, ◌/◌, ◌%◌, ◌^◌, ◌<◌}
use native.Mathlib.Omega.{arith}
use lib.Dec.{eqb, eqb→eq}
use lib.ListN.{get_or, length}
use lib.Bits.{bit_xor}
use Rattle.laws.specs.Each.{Bytes}
use Rattle.laws.proofs.Below.{each_entry}
use Rattle.framing.specs.Rfc1662.{fcs, fcs_byte}
use Rattle.framing.specs.Table.{by_formula, by_table, register, Table, BothWays}
use Rattle.framing.proofs.Fcs.{fcs_index, fcs_index_lt}
use Rattle.framing.proofs.Formula.{formula, formula_high}

-- two ways that agree at each byte agree over every run
alike : (f g : ℕ → ℕ → ℕ) → ((s b : ℕ) → b < 256 → f s b ≡ g s b) → (s : ℕ) (bs : List ℕ) → Bytes bs → register f s bs ≡ register g s bs
unfolding register
alike f g e s [] h = refl
alike f g e s (b ∷ bs) h = ap (λ (x : ℕ). register f x bs) (e s b h.0) ∙ alike f g e (g s b) bs h.1

-- the paper's own way is bit by bit
bit_by_bit : (s : ℕ) (bs : List ℕ) → register fcs_byte s bs ≡ fcs s bs
unfolding register fcs
bit_by_bit s [] = refl
bit_by_bit s (b ∷ bs) = bit_by_bit (fcs_byte s b) bs

module _ (t : List ℕ) (whole : Table t) where
  -- each byte has its entry
  pub table_inside : (x : ℕ) → x % 256 < length t
  unfolding Table
  table_inside x = omega (arith, whole.0)

  -- the whole-table test, at one entry
  entry : (k : ℕ) → k < 256 → get_or t k 0 ≡ by_formula 0 k
  unfolding Table
  entry k h = eqb→eq (get_or t k 0) (by_formula 0 k) (each_entry (λ i x. eqb x (by_formula 0 i)) 0 t whole.1 k (omega (arith, whole.0, h)))

  byte : (s b : ℕ) → b < 256 → by_table t s b ≡ by_formula s b
  byte s b h =
      ap (bit_xor (s / 256)) (ap (λ (x : ℕ). get_or t x 0) (fcs_index s b h) ∙ entry (bit_xor (s % 2 ^ 8) b) (fcs_index_lt s b h))
      ∙ sym (formula_high s b)

  pub table_step : (s b : ℕ) → b < 256 → by_table t s b ≡ fcs_byte s b
  table_step s b h = byte s b h ∙ formula s b h

  pub both_ways : BothWays t
  both_ways = record { entry = entry; same = alike (by_table t) by_formula byte; check = λ s bs h. alike by_formula fcs_byte formula s bs h ∙ bit_by_bit s bs }

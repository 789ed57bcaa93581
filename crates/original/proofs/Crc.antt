-- crc16 of crc.rs is our check value.
-- Assumes nothing.
use mathlib.Core.Path.{◌≡◌, refl, ap, ◌∙◌}
use mathlib.Core.List.{List, [], ◌∷◌}
use Prim.Native.Nat.{ℕ}
use Rattle.laws.specs.Each.{Bytes}
use Rattle.framing.specs.Rfc1662.{fcs, fcs_byte}
use Rattle.framing.proofs.Formula.{formula}
use Rattle.original.specs.Crc.{crc16}

pub same-crc16 : (seed : ℕ) (bs : List ℕ) → Bytes bs → crc16 seed bs ≡ fcs seed bs
unfolding crc16 fcs
same-crc16 seed [] h = refl
same-crc16 seed (b ∷ bs) h = ap (λ (s : ℕ). crc16 s bs) (formula seed b h.0) ∙ same-crc16 (fcs_byte seed b) bs h.1

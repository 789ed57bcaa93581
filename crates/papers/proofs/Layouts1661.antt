-- Option lists that are written are RFC 1661's: an option alone, one list behind another, an own option that may have been dropped.
-- Assumes nothing.
use Prim.Native.Nat.{ℕ, ◌+◌, ◌<◌}
use mathlib.Core.Path.{◌≡◌, refl, ap}
use mathlib.Core.Bool.{Bool, true, false, cond}
use mathlib.Core.List.{List, [], ◌∷◌, ◌++◌, append_assoc, append-nil}
use native.Mathlib.Omega.{arith}
use lib.ListN.{length}
use Rattle.laws.specs.Be.{be_bytes}
use Rattle.laws.proofs.Be.{length_be}
use Rattle.papers.specs.Rfc1661.{Option, Options, none, more}
use Rattle.options.specs.Options.{opt_bytes}

abbrev pub option_as : ℕ → List ℕ → Option
option_as c d = record { type = c; value = d }

-- an option alone
pub laid_one : (c : ℕ) (d : List ℕ) → c < 256 → length d + 2 < 256 → Options (opt_bytes c d) (option_as c d ∷ [])
laid_one c d h k = rw append-nil at (more (option_as c d) h k none)

-- one list behind another
pub laid_both : {a b : List ℕ} {os ps : List Option} → Options a os → Options b ps → Options (a ++ b) (os ++ ps)
laid_both none q = q
laid_both (more o h k p) q = rw append_assoc (more o h k (laid_both p q))

-- the paper lays options out in one way
abbrev pub bytes_of : List Option → List ℕ
bytes_of [] = []
bytes_of (o ∷ os) = opt_bytes o.type o.value ++ bytes_of os

pub options_bytes : {s : List ℕ} {os : List Option} → Options s os → s ≡ bytes_of os
options_bytes none = refl
options_bytes (more o h k p) = ap (λ (l : List ℕ). opt_bytes o.type o.value ++ l) (options_bytes p)

-- ---- own options

-- an own option in a list: none if it was dropped, else one that the paper has with this number
pub data Carries (paper : Option → ℕ → Type 0) (dropped : Bool) (number : ℕ) : List Option → Type 0 where
  left : dropped ≡ true → Carries paper dropped number []
  sent : (o : Option) → dropped ≡ false → paper o number → Carries paper dropped number (o ∷ [])

-- the same in bytes
pub record Field (paper : Option → ℕ → Type 0) (dropped : Bool) (number : ℕ) (bytes : List ℕ) : Type 0 where
  pub options : List Option
  pub carries : Carries paper dropped number options
  pub laid : Options bytes options

-- an option of type c with four bytes, which the paper has with the number v
pub laid_field : (paper : Option → ℕ → Type 0) (dropped : Bool) (c v : ℕ) → c < 256 → paper (option_as c (be_bytes 4 v)) v
    → Field paper dropped v (cond dropped [] (opt_bytes c (be_bytes 4 v)))
laid_field paper true c v h x = record { options = []; carries = left refl; laid = none }
laid_field paper false c v h x =
    record {
      options = option_as c (be_bytes 4 v) ∷ [];
      carries = sent (option_as c (be_bytes 4 v)) refl x;
      laid = laid_one c (be_bytes 4 v) h (omega (arith, length_be 4 v));
    }

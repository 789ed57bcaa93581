-- Our fields of two and four bytes are the papers' octets.
-- Assumes nothing.
use mathlib.Core.Path.{◌≡◌, refl}
use mathlib.Core.List.{[], ◌∷◌}
use Prim.Native.Nat.{ℕ, ◌/◌, ◌%◌, ◌<◌}
use native.Mathlib.Omega.{arith}
use Rattle.laws.specs.Be.{be_bytes}
use Rattle.papers.specs.Rfc1661.{two_octets}

pub two_octets_lem : (n : ℕ) → n < 65536 → be_bytes 2 n ≡ two_octets n
unfolding be_bytes
two_octets_lem n h =
    let a : n / 256 % 256 ≡ n / 256 = omega arith in
    let b : n / 1 % 256 ≡ n % 256 = omega arith in
    rw (a, b) refl

pub four_octets : (n : ℕ) → n < 0x100000000 → be_bytes 4 n ≡ n / 0x1000000 ∷ n / 0x10000 % 256 ∷ n / 256 % 256 ∷ n % 256 ∷ []
unfolding be_bytes
four_octets n h =
    let a : n / 0x1000000 % 256 ≡ n / 0x1000000 = omega arith in
    let b : n / 1 % 256 ≡ n % 256 = omega arith in
    rw (a, b) refl

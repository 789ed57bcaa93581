-- What a receiver reads off stuffed bytes, and the shape and the size of a frame.
-- Assumes nothing.
use mathlib.Core.Path.{◌≡◌, refl, ap}
use mathlib.Core.Bool.{Bool, true, false, and-false}
use mathlib.Core.List.{List, [], ◌∷◌, ◌++◌}
use Prim.Native.Nat.{ℕ, zero, suc, ◌+◌, ◌*◌, ◌≤◌}
use native.Mathlib.Omega.{arith}
use borrow.Author.Tests.{ne_eqb}
use lib.Dec.{eqb, ltb}
use lib.ListN.{length, length-append}
use lib.Bits.{bit_xor, xor_lt}
use Rattle.laws.specs.Each.{Bytes, Without}
use Rattle.laws.proofs.Cases.{by_test, cond_all}
use Rattle.laws.proofs.Xor.{xor_back}
use Rattle.framing.specs.Rfc1662.{fcs_bits, fcs, check_bytes, fields, escaped, unit, stuffed, frame, bit, flagged, removed, unescaped, aborted}
use Rattle.framing.specs.Paper.{doubled, Unflagged}
use Rattle.framing.proofs.Stuffing.{unit-escaped, unit_plain, mark_escaped, flipped_plain, stuffed_narrow, stuffed_without}

-- a unit is an escape and a byte that is none, or one byte that is none
unit_cases : (P : List ℕ → Type 0) (m b : ℕ)
    → ((bit_xor b 0x20 ≡ 0x7D → ⊥) → P (0x7D ∷ bit_xor b 0x20 ∷ [])) → ((b ≡ 0x7D → ⊥) → P (b ∷ [])) → P (unit m b)
unit_cases P m b f g =
    by_test (escaped m b)
    (λ e. rw (unit-escaped m b e) (f (flipped_plain m b 0x7D e (omega arith) (omega arith))))
    (λ e. rw (unit_plain m b e) (g (λ q. let z : ◌≡◌ {A = ℕ} 0 1 = cc (rw q at e, mark_escaped m) in omega arith)))

-- ---- one unit, and what follows it

unescaped-unit : (m b : ℕ) (w : List ℕ) → unescaped false (unit m b ++ w) ≡ b ∷ unescaped false w
unfolding unescaped
unescaped-unit m b w =
    unit_cases (λ u. unescaped false (u ++ w) ≡ b ∷ unescaped false w) m b (λ n. rw (xor_back b 0x20)) (λ n. rw (ne_eqb b 0x7D n))

aborted-unit : (m b : ℕ) (w : List ℕ) → aborted false (unit m b ++ w) ≡ aborted false w
unfolding aborted
aborted-unit m b w = unit_cases (λ u. aborted false (u ++ w) ≡ aborted false w) m b (λ n. refl) (λ n. ap (λ t. aborted t w) (ne_eqb b 0x7D n))

doubled-unit : (m b : ℕ) (w : List ℕ) → doubled false (unit m b ++ w) ≡ doubled false w
unfolding doubled
doubled-unit m b w =
    unit_cases (λ u. doubled false (u ++ w) ≡ doubled false w) m b (λ n. rw (ne_eqb (bit_xor b 0x20) 0x7D n)) (λ n. rw (ne_eqb b 0x7D n))

-- ---- stuffed bytes, whatever the map: they are read back, and end with no escape, and 7D never follows 7D

pub unescaped-stuffed : (m : ℕ) (bs : List ℕ) → unescaped false (stuffed m bs) ≡ bs
unfolding stuffed unescaped
unescaped-stuffed m [] = refl
unescaped-stuffed m (b ∷ bs) = rw (unescaped-unit m b (stuffed m bs), unescaped-stuffed m bs)

pub aborted-stuffed : (m : ℕ) (bs : List ℕ) → aborted false (stuffed m bs) ≡ false
unfolding stuffed aborted
aborted-stuffed m [] = refl
aborted-stuffed m (b ∷ bs) = rw (aborted-unit m b (stuffed m bs), aborted-stuffed m bs)

pub doubled-stuffed : (m : ℕ) (bs : List ℕ) → doubled false (stuffed m bs) ≡ false
unfolding stuffed doubled
doubled-stuffed m [] = refl
doubled-stuffed m (b ∷ bs) = rw (doubled-unit m b (stuffed m bs), doubled-stuffed m bs)

-- ---- what a receiver removes

pub removed_none : (m : ℕ) (w : List ℕ) → Unflagged m w → removed m w ≡ w
unfolding removed
removed_none m [] n = refl
removed_none m (b ∷ w) n = rw (n.0, removed_none m w n.1)

bit_zero : (b : ℕ) → bit b 0 ≡ 0
unfolding bit
bit_zero zero = refl
bit_zero (suc b) = bit_zero b

-- map 0 flags nothing, so that `Paper` says with it what holds of every w: our reader has no map
pub unflagged_zero : (w : List ℕ) → Unflagged 0 w
unfolding flagged
unflagged_zero [] = tt
unflagged_zero (b ∷ w) = (rw (bit_zero b) (and-false (ltb b 0x20)), unflagged_zero w)

pub removed_zero : (w : List ℕ) → removed 0 w ≡ w
removed_zero w = removed_none 0 w (unflagged_zero w)

-- ---- what is read off bytes is bytes

pub unescaped_bytes : (e : Bool) (w : List ℕ) → Bytes w → Bytes (unescaped e w)
unfolding unescaped
unescaped_bytes e [] ok = tt
unescaped_bytes true (b ∷ w) ok = (xor_lt 8 b 0x20 ok.0 (omega arith), unescaped_bytes false w ok.1)
unescaped_bytes false (b ∷ w) ok = cond_all Bytes (eqb b 0x7D) (unescaped_bytes true w ok.1) (ok.0, unescaped_bytes false w ok.1)

-- ---- a frame

-- what stands behind the address: control, information, check sequence
abbrev pub control_on : List ℕ → List ℕ
control_on p = 0x03 ∷ (p ++ check_bytes (fcs 0x00FF (0x03 ∷ p)))

pub fields_control : (p : List ℕ) → fields p ≡ 0xFF ∷ control_on p
unfolding fcs fcs_bits
fields_control p = refl

pub control_length : (p : List ℕ) → length (control_on p) ≡ length p + 3
control_length p = omega (arith, length-append p (check_bytes (fcs 0x00FF (0x03 ∷ p))))

-- the address is sent as it is
pub stuffed-fields : (m : ℕ) (p : List ℕ) → stuffed m (fields p) ≡ 0xFF ∷ stuffed m (control_on p)
unfolding stuffed unit escaped
stuffed-fields m p = ap (stuffed m) (fields_control p)

-- a flag stands first and last, and nowhere between
pub frame_flags : (m : ℕ) (p : List ℕ) → (body : List ℕ) × (frame m p ≡ 0x7E ∷ (body ++ (0x7E ∷ []))) × Without 0x7E body
unfolding frame
frame_flags m p = (stuffed m (fields p), refl, stuffed_without m (fields p))

pub frame-length : (m : ℕ) (p : List ℕ) → length (frame m p) ≡ length (stuffed m (control_on p)) + 3
unfolding frame
frame-length m p = rw (stuffed-fields m p) (omega (arith, length-append (stuffed m (control_on p)) (0x7E ∷ [])))

-- a byte takes one or two, the address one
pub frame_narrow : (m : ℕ) (p : List ℕ) → length (frame m p) ≤ 2 * length p + 9
frame_narrow m p = omega (arith, frame-length m p, stuffed_narrow m (control_on p), control_length p)

unit_least : (m b : ℕ) → 1 ≤ length (unit m b)
unit_least m b = unit_cases (λ u. 1 ≤ length u) m b (λ n. omega arith) (λ n. omega arith)

stuffed_least : (m : ℕ) (bs : List ℕ) → length bs ≤ length (stuffed m bs)
unfolding stuffed
stuffed_least m [] = omega arith
stuffed_least m (b ∷ bs) = omega (arith, length-append (unit m b) (stuffed m bs), unit_least m b, stuffed_least m bs)

pub frame_least : (m : ℕ) (p : List ℕ) → length p + 6 ≤ length (frame m p)
frame_least m p = omega (arith, frame-length m p, stuffed_least m (control_on p), control_length p)

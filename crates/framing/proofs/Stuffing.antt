-- Laws of the stuffing: by units, over joins, and no flag in what is stuffed.
-- Assumes nothing.
use mathlib.Core.Path.{◌≡◌, refl, ◌∙◌}
use mathlib.Core.Bool.{Bool, true, false, ◌||◌}
use mathlib.Core.List.{List, [], ◌∷◌, ◌++◌, append_assoc}
use Prim.Native.Nat.{ℕ, ◌+◌, ◌*◌, ◌≤◌, ◌<◌}
use native.Mathlib.Omega.{arith}
use native.Mathlib.Numerals.{add-one}
use borrow.Author.Tests.{eqb-true, le-ltb}
use lib.Dec.{eqb}
use lib.ListN.{length, drop, get_or, length-append}
use lib.Seq.{drop-cons}
use lib.Bits.{bit_xor, xor_comm, xor_shifted}
use Rattle.laws.specs.Each.{Without}
use Rattle.laws.proofs.Cases.{by_le, by_test}
use Rattle.laws.proofs.Each.{each_append}
use Rattle.framing.specs.Rfc1662.{escaped, unit, stuffed}

pub unit-escaped : (m b : ℕ) → escaped m b ≡ true → unit m b ≡ 0x7D ∷ bit_xor b 0x20 ∷ []
unfolding unit
unit-escaped m b h = rw h

pub unit_plain : (m b : ℕ) → escaped m b ≡ false → unit m b ≡ b ∷ []
unfolding unit
unit_plain m b h = rw h

-- which bytes are escaped
pub escaped_cases : {P : Type 0} (m b : ℕ) → escaped m b ≡ true → (b < 0x20 → P) → (b ≡ 0x7D → P) → (b ≡ 0x7E → P) → P
unfolding escaped
escaped_cases {P} m b e f g h = by_le 0x20 b (λ p. go (eqb b 0x7D) refl (rw (le-ltb b 0x20 p) at e)) f
  where
    go : (t : Bool) → eqb b 0x7D ≡ t → t || eqb b 0x7E ≡ true → P
    go true q r = g (eqb-true b 0x7D q)
    go false q r = h (eqb-true b 0x7E r)

pub flag_escaped : (m : ℕ) → escaped m 0x7E ≡ true
unfolding escaped
flag_escaped m = refl

pub mark_escaped : (m : ℕ) → escaped m 0x7D ≡ true
unfolding escaped
mark_escaped m = refl

-- a byte below 20, its bit 5 flipped
pub flip_low : (b : ℕ) → b < 0x20 → bit_xor b 0x20 ≡ b + 0x20
flip_low b h = xor_comm b 0x20 ∙ xor_shifted 1 5 b h ∙ omega arith

pub stuffed-append : (m : ℕ) (a b : List ℕ) → stuffed m (a ++ b) ≡ stuffed m a ++ stuffed m b
unfolding stuffed
stuffed-append m [] b = refl
stuffed-append m (x ∷ a) b = rw (stuffed-append m a b, append_assoc)

-- the first unit of what is left, in a loop over the bytes of s
pub stuffed-drop : (m : ℕ) (s : List ℕ) (i : ℕ) → i < length s → stuffed m (drop i s) ≡ unit m (get_or s i 0) ++ stuffed m (drop (i + 1) s)
unfolding stuffed
stuffed-drop m s i h = rw (add-one i, drop-cons s i 0 h)

-- a byte takes one or two
pub unit_narrow : (m b : ℕ) → length (unit m b) ≤ 2
unit_narrow m b = by_test (escaped m b) (λ e. rw (unit-escaped m b e) (omega arith)) (λ e. rw (unit_plain m b e) (omega arith))

pub stuffed_narrow : (m : ℕ) (bs : List ℕ) → length (stuffed m bs) ≤ 2 * length bs
unfolding stuffed
stuffed_narrow m [] = omega arith
stuffed_narrow m (b ∷ bs) = omega (arith, length-append (unit m b) (stuffed m bs), unit_narrow m b, stuffed_narrow m bs)

-- an escaped byte, flipped, is no flag and no escape
pub flipped_plain : (m b x : ℕ) → escaped m b ≡ true → 0x7D ≤ x → x ≤ 0x7E → bit_xor b 0x20 ≡ x → ⊥
flipped_plain m b x e lo hi q =
    escaped_cases m b e
    (λ l. omega (arith, flip_low b l))
    (λ l. let z : 0x5D ≡ x = rw l at q in omega arith)
    (λ l. let z : 0x5E ≡ x = rw l at q in omega arith)

unit_without : (m b : ℕ) → Without 0x7E (unit m b)
unit_without m b =
    by_test (escaped m b)
    (λ e. rw (unit-escaped m b e) ((λ q. omega arith), ((λ q. flipped_plain m b 0x7E e (omega arith) (omega arith) q), tt)))
    (λ e. rw (unit_plain m b e) ((λ q. let z : ◌≡◌ {A = ℕ} 0 1 = cc (rw q at e, flag_escaped m) in omega arith), tt))

-- no flag stands in stuffed bytes, whatever the map
pub stuffed_without : (m : ℕ) (bs : List ℕ) → Without 0x7E (stuffed m bs)
unfolding stuffed
stuffed_without m [] = tt
stuffed_without m (b ∷ bs) = each_append (λ x. x ≡ 0x7E → ⊥) (unit m b) (stuffed m bs) (unit_without m b) (stuffed_without m bs)

-- What is sent with a map has no byte that the map flags: RFC 1662's receiver with that map removes none and reads the packet.
-- Assumes nothing.
use mathlib.Core.Path.{◌≡◌, ap, sym, subst, ◌∙◌}
use mathlib.Core.Bool.{true, false, ◌||◌, or-false, true≢false}
use mathlib.Core.List.{List, [], ◌∷◌}
use Prim.Native.Nat.{ℕ, zero, suc, ◌/◌, ◌%◌, ◌^◌, ◌≤◌, ◌-◌}
use native.Mathlib.Nat.{div-one, div-div-eq-div-mul, pow-succ'}
use native.Mathlib.Omega.{arith}
use borrow.Author.Tests.{lt-ltb, le-ltb, ne_eqb}
use lib.Dec.{T, eqb, leb}
use lib.ListN.{length}
use lib.Bits.{bit_xor}
use Rattle.laws.specs.Each.{Each}
use Rattle.laws.proofs.Below.{below}
use Rattle.laws.proofs.Cases.{by_le, by_test, cond_all}
use Rattle.laws.proofs.Each.{each_append, each_left, each_right}
use Rattle.framing.specs.Rfc1662.{fields, escaped, unit, stuffed, frame, bit, flagged, Carries}
use Rattle.framing.specs.Writer.{frame_units, join, fit, holds, laid}
use Rattle.framing.specs.Paper.{Unflagged}
use Rattle.framing.proofs.Frame.{join-frame}
use Rattle.framing.proofs.Stuffing.{unit-escaped, unit_plain, escaped_cases, flip_low}
use Rattle.framing.proofs.Unstuffing.{removed_none, unescaped-stuffed, aborted-stuffed}

-- ---- one byte

bit_at : (b m : ℕ) → bit b m ≡ m / 2 ^ b % 2
unfolding bit
bit_at zero m = rw (div-one m)
bit_at (suc b) m = bit_at b (m / 2) ∙ ap (λ (x : ℕ). x % 2) (div-div-eq-div-mul m 2 (2 ^ b) ∙ ap (λ (x : ℕ). m / x) (sym (pow-succ' 2 b)))

high_unflagged : (m b : ℕ) → 0x20 ≤ b → flagged m b ≡ false
unfolding flagged
high_unflagged m b h = rw (le-ltb b 0x20 h)

-- the sender escapes 7D, 7E and what the map flags, and nothing else
pub escaped-flagged : (m b : ℕ) → escaped m b ≡ flagged m b || (eqb b 0x7D || eqb b 0x7E)
unfolding escaped flagged
escaped-flagged m b =
    by_le 0x20 b (λ h. rw (le-ltb b 0x20 h))
    (λ h. rw (lt-ltb b 0x20 h, bit_at b m, ne_eqb b 0x7D (λ q. omega arith), ne_eqb b 0x7E (λ q. omega arith)) (sym (or-false _)))

-- a byte that goes out as it is
plain_unflagged : (m b : ℕ) → escaped m b ≡ false → flagged m b ≡ false
plain_unflagged m b e = by_test (flagged m b) (λ f. absurd (true≢false (rw f at (sym (escaped-flagged m b) ∙ e)))) (λ f. f)

-- one that goes out behind an escape
flipped_high : (m b : ℕ) → escaped m b ≡ true → 0x20 ≤ bit_xor b 0x20
flipped_high m b e = escaped_cases m b e (λ l. omega (arith, flip_low b l)) (λ q. rw q (omega arith)) (λ q. rw q (omega arith))

-- ---- what is sent with the map m, to a receiver whose map n flags no byte but those that m flags

module _ (m n : ℕ) (within : (b : ℕ) → flagged m b ≡ false → flagged n b ≡ false) where
  unit-unflagged : (b : ℕ) → Unflagged n (unit m b)
  unit-unflagged b =
      by_test (escaped m b)
      (λ e. rw (unit-escaped m b e) (high_unflagged n 0x7D (omega arith), (high_unflagged n (bit_xor b 0x20) (flipped_high m b e), tt)))
      (λ e. rw (unit_plain m b e) (within b (plain_unflagged m b e), tt))

  stuffed-unflagged : (bs : List ℕ) → Unflagged n (stuffed m bs)
  unfolding stuffed
  stuffed-unflagged [] = tt
  stuffed-unflagged (b ∷ bs) = each_append (λ x. flagged n x ≡ false) (unit m b) (stuffed m bs) (unit-unflagged b) (stuffed-unflagged bs)

  frame-unflagged : (p : List ℕ) → Unflagged n (frame m p)
  unfolding frame
  frame-unflagged p =
      let flag = high_unflagged n 0x7E (omega arith) in
      (flag, each_append (λ x. flagged n x ≡ false) (stuffed m (fields p)) (0x7E ∷ []) (stuffed-unflagged (fields p)) (flag, tt))

  carried-within : (p : List ℕ) → Carries n (stuffed m (fields p)) p
  carried-within p =
      let same = removed_none n (stuffed m (fields p)) (stuffed-unflagged (fields p)) in
      record { whole = rw same (aborted-stuffed m (fields p)); read = rw same (unescaped-stuffed m (fields p)) }

-- RFC 1662's receiver with the sender's map reads the packet
pub carried : (m : ℕ) (p : List ℕ) → Carries m (stuffed m (fields p)) p
carried m = carried-within m m (λ b e. e)

full_within : (n b : ℕ) → flagged 0xFFFF_FFFF b ≡ false → flagged n b ≡ false
unfolding flagged bit
full_within n b e = by_le 0x20 b (high_unflagged n b) (λ h. absurd (subst T e (below (flagged 0xFFFF_FFFF) 0x20 tt b h)))

-- and so does one with any map, where the sender's is full
pub carried_full : (n : ℕ) (p : List ℕ) → Carries n (stuffed 0xFFFF_FFFF (fields p)) p
carried_full n = carried-within 0xFFFF_FFFF n (full_within n)

-- ---- what is written where the frame does not fit

fit_each : (P : ℕ → Type 0) (us : List (List ℕ)) (room : ℕ) → Each P (join us) → Each P (fit room us)
unfolding fit join
fit_each P [] room h = tt
fit_each P (u ∷ us) room h =
    cond_all (Each P) (leb (length u) room)
    (each_append P u (fit (room - length u) us) (each_left P u (join us) h) (fit_each P us (room - length u) (each_right P u (join us) h)))
    tt

-- no byte that the sender's map flags, whatever the room
pub laid_unflagged : (m : ℕ) (p : List ℕ) (room : ℕ) → Unflagged m (laid m p room)
laid_unflagged m p room =
    let whole = frame-unflagged m m (λ b e. e) p in
    cond_all (Unflagged m) (holds m p room) whole (fit_each (λ x. flagged m x ≡ false) (frame_units m p) room (rw (join-frame m p) whole))

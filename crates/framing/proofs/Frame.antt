-- The writer's units are RFC 1662's frame; its length by parts; what encoding one packet promises.
-- Assumes nothing.
use mathlib.Core.Path.{◌≡◌, refl, ap, sym, ◌∙◌}
use mathlib.Core.Bool.{Bool, true, false, cond}
use mathlib.Core.List.{List, ◌∷◌, ◌++◌, append_assoc}
use Prim.Native.Nat.{ℕ, ◌+◌}
use native.Mathlib.Nat.{zero-add, sub-zero}
use native.Mathlib.Omega.{arith}
use borrow.Author.Tests.{le-leb, lt-leb}
use lib.ListN.{length, length-append}
use lib.Seq.{sets}
use Rattle.laws.proofs.Cases.{by_le}
use Rattle.laws.proofs.Stores.{sets_front}
use Rattle.std.specs.Prelude.{Result}
use Rattle.framing.specs.Rfc1662.{fcs, fcs_bits, check_bytes, unit, stuffed, frame}
use Rattle.framing.specs.Refusal.{outcome_number, count_of}
use Rattle.framing.specs.Writer.{Ran, frame_units, join, fit, holds, laid, over, Encodes}
use Rattle.framing.specs.declared.refusal.Refusal.{Refusal}
use Rattle.framing.proofs.Run.{write_closed, fit_le, fit_all, join_nil, join_cons, join-append, join-units}
use Rattle.framing.proofs.Stuffing.{stuffed-append}
use Rattle.framing.proofs.Unstuffing.{control_on, stuffed-fields, frame-length}

-- the register behind FF 03 is the one behind 03, from 00FF
pub started : (p : List ℕ) → fcs 0x00FF (0x03 ∷ p) ≡ fcs 0x3DE3 p
unfolding fcs fcs_bits
started p = refl

-- what stands behind the address, by the parts that the writer writes
control_parts : (m : ℕ) (p : List ℕ) → stuffed m (control_on p) ≡ unit m 0x03 ++ (stuffed m p ++ stuffed m (check_bytes (fcs 0x3DE3 p)))
unfolding stuffed
control_parts m p = rw (started p) (ap (λ (l : List ℕ). unit m 0x03 ++ l) (stuffed-append m p (check_bytes (fcs 0x3DE3 p))))

pub join-frame : (m : ℕ) (p : List ℕ) → join (frame_units m p) ≡ frame m p
unfolding frame
join-frame m p =
    rw (stuffed-fields m p, control_parts m p)
    (simp (join-append, join_cons, join_nil, join-units, append_assoc))

pub frame_parts : (m : ℕ) (p : List ℕ) → length (frame m p) ≡ length (stuffed m p) + (3 + length (unit m 0x03) + length (stuffed m (check_bytes (fcs 0x3DE3 p))))
frame_parts m p =
    let a = unit m 0x03 in
    let b = stuffed m p in
    let c = stuffed m (check_bytes (fcs 0x3DE3 p)) in
    omega (arith, frame-length m p, ap length (control_parts m p), length-append a (b ++ c), length-append b c)

-- a run of a frame's units from the front of a buffer: it is done exactly where the frame fits
module _ (m : ℕ) (p : List ℕ) {buf buf' : List ℕ} {n : ℕ} {t : Bool} (ran : Ran (frame_units m p) buf 0 buf' n t) where
  closed : Ran (frame_units m p) buf 0 (sets buf 0 (fit (length buf) (frame_units m p))) (length (fit (length buf) (frame_units m p))) (holds m p (length buf))
  closed = simp (zero-add, sub-zero, join-frame) at (write_closed (frame_units m p) buf 0 (omega arith))

  pub frame-done : t ≡ holds m p (length buf)
  frame-done = ran.same_done ∙ sym closed.same_done

  fitted : fit (length buf) (frame_units m p) ≡ laid m p (length buf)
  fitted =
      by_le (length (frame m p)) (length buf)
      (λ h. rw (le-leb _ _ h) (fit_all (frame_units m p) (length buf) (rw join-frame h) ∙ join-frame m p))
      (λ h. rw (lt-leb _ _ h))

  frame_bytes : buf' ≡ over (laid m p (length buf)) buf
  frame_bytes =
      ran.same_bytes ∙ sym closed.same_bytes ∙ sets_front (fit (length buf) (frame_units m p)) buf (fit_le (frame_units m p) (length buf))
      ∙ ap (λ (l : List ℕ). over l buf) fitted

  frame_count : holds m p (length buf) ≡ true → n ≡ length (frame m p)
  frame_count e = ran.same_at ∙ sym closed.same_at ∙ ap length fitted ∙ rw e

  pub encodes : {r : Result ℕ Refusal} → outcome_number r ≡ cond t 0 1 → count_of r ≡ cond t n 0 → Encodes m p buf r buf'
  encodes {r} a b =
      record {
        number = rw frame-done at a;
        lays = record { count = go (holds m p (length buf)) refl (rw frame-done at b); bytes = frame_bytes };
      }
    where
      k : ℕ
      k = count_of r

      go : (h : Bool) → holds m p (length buf) ≡ h → k ≡ cond h n 0 → k ≡ cond h (length (frame m p)) 0
      go true e f = f ∙ frame_count e
      go false e f = f

-- A good frame is the control byte, a packet and its check bytes, and nothing else is.
-- Assumes nothing.
use mathlib.Core.Path.{◌≡◌, refl, ap, ap₂, sym, ◌∙◌, subst}
use mathlib.Core.Bool.{Bool, true, false, cond, not, false≢true}
use mathlib.Core.List.{List, [], ◌∷◌, ◌++◌, append_assoc}
use Prim.Native.Nat.{ℕ, suc, ◌+◌, ◌-◌, ◌≤◌, ◌<◌, ◌^◌}
use native.Mathlib.Omega.{arith}
use borrow.Author.Tests.{le-ltb, ltb-false, eqb-true}
use lib.Dec.{ltb, eqb}
use lib.ListN.{length, take, drop}
use lib.Seq.{sets, take-append_seam}
use Rattle.laws.specs.Each.{Bytes}
use Rattle.laws.proofs.Each.{each_right}
use Rattle.laws.proofs.Ends.{last_two}
use Rattle.laws.proofs.Stores.{sets_front}
use Rattle.std.specs.Prelude.{None, Some}
use Rattle.framing.specs.Rfc1662.{fcs}
use Rattle.framing.specs.Reader.{fault_in, is_good, packet_of}
use Rattle.framing.specs.declared.drops.Fault.TheVariants.{Short, Control, Check}
use Rattle.framing.specs.declared.frame_reader.Reading.{Reading}
use Rattle.framing.proofs.Fcs.{fcs-append, fcs_lt, fcs_good}
use Rattle.framing.proofs.Only.{fcs_only}
use Rattle.framing.proofs.Unstuffing.{control_on, control_length}
use Rattle.framing.proofs.Inside.{whole}

pub control_good : (p : List ℕ) → is_good (fault_in (control_on p)) ≡ true
unfolding fault_in
control_good p = rw (le-ltb (length (control_on p)) 3 (omega (arith, control_length p)), fcs_good 0x00FF (0x03 ∷ p) (omega arith))

-- the packet of a good frame
pub record Holds (l : List ℕ) : Type 0 where
  pub packet : List ℕ
  pub is : l ≡ control_on packet

holds_by : (m : List ℕ) (a b : ℕ) → a < 2 ^ 8 → b < 2 ^ 8 → fcs 0x00FF (0x03 ∷ (m ++ (a ∷ b ∷ []))) ≡ 0xF0B8 → 0x03 ∷ (m ++ (a ∷ b ∷ [])) ≡ control_on m
holds_by m a b ha hb e =
    ap (λ (l : List ℕ). 0x03 ∷ (m ++ l))
    (fcs_only (fcs 0x00FF (0x03 ∷ m)) a b (fcs_lt 0x00FF (0x03 ∷ m) (omega arith)) ha hb (sym (fcs-append 0x00FF (0x03 ∷ m) (a ∷ b ∷ [])) ∙ e))

-- what the three tests say where there is no fault
tests : (a b c : Bool) → is_good (cond a (Some Short) (cond (not b) (Some Control) (cond (not c) (Some Check) None))) ≡ true → (a ≡ false) × (b ≡ true) × (c ≡ true)
tests true b c e = absurd (false≢true e)
tests false false c e = absurd (false≢true e)
tests false true false e = absurd (false≢true e)
tests false true true e = (refl, refl, refl)

pub good_holds : (l : List ℕ) → Bytes l → is_good (fault_in l) ≡ true → Holds l
unfolding fault_in
good_holds [] ok e = absurd (false≢true e)
good_holds (x ∷ l) ok e =
    let g = tests (ltb (suc (length l)) 3) (eqb x 0x03) (eqb (fcs 0x00FF (x ∷ l)) 0xF0B8) e in
    let t = last_two l (omega (arith, ltb-false (suc (length l)) 3 g.0)) in
    let q : x ∷ l ≡ 0x03 ∷ (t.front ++ (t.a ∷ t.b ∷ [])) = ap₂ ◌∷◌ (eqb-true x 0x03 g.1) t.is in
    let small = each_right (λ b. b < 256) t.front (t.a ∷ t.b ∷ []) (subst Bytes t.is ok.1) in
    record {
      packet = t.front;
      is = q ∙ holds_by t.front t.a t.b small.0 small.1.0 (sym (ap (fcs 0x00FF) q) ∙ eqb-true (fcs 0x00FF (x ∷ l)) 0xF0B8 g.2);
    }

-- the packet that is read off the buffer
pub control_packet : (k : Reading) (p buf : List ℕ) → length p + 3 ≤ length buf → packet_of (whole k (control_on p) buf) ≡ p
control_packet k p buf h =
    let n : length (control_on p) - 2 - 1 ≡ length p = omega (arith, control_length p) in
    let fits : length (control_on p) ≤ length buf = omega (arith, control_length p) in
    let read : take (length (control_on p) - 2 - 1) (drop 1 (sets buf 0 (control_on p))) ≡ p = rw (n, sets_front (control_on p) buf fits, append_assoc) (take-append_seam p _) in
    read

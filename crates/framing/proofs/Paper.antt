-- The reader hands out a packet exactly where RFC 1662 reads one between two flags, in either reading.
-- Assumes nothing.
use mathlib.Core.Path.{◌≡◌, refl, ap, sym, ◌∙◌, subst, subst⁻¹}
use mathlib.Core.Bool.{true, false, ◌&&◌, true≢false}
use mathlib.Core.List.{List, [], ◌∷◌, ◌++◌}
use Prim.Native.Nat.{ℕ, ◌≤◌}
use native.Mathlib.Omega.{arith}
use native.Mathlib.Nat.{zero-add}
use borrow.Author.Tests.{ne_eqb, eqb-true}
use lib.Dec.{eqb}
use lib.ListN.{length, drop}
use lib.Seq.{sets}
use Rattle.laws.specs.Each.{Bytes, Without}
use Rattle.laws.specs.Quiet.{Quiet, none}
use Rattle.laws.proofs.Cases.{by_test, by_le, neither}
use Rattle.laws.proofs.Quiet.{quiet_step}
use Rattle.framing.specs.Rfc1662.{removed, unescaped, aborted, Carries}
use Rattle.framing.specs.Reader.{is_crate, fresh_reader, fault_in, is_good, Held, held, step, full}
use Rattle.framing.specs.Heard.{Heard, heard}
use Rattle.framing.specs.Arrives.{Idle, Arrives}
use Rattle.framing.specs.Paper.{doubled, Unflagged, Between, Readable}
use Rattle.framing.specs.declared.frame_reader.State.TheVariants.{Address}
use Rattle.framing.specs.declared.frame_reader.Reading.{Reading}
use Rattle.framing.specs.declared.frame_reader.Reading.TheVariants.{Standard}
use Rattle.framing.proofs.Unstuffing.{removed_none, unescaped_bytes, control_length, fields_control}
use Rattle.framing.proofs.Inside.{inside, start_quiet, loses, closes_open, closes_bad}
use Rattle.framing.proofs.Good.{Holds, good_holds}
use Rattle.framing.proofs.Arrives.{idle-fresh, idle_waiting, waiting, waits, flag_read, address, enters, lands, arrives_heard}
use Rattle.framing.proofs.Heard.{heard_quiet}

-- a packet is handed out only where the paper reads it, and it is the only one
abbrev AsRead : ℕ → ℕ → List ℕ → List ℕ → List (List ℕ) → Type 0
AsRead m room w p ps = Readable m room w p × (ps ≡ [])

-- ---- no packet

heard_none : {s t : Held} {w : List ℕ} (b : ℕ) → Quiet step full s w t → full (step t b) ≡ false → (heard s (w ++ (b ∷ []))).packets ≡ []
unfolding heard
heard_none b q e = ap (λ (h : Heard). h.packets) (heard_quiet q (b ∷ [])) ∙ rw e

none_at : {A : Type 0} {x : List (List ℕ)} (p : List ℕ) (ps : List (List ℕ)) → x ≡ [] → x ≡ p ∷ ps → A
none_at p ps e f = let z : ◌≡◌ {A = ℕ} 0 1 = cc in absurd (omega arith)

no_frame : {s : Held} → Idle s → full (step s 0x7E) ≡ false
no_frame i = ap full (flag_read i)

-- ---- behind the address

module _ (k : Reading) (m : ℕ) (buf w : List ℕ) (ok : Between k m (0xFF ∷ w)) where
  unremoved : removed m (0xFF ∷ w) ≡ 0xFF ∷ w
  unremoved = removed_none m (0xFF ∷ w) ok.no_removal

  -- in crate reading no abort and no 7D behind 7D, each by itself
  habits : (aborted false w && is_crate k ≡ false) × (is_crate k && doubled false w ≡ false)
  unfolding aborted doubled
  habits = neither (is_crate k) (aborted false w) (doubled false w) ok.no_habit

  -- an address and a packet's fields
  reads_on : (p : List ℕ) → Readable m (length buf) (0xFF ∷ w) p → Arrives (waiting k buf) ((0xFF ∷ w) ++ (0x7E ∷ [])) p
  unfolding unescaped aborted
  reads_on p r =
      lands k buf w ok.no_flag.1 habits.1 p (rw unremoved at r.carries.whole)
      (ap (drop 1) (rw unremoved at r.carries.read ∙ fields_control p)) r.fits

  readable : aborted false w ≡ false → (h : Holds (unescaped false w)) → length (unescaped false w) ≤ length buf → Readable m (length buf) (0xFF ∷ w) h.packet
  unfolding unescaped aborted
  readable whole h fits =
      record {
        raw = refl;
        carries = record { whole = rw unremoved whole; read = rw unremoved (ap (λ l. 0xFF ∷ l) h.is ∙ sym (fields_control h.packet)) };
        fits = omega (arith, control_length h.packet, ap length h.is);
      }

  heard-holds : (p : List ℕ) (ps : List (List ℕ)) → aborted false w ≡ false → Holds (unescaped false w) → length (unescaped false w) ≤ length buf
      → (heard (waiting k buf) ((0xFF ∷ w) ++ (0x7E ∷ []))).packets ≡ p ∷ ps → AsRead m (length buf) (0xFF ∷ w) p ps
  heard-holds p ps whole h fits e =
      let r = readable whole h fits in
      let q : h.packet ∷ [] ≡ p ∷ ps = sym (ap (λ (x : Heard). x.packets) (arrives_heard (reads_on h.packet r))) ∙ e in
      let same : h.packet ≡ p = cc in
      let last : ps ≡ [] = cc in
      (subst (Readable m (length buf) (0xFF ∷ w)) same r, last)

  only_on : (p : List ℕ) (ps : List (List ℕ)) → (heard (waiting k buf) ((0xFF ∷ w) ++ (0x7E ∷ []))).packets ≡ p ∷ ps → AsRead m (length buf) (0xFF ∷ w) p ps
  only_on p ps e =
      let l = unescaped false w in
      by_le (length l) (length buf)
      (λ fits.
      let inside-to = enters k buf w ok.no_flag.1 habits.1 fits in
      by_test (aborted false w)
      (λ a. none_at p ps (heard_none 0x7E (rw a at inside-to) (ap full (closes_open k (length l) (sets buf 0 l) (rw a at habits.0)))) e)
      (λ a.
      by_test (is_good (fault_in l))
      (λ g. heard-holds p ps a (good_holds l (unescaped_bytes false w ok.bytes.1) g) fits e)
      (λ g. none_at p ps (heard_none 0x7E (rw a at inside-to) (ap full (closes_bad k l buf fits g))) e)))
      (λ short.
      let t = loses k false w 0 buf ok.no_flag.1 habits.1 (omega arith) (simp zero-add short) in
      none_at p ps (heard_none 0x7E (quiet_step step full (inside k false 0 buf) refl (address k buf) t.quiet) (no_frame (idle-fresh k t.now))) e)

-- ---- any bytes behind a flag

module _ (k : Reading) (m : ℕ) (buf : List ℕ) where
  reads_at : (w p : List ℕ) → Between k m w → Readable m (length buf) w p → Arrives (waiting k buf) (w ++ (0x7E ∷ [])) p
  reads_at [] p ok r = absurd (omega (arith, r.raw))
  reads_at (b ∷ w) p ok r =
      subst⁻¹ (λ x. Between k m (x ∷ w) → Readable m (length buf) (x ∷ w) p → Arrives (waiting k buf) ((x ∷ w) ++ (0x7E ∷ [])) p) r.raw
      (λ o. reads_on k m buf w o p) ok r

  other : (b : ℕ) → (b ≡ 0x7E → ⊥) → eqb b 0xFF ≡ false → step (waiting k buf) b ≡ held (fresh_reader k) buf
  unfolding step
  other b n e = rw (e, ne_eqb b 0x7E n)

  only_at : (w p : List ℕ) (ps : List (List ℕ)) → Between k m w → (heard (waiting k buf) (w ++ (0x7E ∷ []))).packets ≡ p ∷ ps → AsRead m (length buf) w p ps
  only_at [] p ps ok e = none_at p ps (heard_none 0x7E (none refl) (no_frame (idle_waiting k buf))) e
  only_at (b ∷ w) p ps ok e =
      by_test (eqb b 0xFF)
      (λ q.
      subst⁻¹ (λ x. Between k m (x ∷ w) → (heard (waiting k buf) ((x ∷ w) ++ (0x7E ∷ []))).packets ≡ p ∷ ps → AsRead m (length buf) (x ∷ w) p ps) (eqb-true b 0xFF q)
      (λ o. only_on k m buf w o p ps) ok e)
      (λ q.
      none_at p ps
      (heard_none 0x7E (quiet_step step full (held (fresh_reader k) buf) refl (other b ok.no_flag.0 q) (start_quiet k buf w ok.no_flag.1)) (no_frame (idle-fresh k buf))) e)

-- In standard reading nothing is asked of the bytes between two flags but that no flag is among them, and none that the map flags.
pub standard_between : {m : ℕ} {w : List ℕ} → Bytes w → Without 0x7E w → Unflagged m w → Between Standard m w
standard_between b f r = record { bytes = b; no_flag = f; no_removal = r; no_habit = refl }

-- A reader stands behind a flag with nothing kept, and w and a closing flag follow. (w has no flag in it and no byte that the map m
-- flags; in crate reading it also has no escape right before the closing flag and no 7D right behind 7D.)
module _ (s : Held) (m : ℕ) (w : List ℕ) (idle : Idle s) (behind_flag : s.reader.state ≡ Address) (ok : Between s.reader.reading m w) where
  -- Where RFC 1662's receiver with the map m reads a valid frame with the information p off w, address unescaped, and the buffer
  -- has room for it, p is handed out.
  pub reads : (p : List ℕ) → Readable m (length s.buf) w p → Arrives s (w ++ (0x7E ∷ [])) p
  reads p r = subst⁻¹ (λ t. Arrives t (w ++ (0x7E ∷ [])) p) (waits idle behind_flag) (reads_at s.reader.reading m s.buf w p ok r)

  -- And a packet is handed out nowhere else, and never two.
  pub read_only : (p : List ℕ) (ps : List (List ℕ)) → (heard s (w ++ (0x7E ∷ []))).packets ≡ p ∷ ps → Readable m (length s.buf) w p × (ps ≡ [])
  read_only p ps e =
      only_at s.reader.reading m s.buf w p ps ok (subst (λ t. (heard t (w ++ (0x7E ∷ []))).packets ≡ p ∷ ps) (waits idle behind_flag) e)

  -- Where an escape stands right before the closing flag, the paper reads no packet, and neither does the reader.
  pub unread : aborted false (removed m w) ≡ true → ((p : List ℕ) → Carries m w p → ⊥) × ((heard s (w ++ (0x7E ∷ []))).packets ≡ [])
  unread a = (invalid, go _ refl)
    where
      invalid : (p : List ℕ) → Carries m w p → ⊥
      invalid p c = true≢false (sym a ∙ c.whole)

      go : (ps : List (List ℕ)) → (heard s (w ++ (0x7E ∷ []))).packets ≡ ps → ps ≡ []
      go [] e = refl
      go (p ∷ ps) e = absurd (invalid p (read_only p ps e).0.carries)

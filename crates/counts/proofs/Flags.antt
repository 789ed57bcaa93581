-- What stands between two flags is counted as RFC 1662 judges it; so frames that are encoded count nothing.
-- Assumes nothing.
use mathlib.Core.Path.{◌≡◌, refl, sym, ap, ap₂, ◌∙◌}
use mathlib.Core.Bool.{Bool, true, false, cond, not, ◌&&◌, ◌||◌, and-false, false≢true}
use mathlib.Core.List.{List, [], ◌∷◌, ◌++◌, append-nil, flatten}
use mathlib.Core.Logic.{◌⊎◌, inl, inr, ⊎_elim}
use Prim.Native.Nat.{ℕ, suc, ◌+◌, ◌≤◌, ◌<◌}
use native.Mathlib.Omega.{arith}
use native.Mathlib.Nat.{zero-add}
use borrow.Author.Tests.{ne_eqb, lt-ltb, le-ltb}
use lib.Dec.{ltb, eqb}
use lib.ListN.{length, get_or}
use lib.Seq.{sets}
use Rattle.laws.specs.Each.{Without}
use Rattle.laws.specs.Quiet.{Quiet}
use Rattle.laws.proofs.Cases.{apart, by_test, by_le, cond_all, neither}
use Rattle.laws.proofs.Stores.{take_sets}
use Rattle.framing.specs.Rfc1662.{fcs_bits, fcs, unescaped, aborted, stuffed, frame}
use Rattle.std.specs.Prelude.{Option, None, Some}
use Rattle.framing.specs.Reader.{is_crate, is_complete, marks, fault_in, is_good, Held, step, full}
use Rattle.framing.specs.Heard.{fetched_in, Heard, heard}
use Rattle.framing.specs.Drops.{no_drops, one_drop, fault_at, together, missed}
use Rattle.framing.specs.Arrives.{Idle}
use Rattle.framing.specs.Paper.{doubled}
use Rattle.framing.specs.declared.drops.Drops.{Drops}
use Rattle.framing.specs.declared.drops.Fault.{Fault}
use Rattle.framing.specs.declared.drops.Fault.TheVariants.{Aborted, Short, Control, Check, Overrun}
use Rattle.framing.specs.declared.frame_reader.State.TheVariants.{Start, Data}
use Rattle.framing.specs.declared.frame_reader.Reading.{Reading}
use Rattle.framing.proofs.Heard.{fetched_none, heard_quiet}
use Rattle.framing.proofs.Stuffing.{stuffed_without}
use Rattle.framing.proofs.Unstuffing.{control_on, control_length, stuffed-fields, unescaped-stuffed, aborted-stuffed, doubled-stuffed}
use Rattle.framing.proofs.Inside.{inside, keeps, loses}
use Rattle.framing.proofs.Good.{control_good}
use Rattle.framing.proofs.Arrives.{idle-fresh, flag_read, arrives, arrives_heard}
use Rattle.framing.proofs.Dropping.{together_none, none_together, missed-append}
use Rattle.counts.specs.Counts.{judged, between, Usual, flag_met, fresh, frames_of, AllFit}

-- ---- bytes that are no flags

module _ (s : Held) (b : ℕ) (w : List ℕ) (e : full (step s b) ≡ false) where
  missed_on : missed s (b ∷ w) ≡ together (one_drop (fault_at s b)) (missed (step s b) w)
  unfolding missed
  missed_on = rw (fetched_none (step s b) e)

  heard_on : (heard s (b ∷ w)).now ≡ (heard (step s b) w).now
  unfolding heard
  heard_on = rw (fetched_none (step s b) e)

module _ (s : Held) (b : ℕ) (e : s.reader.state ≡ Start) where
  start_counts : fault_at s b ≡ None
  unfolding fault_at
  start_counts = rw e

  start_stays : (b ≡ 0x7E → ⊥) → (step s b).reader.state ≡ Start
  unfolding step
  start_stays n = rw (e, ne_eqb b 0x7E n)

-- from Start the reader stays there
waits : (s : Held) (w : List ℕ) → s.reader.state ≡ Start → Without 0x7E w → (missed s w ≡ no_drops) × ((heard s w).now.reader.state ≡ Start)
unfolding missed heard
waits s [] e f = (refl, e)
waits s (b ∷ w) e f =
    let there = start_stays s b e f.0 in
    let g = waits (step s b) w there f.1 in (
      missed_on s b w (ap is_complete there) ∙ ap₂ (λ (x : Option Fault) (d : Drops). together (one_drop x) d) (start_counts s b e) g.0,
      ap (λ (t : Held). t.reader.state) (heard_on s b w (ap is_complete there)) ∙ g.1,
    )

-- a byte inside a frame is taken in silence, or it finds no room and the reader waits for a flag
abbrev Taken : Held → ℕ → Type 0
Taken s b = (fault_at s b ≡ None) × ((step s b).reader.state ≡ Data)

abbrev Lost : Held → ℕ → Type 0
Lost s b = (fault_at s b ≡ Some Overrun) × ((step s b).reader.state ≡ Start)

in_byte : (s : Held) (b : ℕ) → s.reader.state ≡ Data → (b ≡ 0x7E → ⊥) → Taken s b ⊎ Lost s b
unfolding step fault_at
in_byte s b e n =
    let m = ne_eqb b 0x7E n in
    by_test (marks s.reader b)
    (λ t. inl (rw (e, m, t), rw (e, m, t)))
    (λ t. by_test (ltb s.reader.len (length s.buf)) (λ u. inl (rw (e, m, t, u), rw (e, m, t, u))) (λ u. inr (rw (e, m, t, u), rw (e, m, t, u))))

-- and so of all of them: the reader is inside the frame still, or room ran out once
abbrev AllTaken : Held → List ℕ → Type 0
AllTaken s w = (missed s w ≡ no_drops) × ((heard s w).now.reader.state ≡ Data)

abbrev AllLost : Held → List ℕ → Type 0
AllLost s w = (missed s w ≡ one_drop (Some Overrun)) × ((heard s w).now.reader.state ≡ Start)

in_bytes : (s : Held) (w : List ℕ) → s.reader.state ≡ Data → Without 0x7E w → AllTaken s w ⊎ AllLost s w
unfolding missed heard
in_bytes s [] e f = inl (refl, e)
in_bytes s (b ∷ w) e f =
    ⊎_elim
    (λ (t : Taken s b).
    let quiet = ap is_complete t.1 in
    let first = missed_on s b w quiet ∙ ap (λ (x : Option Fault). together (one_drop x) (missed (step s b) w)) t.0 ∙ none_together (missed (step s b) w) in
    let last = ap (λ (t : Held). t.reader.state) (heard_on s b w quiet) in
    ⊎_elim
    (λ (g : AllTaken (step s b) w). inl (first ∙ g.0, last ∙ g.1))
    (λ (g : AllLost (step s b) w). inr (first ∙ g.0, last ∙ g.1))
    (in_bytes (step s b) w t.1 f.1))
    (λ (t : Lost s b).
    let quiet = ap is_complete t.1 in
    let g = waits (step s b) w t.1 f.1 in
    inr (missed_on s b w quiet ∙ ap₂ (λ (x : Option Fault) (d : Drops). together (one_drop x) d) t.0 g.0, ap (λ (t : Held). t.reader.state) (heard_on s b w quiet) ∙ g.1))
    (in_byte s b e f.0)

-- ---- an address, bytes that are no flags, and the closing flag

-- the address counts as an octet
four_octets : (n : ℕ) → ltb n 3 ≡ ltb (suc n) 4
four_octets n = by_le 3 n (λ h. le-ltb n 3 h ∙ sym (le-ltb (suc n) 4 (omega arith))) (λ h. lt-ltb n 3 h ∙ sym (lt-ltb (suc n) 4 (omega arith)))

fault_judged : (l : List ℕ) → fault_in l ≡ judged l
unfolding fault_in fcs fcs_bits
fault_judged l =
    ap
    (λ (t : Bool). cond t (Some Short) (cond (not (eqb (get_or l 0 0) 0x03)) (Some Control) (cond (not (eqb (fcs 0x00FF l) 0xF0B8)) (Some Check) None)))
    (four_octets (length l))

aborts_usual : (k : Reading) (a d : Bool) → is_crate k && (a || d) ≡ false → a && not (is_crate k) ≡ a
aborts_usual k true d e = rw (neither (is_crate k) true d e).0
aborts_usual k false d e = refl

closing : (k : Reading) (a : Bool) (l buf : List ℕ) → a && not (is_crate k) ≡ a → length l ≤ length buf
    → missed (inside k a (length l) (sets buf 0 l)) (0x7E ∷ []) ≡ one_drop (cond a (Some Aborted) (judged l))
unfolding missed fault_at
closing k a l buf e h =
    together_none (one_drop (fault_at (inside k a (length l) (sets buf 0 l)) 0x7E))
    ∙ rw (e, rw zero-add at (take_sets l buf 0 (simp zero-add h)), fault_judged l)

module _ (k : Reading) (buf w : List ℕ) (no_flag : Without 0x7E w) (usual : Usual k w) where
  abbrev l : List ℕ
  l = unescaped false w

  abbrev s : Held
  s = inside k false 0 buf

  no_double : is_crate k && doubled false w ≡ false
  no_double = (neither (is_crate k) (aborted false w) (doubled false w) usual).1

  -- behind the address
  entered : missed (flag_met k buf) ((0xFF ∷ w) ++ (0x7E ∷ [])) ≡ together (missed s w) (missed (heard s w).now (0x7E ∷ []))
  unfolding missed step fault_at heard
  entered = none_together (missed s (w ++ (0x7E ∷ []))) ∙ missed-append s w (0x7E ∷ [])

  heard_at : {t : Held} → Quiet step full s w t → (heard s w).now ≡ t
  unfolding heard
  heard_at {t} q = ap (λ (r : Heard). r.now) (ap (heard s) (sym (append-nil w)) ∙ heard_quiet q [])

  fits : length l ≤ length buf → missed (flag_met k buf) ((0xFF ∷ w) ++ (0x7E ∷ [])) ≡ one_drop (cond (aborted false w) (Some Aborted) (judged l))
  fits h =
      let at = heard_at (simp zero-add at (keeps k false w 0 buf no_flag no_double (simp zero-add h))) in
      ⊎_elim
      (λ (g : AllTaken s w).
      entered ∙ ap₂ (λ (d : Drops) (t : Held). together d (missed t (0x7E ∷ []))) g.0 at
      ∙ none_together (missed (inside k (aborted false w) (length l) (sets buf 0 l)) (0x7E ∷ []))
      ∙ closing k (aborted false w) l buf (aborts_usual k (aborted false w) (doubled false w) usual) h)
      (λ (g : AllLost s w). let e : Data ≡ Start = sym (ap (λ (t : Held). t.reader.state) at) ∙ g.1 in apart cc)
      (in_bytes s w refl no_flag)

  runs_out : length buf < length l → missed (flag_met k buf) ((0xFF ∷ w) ++ (0x7E ∷ [])) ≡ one_drop (Some Overrun)
  unfolding missed
  runs_out h =
      let r = loses k false w 0 buf no_flag no_double (omega arith) (simp zero-add h) in
      let at = ap (λ (t : Held). t.reader.state) (heard_at r.quiet) in
      ⊎_elim
      (λ (g : AllTaken s w). let e : Start ≡ Data = sym at ∙ g.1 in apart cc)
      (λ (g : AllLost s w).
      entered ∙ ap₂ (λ (d : Drops) (x : Option Fault). together d (together (one_drop x) no_drops)) g.0 (start_counts (heard s w).now 0x7E g.1))
      (in_bytes s w refl no_flag)

  pub flags : missed (flag_met k buf) ((0xFF ∷ w) ++ (0x7E ∷ [])) ≡ one_drop (between (length buf) w)
  flags =
      by_le (length l) (length buf)
      (λ h. rw (le-ltb (length buf) (length l) h) (fits h))
      (λ h. rw (lt-ltb (length buf) (length l) h) (runs_out h))

-- ---- encoded frames

good_none : (f : Option Fault) → is_good f ≡ true → f ≡ None
good_none None e = refl
good_none (Some f) e = absurd (false≢true e)

-- between frames a flag counts nothing
flag_counts : (s : Held) (i : Idle s) → fault_at s 0x7E ≡ None
unfolding fault_at
flag_counts s i = ⊎_elim (λ e. rw e) (λ e. rw e) i.between

frame_silent : (s : Held) (m : ℕ) (p : List ℕ) → Idle s → length p + 3 ≤ length s.buf → missed s (frame m p) ≡ no_drops
unfolding frame missed
frame_silent s m p i h =
    let w = stuffed m (control_on p) in
    let k = s.reader.reading in
    let clean : Usual k w = rw (aborted-stuffed m (control_on p), doubled-stuffed m (control_on p)) (and-false (is_crate k)) in
    let none : between (length s.buf) w ≡ None =
    rw (unescaped-stuffed m (control_on p), aborted-stuffed m (control_on p), le-ltb (length s.buf) (length (control_on p)) (omega (arith, control_length p)))
    (sym (fault_judged (control_on p)) ∙ good_none (fault_in (control_on p)) (control_good p)) in
    rw (flag_read i, flag_counts s i, stuffed-fields m p)
    (none_together (missed (flag_met k s.buf) ((0xFF ∷ w) ++ (0x7E ∷ []))) ∙ flags k s.buf w (stuffed_without m (control_on p)) clean ∙ ap one_drop none)

fetched_room : (s : Held) → length (fetched_in s).buf ≡ length s.buf
fetched_room s = cond_all (λ (t : Held). length t.buf ≡ length s.buf) (full s) refl refl

idle_silent : (s : Held) (ps : List (ℕ × List ℕ)) → Idle s → AllFit (length s.buf) ps → missed s (frames_of ps) ≡ no_drops
unfolding flatten missed
idle_silent s [] i h = refl
idle_silent s (p ∷ ps) i h =
    let a = arrives s p.0 p.1 i h.0 in
    let t = step a.before a.last in
    let next = ap (λ (r : Heard). r.now) (arrives_heard a) in
    let rest = idle_silent (fetched_in t) ps a.idle (rw (fetched_room t, a.same_room) h.1) in
    missed-append s (frame p.0 p.1) (frames_of ps)
    ∙ ap₂ together (frame_silent s p.0 p.1 i h.0) (ap (λ (t : Held). missed t (frames_of ps)) next ∙ rest)

pub silent : (k : Reading) (buf : List ℕ) (ps : List (ℕ × List ℕ)) → AllFit (length buf) ps → missed (fresh k buf) (frames_of ps) ≡ no_drops
silent k buf ps h = idle_silent (fresh k buf) ps (idle-fresh k buf) h

-- In standard reading a frame's end clears the escape and keeps nothing of a frame that is not good, an aborted one among them; so
-- outside a frame there is never an escape, whatever the calls.
-- Assumes nothing.
use mathlib.Core.Path.{◌≡◌, refl, sym, ap, ◌∙◌, subst⁻¹}
use mathlib.Core.Bool.{true, false, not, ◌&&◌, and-true, and-false, false≢true}
use mathlib.Core.List.{List, [], ◌∷◌}
use Prim.Native.Nat.{ℕ}
use lib.Dec.{ltb, eqb}
use lib.ListN.{length}
use Rattle.laws.proofs.Cases.{by_test, cond_by, cond_all}
use Rattle.std.specs.Prelude.{Result}
use Rattle.framing.specs.Reader.{is_crate, is_complete, fresh_reader, moved, marks, escape_after, aborts, fault_of, is_good, ended, Held, held, step_by, step, full, Fed, fed, is_short, consumed, Consumes, Got, Receives}
use Rattle.framing.specs.Clean.{ends_good, EndsClean, CleanIn, Clean}
use Rattle.framing.specs.declared.refusal.Refusal.{Refusal}
use Rattle.framing.specs.declared.frame_reader.State.{State}
use Rattle.framing.specs.declared.frame_reader.State.TheVariants.{Start, Address, Data, Complete}
use Rattle.framing.specs.declared.frame_reader.Reading.{Reading}
use Rattle.framing.specs.declared.frame_reader.Reading.TheVariants.{Standard}
use Rattle.framing.specs.declared.frame_reader.FrameReader.{FrameReader}

-- ---- one frame's end

module _ (r : FrameReader) (standard : r.reading ≡ Standard) where
  escape_cleared : escape_after r ≡ false
  escape_cleared = rw standard (and-false r.escape)

  escape_aborts : aborts r ≡ r.escape
  escape_aborts = ap (λ (k : Reading). r.escape && not (is_crate k)) standard ∙ and-true r.escape

  good_ends : (buf : List ℕ) → is_good (fault_of r buf) ≡ ends_good (held r buf)
  good_ends buf = rw escape_aborts (by_test r.escape (λ e. rw e) (λ e. rw e))

  end_clean : (buf : List ℕ) → EndsClean (held r buf) (held (ended r buf) buf)
  end_clean buf =
      cond_by (λ (t : FrameReader). EndsClean (held r buf) (held t buf)) (is_good (fault_of r buf))
      (λ g.
      let w = sym (good_ends buf) ∙ g in
      record { state = rw w; kept = rw w; cleared = escape_cleared; bytes = refl })
      (λ g.
      let w = sym (good_ends buf) ∙ g in
      record { state = rw w; kept = rw (w, standard); cleared = escape_cleared; bytes = refl })

-- 7E inside a frame
pub ends_clean : (s : Held) → s.reader.reading ≡ Standard → s.reader.state ≡ Data → EndsClean s (step s 0x7E)
unfolding step
ends_clean s k d = subst⁻¹ (λ (t : State). EndsClean s (step_by t s 0x7E)) d (end_clean s.reader k s.buf)

-- ---- any byte

module _ (s : Held) (b : ℕ) (h : Clean s.reader) where
  goes : (t : State) → CleanIn t s.reader → Clean (moved s.reader t)
  goes Start c = record { standard = h.standard; clean = c }
  goes Address c = record { standard = h.standard; clean = c }
  goes Data c = record { standard = h.standard; clean = c }
  goes Complete c = record { standard = h.standard; clean = c }

  ends : Clean (ended s.reader s.buf)
  ends =
      let cleared = escape_cleared s.reader h.standard in
      cond_all Clean (is_good (fault_of s.reader s.buf))
      (record { standard = h.standard; clean = cleared })
      (record { standard = h.standard; clean = (cleared, rw h.standard) })

  step_by_clean : (t : State) → CleanIn t s.reader → Clean (step_by t s b).reader
  step_by_clean Start c = cond_all (λ (t : State). Clean (moved s.reader t)) (eqb b 0x7E) (goes Address c) (goes Start c)
  step_by_clean Address c =
      cond_all (λ (t : State). Clean (moved s.reader t)) (eqb b 0xFF) (goes Data tt)
      (cond_all (λ (t : State). Clean (moved s.reader t)) (eqb b 0x7E) (goes Address c) (goes Start c))
  step_by_clean Data c =
      cond_all (λ (t : Held). Clean t.reader) (eqb b 0x7E) ends
      (cond_all (λ (t : Held). Clean t.reader) (marks s.reader b)
      (record { standard = h.standard; clean = tt })
      (cond_all (λ (t : Held). Clean t.reader) (ltb s.reader.len (length s.buf))
      (record { standard = h.standard; clean = tt })
      (record { standard = h.standard; clean = (refl, refl) })))
  step_by_clean Complete c = h

  step_clean : Clean (step s b).reader
  unfolding step
  step_clean = step_by_clean s.reader.state h.clean

-- ---- any call, from a fresh reader on

pub fresh_clean : Clean (fresh_reader Standard)
fresh_clean = record { standard = refl; clean = (refl, refl) }

fed_clean : (s : Held) (bs : List ℕ) → Clean s.reader → Clean (fed s bs).now.reader
unfolding fed
fed_clean s [] h = h
fed_clean s (b ∷ bs) h = cond_all (λ (f : Fed). Clean f.now.reader) (full s) h (fed_clean (step s b) bs (step_clean s b h))

consumed_clean : (s : Held) (bs : List ℕ) → Clean s.reader → Clean (consumed s bs).now.reader
unfolding consumed
consumed_clean s bs h = cond_all (λ (f : Fed). Clean f.now.reader) (is_short s) h (fed_clean s bs h)

pub consumes_clean : {s : Held} {bs buf : List ℕ} {t : Result ℕ Refusal} {r : FrameReader} → Consumes s bs t r buf → Clean s.reader → Clean r
consumes_clean {s} {bs} c h = rw c.reader (consumed_clean s bs h)

complete_clean : (r : FrameReader) (t : State) → is_complete t ≡ true → CleanIn t r → r.escape ≡ false
complete_clean r Start e c = c.0
complete_clean r Address e c = c.0
complete_clean r Data e c = absurd (false≢true e)
complete_clean r Complete e c = c

pub receives_clean : {r r' : FrameReader} {g : Got} → Receives r g r' → Clean r → Clean r'
receives_clean {r} c h =
    rw c.reader
    (cond_by Clean (is_complete r.state)
    (λ e. record { standard = h.standard; clean = (complete_clean r r.state e h.clean, refl) })
    (λ _. h))

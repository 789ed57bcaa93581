-- A reader keeps its reading, whatever it is handed.
-- Assumes nothing.
use mathlib.Core.Path.{◌≡◌, refl, ◌∙◌}
use mathlib.Core.List.{List, [], ◌∷◌}
use Prim.Native.Nat.{ℕ}
use lib.Dec.{ltb, eqb}
use lib.ListN.{length}
use Rattle.laws.proofs.Cases.{cond_all}
use Rattle.framing.specs.Reader.{is_good, fault_of, marks, Held, step_by, step, full, Fed, fed, is_short, consumed}
use Rattle.framing.specs.declared.frame_reader.State.{State}
use Rattle.framing.specs.declared.frame_reader.State.TheVariants.{Start, Address, Data, Complete}
use Rattle.framing.specs.declared.frame_reader.FrameReader.{FrameReader}

module _ (s : Held) (b : ℕ) where
  abbrev Same : Held → Type 0
  Same t = t.reader.reading ≡ s.reader.reading

  step_by_reading : (st : State) → Same (step_by st s b)
  step_by_reading Start = refl
  step_by_reading Address = refl
  step_by_reading Data =
      cond_all Same (eqb b 0x7E) (cond_all (λ (r : FrameReader). r.reading ≡ s.reader.reading) (is_good (fault_of s.reader s.buf)) refl refl)
      (cond_all Same (marks s.reader b) refl (cond_all Same (ltb s.reader.len (length s.buf)) refl refl))
  step_by_reading Complete = refl

  pub step_reading : Same (step s b)
  unfolding step
  step_reading = step_by_reading s.reader.state

pub fed_reading : (s : Held) (bs : List ℕ) → (fed s bs).now.reader.reading ≡ s.reader.reading
unfolding fed
fed_reading s [] = refl
fed_reading s (b ∷ bs) = cond_all (λ (f : Fed). f.now.reader.reading ≡ s.reader.reading) (full s) refl (fed_reading (step s b) bs ∙ step_reading s b)

pub consumed_reading : (s : Held) (bs : List ℕ) → (consumed s bs).now.reader.reading ≡ s.reader.reading
unfolding consumed
consumed_reading s bs = cond_all (λ (f : Fed). f.now.reader.reading ≡ s.reader.reading) (is_short s) refl (fed_reading s bs)

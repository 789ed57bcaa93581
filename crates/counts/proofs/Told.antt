-- What one byte counts, by the reader's state and the tests of a frame end.
-- Assumes nothing.
use mathlib.Core.Path.{◌≡◌, refl, sym, ap, ◌∙◌}
use mathlib.Core.Bool.{Bool, true, false, not, ◌&&◌, ◌||◌, false≢true}
use mathlib.Core.List.{[], ◌∷◌}
use Prim.Native.Nat.{ℕ, ◌≤◌}
use native.Mathlib.Omega.{arith}
use borrow.Author.Tests.{ltb-true, ltb-false, eqb-true, eqb-false}
use lib.Dec.{ltb, eqb}
use lib.ListN.{length, get_or}
use Rattle.laws.proofs.Cases.{apart, by_test}
use Rattle.std.specs.Prelude.{Some}
use Rattle.framing.specs.Rfc1662.{fcs}
use Rattle.framing.specs.Reader.{is_crate, is_complete, aborts, marks, fault_in, fault_of, Held, step, full}
use Rattle.framing.specs.Drops.{no_drops, one_drop, fault_by, fault_at, dropped}
use Rattle.framing.proofs.Dropping.{together_none, drops_nil, drops-step, drops_stop, dropped-drops}
use Rattle.framing.specs.declared.drops.Fault.TheVariants.{Aborted, Short, Control, Check, Overrun}
use Rattle.framing.specs.declared.frame_reader.State.{State}
use Rattle.framing.specs.declared.frame_reader.State.TheVariants.{Start, Address, Data, Complete}
use Rattle.framing.specs.declared.frame_reader.Reading.{Reading}
use Rattle.framing.specs.declared.frame_reader.Reading.TheVariants.{Crate, Standard}
use Rattle.counts.specs.Counts.{Exactly, kept_of, FrameEnd, EscapeOpen, Few, Begins, Checks, Kept, Room, Told}

yes : {P : Type 0} → P → Exactly 1 P
yes p = (λ _. refl, λ n. absurd (n p))

no_one : {P : Type 0} → (P → ⊥) → Exactly 0 P
no_one n = (λ p. absurd (n p), λ _. refl)

-- ---- a byte that counts nothing, or for one cause

-- no frame end
no_end : (s : Held) (b n : ℕ) → (FrameEnd s b → ⊥) → Exactly n (Kept s b × (Room s → ⊥))
    → Told s b (record { aborted = 0; short = 0; control = 0; check = 0; overrun = n })
no_end s b n e k =
    record {
      aborted = no_one (λ p. e p.0);
      short = no_one (λ p. e p.0);
      control = no_one (λ p. e p.0);
      check = no_one (λ p. e p.0);
      overrun = k;
    }

-- and nothing to be kept, or room for it
nothing : (s : Held) (b : ℕ) → (FrameEnd s b → ⊥) → (Kept s b × (Room s → ⊥) → ⊥) → Told s b no_drops
nothing s b e k = no_end s b 0 e (no_one k)

-- room runs out
out : (s : Held) (b : ℕ) → Kept s b → (Room s → ⊥) → Told s b (one_drop (Some Overrun))
out s b k r = no_end s b 1 (λ p. k.1 p.1) (yes (k, r))

module _ (s : Held) (b : ℕ) (e : FrameEnd s b) where
  kept_not : {P : Type 0} → Kept s b × P → ⊥
  kept_not p = p.0.1 e.1

  aborted-told : EscapeOpen s → Told s b (one_drop (Some Aborted))
  aborted-told a =
      record {
        aborted = yes (e, a);
        short = no_one (λ p. p.1 a);
        control = no_one (λ p. p.1 a);
        check = no_one (λ p. p.1 a);
        overrun = no_one kept_not;
      }

  module _ (a : EscapeOpen s → ⊥) where
    short_told : Few s → Told s b (one_drop (Some Short))
    short_told f =
        record {
          aborted = no_one (λ p. a p.1);
          short = yes (e, a, f);
          control = no_one (λ p. p.2 f);
          check = no_one (λ p. p.2 f);
          overrun = no_one kept_not;
        }

    module _ (f : Few s → ⊥) where
      control_told : (Begins s → ⊥) → Told s b (one_drop (Some Control))
      control_told c =
          record {
            aborted = no_one (λ p. a p.1);
            short = no_one (λ p. f p.2);
            control = yes (e, a, f, c);
            check = no_one (λ p. c p.3);
            overrun = no_one kept_not;
          }

      module _ (c : Begins s) where
        check_told : (Checks s → ⊥) → Told s b (one_drop (Some Check))
        check_told k =
            record {
              aborted = no_one (λ p. a p.1);
              short = no_one (λ p. f p.2);
              control = no_one (λ p. p.3 c);
              check = yes (e, a, f, c, k);
              overrun = no_one kept_not;
            }

        good_told : Checks s → Told s b no_drops
        good_told k =
            record {
              aborted = no_one (λ p. a p.1);
              short = no_one (λ p. f p.2);
              control = no_one (λ p. p.3 c);
              check = no_one (λ p. p.4 k);
              overrun = no_one kept_not;
            }

-- ---- which of them it is

abort_by : (e : Bool) (k : Reading) → e && not (is_crate k) ≡ true → (k ≡ Standard) × (e ≡ true)
abort_by true Standard t = (refl, refl)
abort_by true Crate t = absurd (false≢true t)
abort_by false k t = absurd (false≢true t)

abort_not : (e : Bool) (k : Reading) → e && not (is_crate k) ≡ false → (k ≡ Standard) × (e ≡ true) → ⊥
abort_not true Standard t p = false≢true (sym t)
abort_not true Crate t p = apart cc
abort_not false k t p = false≢true p.1

-- a frame end
ended-told : (s : Held) (b : ℕ) → FrameEnd s b → Told s b (one_drop (fault_of s.reader s.buf))
unfolding fault_in
ended-told s b e =
    let l = kept_of s in
    by_test (aborts s.reader)
    (λ t. rw t (aborted-told s b e (abort_by s.reader.escape s.reader.reading t)))
    (λ t.
    let a = abort_not s.reader.escape s.reader.reading t in
    by_test (ltb (length l) 3)
    (λ u. rw (t, u) (short_told s b e a (ltb-true (length l) 3 u)))
    (λ u.
    let f : Few s → ⊥ = λ h. omega (arith, h, ltb-false (length l) 3 u) in
    by_test (eqb (get_or l 0 0) 0x03)
    (λ v.
    let c = eqb-true (get_or l 0 0) 0x03 v in
    by_test (eqb (fcs 0x00FF l) 0xF0B8)
    (λ w. rw (t, u, v, w) (good_told s b e a f c (eqb-true (fcs 0x00FF l) 0xF0B8 w)))
    (λ w. rw (t, u, v, w) (check_told s b e a f c (eqb-false (fcs 0x00FF l) 0xF0B8 w))))
    (λ v. rw (t, u, v) (control_told s b e a f (eqb-false (get_or l 0 0) 0x03 v)))))

marks_by : (b : ℕ) (e : Bool) (k : Reading) → eqb b 0x7D && (not e || is_crate k) ≡ false → b ≡ 0x7D → (k ≡ Standard) × (e ≡ true)
marks_by b true Standard t p = (refl, refl)
marks_by b true Crate t p = absurd (false≢true (sym t ∙ rw p))
marks_by b false k t p = absurd (false≢true (sym t ∙ rw p))

marks_not : (b : ℕ) (e : Bool) (k : Reading) → eqb b 0x7D && (not e || is_crate k) ≡ true → (b ≡ 0x7D → (k ≡ Standard) × (e ≡ true)) → ⊥
marks_not b e k t p = by_test (eqb b 0x7D) (λ u. go e k (rw u at t) (p (eqb-true b 0x7D u))) (λ u. false≢true (rw u at t))
  where
    go : (e : Bool) (k : Reading) → not e || is_crate k ≡ true → (k ≡ Standard) × (e ≡ true) → ⊥
    go true Standard t p = false≢true t
    go true Crate t p = apart cc
    go false k t p = false≢true p.1

-- a byte inside a frame
data_told : (s : Held) (b : ℕ) → s.reader.state ≡ Data → Told s b (one_drop (fault_by Data s b))
data_told s b d =
    by_test (eqb b 0x7E)
    (λ t. rw t (ended-told s b (d, eqb-true b 0x7E t)))
    (λ t.
    let n = eqb-false b 0x7E t in
    by_test (marks s.reader b)
    (λ u. rw (t, u) (nothing s b (λ p. n p.1) (λ p. marks_not b s.reader.escape s.reader.reading u p.0.2)))
    (λ u.
    by_test (ltb s.reader.len (length s.buf))
    (λ v. rw (t, u, v) (nothing s b (λ p. n p.1) (λ p. p.1 (ltb-true s.reader.len (length s.buf) v))))
    (λ v. rw (t, u, v) (out s b (d, n, marks_by b s.reader.escape s.reader.reading u) (λ h. omega (arith, h, ltb-false s.reader.len (length s.buf) v))))))

-- outside a frame nothing counts
elsewhere : (s : Held) (b : ℕ) → (s.reader.state ≡ Data → ⊥) → Told s b no_drops
elsewhere s b n = nothing s b (λ p. n p.0) (λ p. n p.0.0)

byte_told : (s : Held) (b : ℕ) → Told s b (one_drop (fault_at s b))
unfolding fault_at
byte_told s b = go s.reader.state refl
  where
    go : (t : State) → s.reader.state ≡ t → Told s b (one_drop (fault_by t s b))
    go Start e = elsewhere s b (λ d. apart cc)
    go Address e = elsewhere s b (λ d. apart cc)
    go Data e = data_told s b e
    go Complete e = elsewhere s b (λ d. apart cc)

-- a call with one byte; a reader that holds a complete frame takes none
pub call_told : (s : Held) (b : ℕ) → s.reader.len ≤ length s.buf → Told s b (dropped s (b ∷ []))
call_told s b h =
    rw (dropped-drops s (b ∷ []) h)
    (by_test (full s)
    (λ e. rw (drops_stop s (b ∷ []) e) (elsewhere s b (λ d. false≢true (sym (ap is_complete d) ∙ e))))
    (λ e. rw (drops-step s b [] e, drops_nil (step s b), together_none (one_drop (fault_at s b))) (byte_told s b)))

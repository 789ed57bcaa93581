-- The refusal table of framing's calls: the first row that holds, and what the writer and an encoding leave where none does.
-- Assumes nothing.
use mathlib.Core.Path.{◌≡◌, refl, ap, sym, ◌∙◌}
use mathlib.Core.Bool.{true, false, cond, true≢false, false≢true}
use mathlib.Core.List.{List, flatten}
use mathlib.Core.Logic.{inl, inr}
use Prim.Native.Nat.{ℕ, ◌+◌, ◌-◌, ◌≤◌}
use native.Mathlib.Nat.{zero-add, sub-zero, sub_self}
use native.Mathlib.Omega.{arith}
use borrow.Author.Tests.{ne_eqb, leb-true, leb-false, ltb-true, ltb-false}
use lib.Dec.{eqb, leb, ltb}
use lib.ListN.{length}
use lib.Seq.{sets, sets-eq}
use Rattle.std.specs.Prelude.{Result}
use Rattle.laws.proofs.Cases.{by_test}
use Rattle.laws.proofs.Stores.{sets_front}
use Rattle.framing.specs.Rfc1662.{frame}
use Rattle.framing.specs.Refusal.{outcome_number}
use Rattle.framing.specs.Writer.{write, Ran, fit, over, lent, holds, Writes, Lays}
use Rattle.framing.specs.Reader.{Held, is_short, is_complete, consumed, Got, Receives}
use Rattle.framing.specs.Drops.{dropped}
use Rattle.framing.specs.declared.drops.Drops.{Drops}
use Rattle.framing.proofs.Dropping.{dropped_short}
use Rattle.framing.specs.declared.refusal.Refusal.{Refusal}
use Rattle.framing.specs.declared.frame_writer.FrameWriter.{FrameWriter}
use Rattle.framing.specs.declared.frame_reader.FrameReader.{FrameReader}
use Rattle.framing.specs.declared.frame_reader.State.{State}
use Rattle.framing.specs.declared.frame_reader.State.TheVariants.{Start, Address, Data, Complete}
use Rattle.framing.proofs.Run.{write_closed, fit_all, fit_le}
use Rattle.framing.proofs.Unstuffing.{frame-length}
use Rattle.framing.proofs.Reader.{consumed_short}
use Rattle.refusals.specs.Rows.{Row}
use Rattle.refusals.specs.Framing.{Writing, Left, writer_rows, all_written, units_of, encode_rows, whole_frame, answer_number, consume_rows, receive_rows}
use Rattle.refusals.proofs.Rows.{First}
use Rattle.refusals.proofs.Units.{join_flatten, frame-units, fit_of}

-- a call that gives n and leaves a: the first row that holds, and whole where none does
pub record Right {A : Type 0} (rows : List (Row A)) (whole : A) (n : ℕ) (a : A) : Type 0 where
  pub first : First n a rows
  pub done : n ≡ 0 → a ≡ whole

-- ---- the writer

module _ (us : List (List ℕ)) (full crc : ℕ) (w : FrameWriter) (buf : List ℕ) {o : Result Unit Refusal} {w' : FrameWriter} {buf' : List ℕ} (c : Writes us full crc w buf o w' buf') where
  abbrev call : Writing
  call = record { units = us; refused = full; done = crc }

  abbrev left : Left
  left = record { writer = w'; bytes = buf' }

  abbrev Writ : Type 0
  Writ = Right (writer_rows call w buf) (all_written call w buf) (outcome_number o) left

  -- the lent buffer is under the length
  writes_short : lent w buf ≡ false → Writ
  writes_short e =
      let n : outcome_number o ≡ 3 = c.number ∙ rw e refl in
      record {
        first = inl (n, leb-false w.len (length buf) e, (c.writer ∙ rw e refl, c.bytes ∙ rw e refl));
        done = λ z. absurd (omega arith);
      }

  module _ (l : lent w buf ≡ true) where
    enough : w.len ≤ length buf
    enough = leb-true w.len (length buf) l

    closed : Ran us buf w.len (sets buf w.len (fit (length buf - w.len) us)) (w.len + length (fit (length buf - w.len) us)) (leb (w.len + length (flatten us)) (length buf))
    closed = rw join_flatten at (write_closed us buf w.len enough)

    writes_full : leb (w.len + length (flatten us)) (length buf) ≡ false → Writ
    writes_full e =
        let t : (write us buf w.len).done ≡ false = sym closed.same_done ∙ e in
        let n : outcome_number o ≡ 1 = c.number ∙ rw (l, t) refl in
        let f = fit_of us w.len buf enough in
        record {
          first =
              inr (
                (λ h. omega (arith, enough)),
                inl (
                  n,
                  leb-false (w.len + length (flatten us)) (length buf) e,
                  record {
                    units = rw (c.bytes, l, ← closed.same_bytes) f.fitted;
                    writer = c.writer ∙ rw (l, t, ← closed.same_at, f.end) refl;
                  },
                ),
              );
          done = λ z. absurd (omega arith);
        }

    writes_all : leb (w.len + length (flatten us)) (length buf) ≡ true → Writ
    writes_all e =
        let t : (write us buf w.len).done ≡ true = sym closed.same_done ∙ e in
        let h = leb-true (w.len + length (flatten us)) (length buf) e in
        let f : fit (length buf - w.len) us ≡ flatten us = fit_all us (length buf - w.len) (rw join_flatten (omega arith)) ∙ join_flatten us in
        record {
          first = inr ((λ h. omega (arith, enough)), inr ((λ k. omega arith), c.number ∙ rw (l, t) refl));
          done = λ _. rw (c.writer, c.bytes, l, t, ← closed.same_at, ← closed.same_bytes, f, sets-eq (flatten us) buf w.len h) refl;
        }

  pub writes_right : Writ
  writes_right =
      by_test (lent w buf)
      (λ l. by_test (leb (w.len + length (flatten us)) (length buf)) (writes_all l) (writes_full l))
      writes_short

-- ---- the encoding of one packet

-- by the number that a call gives: it refuses exactly where the frame does not fit
pub lays_right : (m : ℕ) (p buf : List ℕ) {k n : ℕ} {buf' : List ℕ} → k ≡ cond (holds m p (length buf)) 0 1 → Lays m p buf n buf'
    → Right (encode_rows m p buf) (whole_frame m p buf) k (record { count = n; bytes = buf' })
lays_right m p buf {k} {n} {buf'} number c =
    by_test (holds m p (length buf))
    (λ e. record {
      first = inr ((λ h. omega (arith, leb-true (length (frame m p)) (length buf) e)), number ∙ rw e refl);
      done = λ _. rw (c.count, c.bytes, e, zero-add (length (frame m p))) refl;
    })
    (λ e. let f = fit_of (units_of m p) 0 buf (omega arith) in
    let k1 : k ≡ 1 = number ∙ rw e refl in
    record {
      first = inl (k1, leb-false (length (frame m p)) (length buf) e, (c.count ∙ rw e refl, rw (c.bytes, e, frame-units m p, ← front) f.fitted));
      done = λ z. absurd (omega arith);
    })
  where
    front : sets buf 0 (fit (length buf - 0) (units_of m p)) ≡ over (fit (length buf) (units_of m p)) buf
    front = rw sub-zero (sets_front (fit (length buf) (units_of m p)) buf (fit_le (units_of m p) (length buf)))

-- the C function's answer is 0 exactly where it is refused: a frame has bytes
pub answer_number_lem : (m : ℕ) (p buf : List ℕ) {n : ℕ} {buf' : List ℕ} → Lays m p buf n buf' → answer_number n ≡ cond (holds m p (length buf)) 0 1
answer_number_lem m p buf c =
    let some : eqb (length (frame m p)) 0 ≡ false = ne_eqb (length (frame m p)) 0 (λ z. omega (arith, frame-length m p)) in
    by_test (holds m p (length buf)) (λ e. rw (c.count, e, some) refl) (λ e. rw (c.count, e) refl)

-- ---- the reader

pub consume_right : {A : Type 0} (s : Held) (bs : List ℕ) (a : A) {k n : ℕ} {d : Drops} {a' : A} {rx : List ℕ} → k ≡ cond (is_short s) 3 0
    → n ≡ length bs - length (consumed s bs).left → d ≡ dropped s bs → ((consumed s bs).now.reader ≡ s.reader → a' ≡ a) → rx ≡ (consumed s bs).now.buf
    → First k (record { count = n; drops = d; kept = a'; rx = rx }) (consume_rows s.reader.len a s.buf)
consume_right s bs a number count drops same bytes =
    by_test (is_short s)
    (λ e. let h = ltb-true (length s.buf) s.reader.len e in
    let c = consumed_short s bs h in
    inl (number ∙ rw e refl, h, (count ∙ rw (c, sub_self) refl, drops ∙ dropped_short s bs h, same (rw c refl), bytes ∙ rw c refl)))
    (λ e. inr ((λ h. omega (arith, ltb-false (length s.buf) s.reader.len e)), number ∙ rw e refl))

pub complete_is : (s : State) → is_complete s ≡ true → s ≡ Complete
complete_is Start e = absurd (false≢true e)
complete_is Address e = absurd (false≢true e)
complete_is Data e = absurd (false≢true e)
complete_is Complete e = refl

pub receive_right : (r : FrameReader) {g : Got} {r' : FrameReader} → Receives r g r' → First (outcome_number g) r' (receive_rows r)
receive_right r c =
    by_test (is_complete r.state)
    (λ e. by_test (ltb r.len 3)
    (λ h. inl (c.number ∙ rw (e, h) refl, (complete_is r.state e, ltb-true r.len 3 h), c.reader ∙ rw e refl))
    (λ h. inr ((λ x. omega (arith, ltb-false r.len 3 h, x.1)), c.number ∙ rw (e, h) refl)))
    (λ e. inr ((λ x. true≢false (sym (ap is_complete x.0) ∙ e)), c.number ∙ rw e refl))

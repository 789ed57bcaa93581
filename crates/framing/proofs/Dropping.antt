-- Laws of what the reader drops: counts together, a run of bytes, a call.
-- Assumes nothing.
use mathlib.Core.Path.{◌≡◌, refl, sym, ap, ap₂, subst, ◌∙◌}
use mathlib.Core.Bool.{Bool, true, false, cond}
use mathlib.Core.List.{List, [], ◌∷◌, ◌++◌}
use Prim.Native.Nat.{ℕ, suc, ◌+◌, ◌-◌, ◌≤◌, ◌<◌}
use native.Mathlib.Omega.{arith}
use native.Mathlib.Nat.{add-zero, zero-add, add_assoc}
use native.Mathlib.Numerals.{add-one}
use borrow.Author.Tests.{lt-ltb, le-ltb}
use lib.Dec.{ltb, eqb}
use lib.ListN.{length, get_or, drop, drop_of_length-le}
use lib.Seq.{drop-cons}
use Rattle.laws.proofs.Cases.{by_test, by_le}
use Rattle.std.specs.Prelude.{Option, None, Some}
use Rattle.framing.specs.Reader.{marks, aborts, fault_in, Held, held, step, full, fed, consumed}
use Rattle.framing.specs.Heard.{fetched_in, Heard, heard}
use Rattle.framing.specs.Drops.{fault_by, fault_at, no_drops, one_drop, together, all_of, drops, dropped, missed}
use Rattle.framing.specs.declared.drops.Drops.{Drops}
use Rattle.framing.specs.declared.drops.Fault.{Fault}
use Rattle.framing.specs.declared.drops.Fault.TheVariants.{Aborted, Short, Control, Check, Overrun}
use Rattle.framing.specs.declared.frame_reader.State.{State}
use Rattle.framing.specs.declared.frame_reader.State.TheVariants.{Start, Address, Data, Complete}
use Rattle.framing.specs.declared.frame_reader.FrameReader.{FrameReader}
use Rattle.framing.proofs.Heard.{fetched_alike, heard-fed}
use Rattle.framing.proofs.Reader.{fed_kept, fed_nil, fed-step, fed_stop, consumed-fed, consumed_short, Alike, step_alike}

-- ---- counts together

pub together_none : (d : Drops) → together d no_drops ≡ d
together_none d = simp add-zero

pub none_together : (d : Drops) → together no_drops d ≡ d
none_together d = simp zero-add

pub together_assoc : (c d e : Drops) → together (together c d) e ≡ together c (together d e)
together_assoc c d e = simp add_assoc

pub all_together : (c d : Drops) → all_of (together c d) ≡ all_of c + all_of d
all_together c d = omega arith

pub one_most : (f : Option Fault) → all_of (one_drop f) ≤ 1
one_most None = omega arith
one_most (Some Aborted) = omega arith
one_most (Some Short) = omega arith
one_most (Some Control) = omega arith
one_most (Some Check) = omega arith
one_most (Some Overrun) = omega arith

-- ---- a run of bytes

pub drops_nil : (s : Held) → drops s [] ≡ no_drops
unfolding drops
drops_nil s = refl

pub drops-step : (s : Held) (b : ℕ) (bs : List ℕ) → full s ≡ false → drops s (b ∷ bs) ≡ together (one_drop (fault_at s b)) (drops (step s b) bs)
unfolding drops
drops-step s b bs e = rw e

pub drops_stop : (s : Held) (bs : List ℕ) → full s ≡ true → drops s bs ≡ no_drops
unfolding drops
drops_stop s [] e = refl
drops_stop s (b ∷ bs) e = rw e

-- cuts do not matter: the counts of both runs together, the second from where the first leaves off
pub drops_cut : (s : Held) (a b : List ℕ) → drops s (a ++ b) ≡ together (drops s a) (drops (fed s a).now ((fed s a).left ++ b))
drops_cut s [] b = rw (drops_nil s, fed_nil s) (sym (none_together (drops s b)))
drops_cut s (x ∷ a) b =
    let ih = drops_cut (step s x) a b in
    by_test (full s)
    (λ e. rw (drops_stop s (x ∷ a) e, fed_stop s (x ∷ a) e) (sym (none_together (drops s (x ∷ (a ++ b))))))
    (λ e. rw (drops-step s x (a ++ b) e, drops-step s x a e, fed-step s x a e, ih)
    (sym (together_assoc (one_drop (fault_at s x)) (drops (step s x) a) (drops (fed (step s x) a).now ((fed (step s x) a).left ++ b)))))

-- a byte drops one frame at most
pub drops_most : (s : Held) (bs : List ℕ) → all_of (drops s bs) + length (fed s bs).left ≤ length bs
drops_most s [] = rw (drops_nil s, fed_nil s) (omega arith)
drops_most s (b ∷ bs) =
    let ih = drops_most (step s b) bs in
    by_test (full s)
    (λ e. rw (drops_stop s (b ∷ bs) e, fed_stop s (b ∷ bs) e) (omega arith))
    (λ e. rw (drops-step s b bs e, fed-step s b bs e) (omega (arith, one_most (fault_at s b))))

-- ---- a loop over the bytes of src: behind i of them d is counted, and with what is still to be dropped it comes to all

pub record Counted (src : List ℕ) (all : Drops) (s : Held) (i : ℕ) (d : Drops) : Type 0 where
  pub same : together d (drops s (drop i src)) ≡ all
  pub most : all_of d ≤ i

module _ (src : List ℕ) where
  pub counted_none : (s : Held) → Counted src (drops s src) s 0 no_drops
  counted_none s = record { same = none_together (drops s src); most = omega arith }

  module _ {all d : Drops} {s : Held} {i : ℕ} (c : Counted src all s i d) where
    pub counted_next : i < length src → full s ≡ false → Counted src all (step s (get_or src i 0)) (i + 1) (together d (one_drop (fault_at s (get_or src i 0))))
    counted_next h e =
        let b = get_or src i 0 in
        record {
          same =
              together_assoc d (one_drop (fault_at s b)) (drops (step s b) (drop (i + 1) src))
              ∙ ap (together d) (rw (add-one i) (sym (ap (drops s) (drop-cons src i 0 h) ∙ drops-step s b (drop (suc i) src) e)))
              ∙ c.same;
          most = omega (arith, one_most (fault_at s b), c.most);
        }

    pub counted_stop : full s ≡ true → d ≡ all
    counted_stop e = sym (together_none d) ∙ ap (together d) (sym (drops_stop s (drop i src) e)) ∙ c.same

    pub counted_end : length src ≤ i → d ≡ all
    counted_end h = sym (together_none d) ∙ ap (together d) (sym (ap (drops s) (drop_of_length-le src h) ∙ drops_nil s)) ∙ c.same

-- ---- a call

pub dropped_short : (s : Held) (bs : List ℕ) → length s.buf < s.reader.len → dropped s bs ≡ no_drops
unfolding dropped
dropped_short s bs h = ap (λ (t : Bool). cond t no_drops (drops s bs)) (lt-ltb (length s.buf) s.reader.len h)

pub dropped-drops : (s : Held) (bs : List ℕ) → s.reader.len ≤ length s.buf → dropped s bs ≡ drops s bs
unfolding dropped
dropped-drops s bs h = ap (λ (t : Bool). cond t no_drops (drops s bs)) (le-ltb (length s.buf) s.reader.len h)

pub dropped_cut : (s : Held) (a b : List ℕ) → dropped s (a ++ b) ≡ together (dropped s a) (dropped (consumed s a).now ((consumed s a).left ++ b))
dropped_cut s a b =
    by_le s.reader.len (length s.buf)
    (λ h.
    let k = fed_kept (length s.buf) s a (record { room = refl; within = h }) in
    rw (dropped-drops s (a ++ b) h, dropped-drops s a h, consumed-fed s a h, dropped-drops (fed s a).now ((fed s a).left ++ b) (omega arith)) (drops_cut s a b))
    (λ h. rw (dropped_short s (a ++ b) h, dropped_short s a h, consumed_short s a h, dropped_short s (a ++ b) h))

pub dropped_most : (s : Held) (bs : List ℕ) → all_of (dropped s bs) ≤ length bs - length (consumed s bs).left
dropped_most s bs =
    by_le s.reader.len (length s.buf)
    (λ h. rw (dropped-drops s bs h, consumed-fed s bs h) (omega (arith, drops_most s bs)))
    (λ h. rw (dropped_short s bs h) (omega arith))

-- ---- calls with a fetch behind each

pub missed_nil : (s : Held) → missed s [] ≡ no_drops
unfolding missed
missed_nil s = refl

pub missed-append : (s : Held) (a b : List ℕ) → missed s (a ++ b) ≡ together (missed s a) (missed (heard s a).now b)
unfolding missed heard
missed-append s [] b = sym (none_together (missed s b))
missed-append s (x ∷ a) b =
    let t = fetched_in (step s x) in
    ap (together (one_drop (fault_at s x))) (missed-append t a b) ∙ sym (together_assoc (one_drop (fault_at s x)) (missed t a) (missed (heard t a).now b))

-- one call and its fetch, then the rest
pub missed-fed : (s : Held) (bs : List ℕ) → full s ≡ false → missed s bs ≡ together (drops s bs) (missed (fetched_in (fed s bs).now) (fed s bs).left)
unfolding missed
missed-fed s [] e = rw (drops_nil s, fed_nil s)
missed-fed s (b ∷ bs) e =
    rw (drops-step s b bs e, fed-step s b bs e)
    (by_test (full (step s b))
    (λ t. rw (drops_stop (step s b) bs t, fed_stop (step s b) bs t) (ap (λ (d : Drops). together d (missed (fetched_in (step s b)) bs)) (sym (together_none (one_drop (fault_at s b))))))
    (λ t. rw t (ap (together (one_drop (fault_at s b))) (missed-fed (step s b) bs t) ∙ sym (together_assoc (one_drop (fault_at s b)) (drops (step s b) bs) (missed (fetched_in (fed (step s b) bs).now) (fed (step s b) bs).left)))))

-- the same with more bytes behind
pub missed_fed_more : (s : Held) (a b : List ℕ) → full s ≡ false
    → missed s (a ++ b) ≡ together (drops s a) (missed (fetched_in (fed s a).now) ((fed s a).left ++ b))
missed_fed_more s a b e =
    let f = fed s a in
    let t = fetched_in f.now in
    missed-append s a b
    ∙ ap (λ (d : Drops). together d (missed (heard s a).now b)) (missed-fed s a e)
    ∙ together_assoc (drops s a) (missed t f.left) (missed (heard s a).now b)
    ∙ ap (together (drops s a)) (ap (λ (h : Heard). together (missed t f.left) (missed h.now b)) (heard-fed s a e) ∙ sym (missed-append t f.left b))

-- ---- bytes behind the kept length change no count

fault_alike : (s t : Held) (b : ℕ) → Alike s t → fault_at s b ≡ fault_at t b
unfolding fault_at
fault_alike s t b h =
    subst (λ (r : FrameReader). fault_at s b ≡ fault_at (held r t.buf) b) h.same_reader (go s.reader.state)
  where
    go : (st : State) → fault_by st s b ≡ fault_by st (held s.reader t.buf) b
    go Start = refl
    go Address = refl
    go Data =
        let r = s.reader in
        ap₂
        (λ (l : List ℕ) (n : ℕ). cond (eqb b 0x7E) (cond (aborts r) (Some Aborted) (fault_in l)) (cond (marks r b) None (cond (ltb r.len n) None (Some Overrun))))
        h.same_kept h.same_room
    go Complete = refl

pub missed_alike : (s t : Held) (bs : List ℕ) → Alike s t → missed s bs ≡ missed t bs
unfolding missed
missed_alike s t [] h = refl
missed_alike s t (b ∷ bs) h =
    ap₂ (λ (f : Option Fault) (d : Drops). together (one_drop f) d) (fault_alike s t b h)
    (missed_alike (fetched_in (step s b)) (fetched_in (step t b)) bs (fetched_alike (step s b) (step t b) (step_alike s t b h)))

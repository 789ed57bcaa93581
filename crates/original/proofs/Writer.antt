-- The calls of frame_writer.rs, one by one, are those of our writer.
-- Assumes nothing.
use mathlib.Core.Path.{◌≡◌, refl, ap, sym, ◌∙◌}
use mathlib.Core.Bool.{Bool, true, false, cond, not, ◌||◌}
use mathlib.Core.List.{List, [], ◌∷◌, ◌++◌}
use Prim.Native.Nat.{ℕ, suc, ◌+◌, ◌-◌, ◌*◌, ◌/◌, ◌%◌, ◌^◌, ◌≤◌}
use native.Mathlib.Nat.{pow-suc, one-le-pow}
use native.Mathlib.Omega.{arith}
use borrow.Author.Tests.{le-leb, lt-leb, lt-ltb, le-ltb, eq-eqb, ne_eqb}
use lib.Bits.{bit_and, bit_xor, and_high}
use lib.Dec.{eqb, lit<}
use lib.ListN.{length}
use Rattle.std.specs.Prelude.{Result}
use Rattle.laws.specs.Each.{Bytes}
use Rattle.laws.proofs.Cases.{by_le, by_test}
use Rattle.framing.specs.Rfc1662.{escaped, unit, fcs, check_bytes}
use Rattle.framing.specs.Writer.{Out, write, Ran, units, start_units, finish_units, Writes, Starts, Appends, Finishes}
use Rattle.framing.specs.declared.refusal.Refusal.{Refusal}
use Rattle.framing.specs.declared.frame_writer.FrameWriter as ours
use Rattle.framing.proofs.Run.{run_next, run_stop}
use Rattle.original.specs.Crc.{crc16}
use Rattle.original.specs.Framing.{FrameWriter, WriteResult, try, with_crc, append_raw, escapes, append_escaped, start, finish, append}
use Rattle.original.specs.View.{view_writer}
use Rattle.original.specs.SameFraming.{SameWrite}
use Rattle.original.proofs.Crc.{same-crc16}

-- ---- which bytes are escaped

-- `map & (1 << b)` has the one bit
masked : (m b : ℕ) → bit_and m (2 ^ b) ≡ m / 2 ^ b % 2 * 2 ^ b
masked m b =
    let e : 2 ^ (1 + b) - 2 ^ b ≡ 2 ^ b = rw (one_suc b, pow-suc 2 b) (omega arith) in
    rw e at (and_high m 1 b)
  where
    one_suc : (n : ℕ) → 1 + n ≡ suc n
    one_suc n = omega arith

bit_test : (m b : ℕ) → not (eqb (bit_and m (2 ^ b)) 0) ≡ eqb (m / 2 ^ b % 2) 1
bit_test m b =
    let k = one-le-pow b 2 (lit< tt) in
    let x = m / 2 ^ b % 2 in
    by_le x 0
    (λ h. let z : x ≡ 0 = omega arith in rw (masked m b, z) (rw (eq-eqb (0 * 2 ^ b) 0 (omega arith)) refl))
    (λ h. let z : x ≡ 1 = omega arith in
    rw (masked m b, z) (rw (ne_eqb (1 * 2 ^ b) 0 (λ e. omega arith)) refl))

pub same-escapes : (m b : ℕ) → escapes m b ≡ escaped m b
unfolding escapes escaped
same-escapes m b =
    by_le b 0x1F
    (λ h. rw (le-leb b 0x1F h, lt-ltb b 0x20 (omega arith)) (bit_test m b))
    (λ h. rw (lt-leb b 0x1F h, le-ltb b 0x20 (omega arith)) (either (eqb b 0x7D) (eqb b 0x7E)))
  where
    either : (s t : Bool) → cond s true (cond t true false) ≡ s || t
    either true t = refl
    either false true = refl
    either false false = refl

-- ---- a run of units

-- what a run leaves, as the original's answer
abbrev out_in : FrameWriter → Out → WriteResult
out_in w o = record { is_ok = o.done; writer = record { buf = o.bytes; len = o.at; crc = w.crc; asyncmap = w.asyncmap } }

-- one unit, then a run
raw_then : (w : FrameWriter) (u : List ℕ) (us : List (List ℕ)) (next : FrameWriter → WriteResult)
    → ((v : FrameWriter) → v.crc ≡ w.crc → v.asyncmap ≡ w.asyncmap → next v ≡ out_in w (write us v.buf v.len))
    → try (append_raw w u) next ≡ out_in w (write (u ∷ us) w.buf w.len)
unfolding append_raw write
raw_then w u us next h =
    by_le (w.len + length u) (length w.buf)
    (λ k. rw (le-ltb (length w.buf) (w.len + length u) k, le-leb (w.len + length u) (length w.buf) k) (h _ refl refl))
    (λ k. rw (lt-ltb (length w.buf) (w.len + length u) k, lt-leb (w.len + length u) (length w.buf) k) refl)

raw_is : (w : FrameWriter) (u : List ℕ) → append_raw w u ≡ out_in w (write (u ∷ []) w.buf w.len)
unfolding append_raw write
raw_is w u =
    by_le (w.len + length u) (length w.buf)
    (λ k. rw (le-ltb (length w.buf) (w.len + length u) k, le-leb (w.len + length u) (length w.buf) k) refl)
    (λ k. rw (lt-ltb (length w.buf) (w.len + length u) k, lt-leb (w.len + length u) (length w.buf) k) refl)

-- a byte as it is sent
byte_is : (w : FrameWriter) (b : ℕ)
    → cond (escapes w.asyncmap b) (append_raw w (0x7D ∷ bit_xor b 0x20 ∷ [])) (append_raw w (b ∷ [])) ≡ append_raw w (unit w.asyncmap b)
unfolding unit
byte_is w b = rw (same-escapes w.asyncmap b) (go (escaped w.asyncmap b))
  where
    go : (t : Bool) → cond t (append_raw w (0x7D ∷ bit_xor b 0x20 ∷ [])) (append_raw w (b ∷ [])) ≡ append_raw w (cond t (0x7D ∷ bit_xor b 0x20 ∷ []) (b ∷ []))
    go true = refl
    go false = refl

escaped_is : (w : FrameWriter) (bs : List ℕ) → append_escaped w bs ≡ out_in w (write (units w.asyncmap bs) w.buf w.len)
unfolding append_escaped units write
escaped_is w [] = refl
escaped_is w (b ∷ bs) =
    rw (byte_is w b)
    (raw_then w (unit w.asyncmap b) (units w.asyncmap bs) (λ v. append_escaped v bs)
    (λ v p q. escaped_is v bs ∙ rw (p, q) refl))

-- two runs, one behind the other
run_then : (w : FrameWriter) (us vs : List (List ℕ)) (next : FrameWriter → WriteResult)
    → ((v : FrameWriter) → v.crc ≡ w.crc → v.asyncmap ≡ w.asyncmap → next v ≡ out_in w (write vs v.buf v.len))
    → try (out_in w (write us w.buf w.len)) next ≡ out_in w (write (us ++ vs) w.buf w.len)
run_then w us vs next h = go (write us w.buf w.len) refl
  where
    go : (o : Out) → write us w.buf w.len ≡ o → try (out_in w o) next ≡ out_in w (write (us ++ vs) w.buf w.len)
    go o e =
        let ran : Ran us w.buf w.len o.bytes o.at o.done = record { same_bytes = cc; same_at = cc; same_done = cc } in
        by_test o.done
        (λ t. rw t (h _ refl refl ∙ sym (ap (out_in w) (run_next ran t vs))))
        (λ t. let stop = run_stop ran t vs in rw t (stopped o stop.same_bytes stop.same_at (sym t ∙ stop.same_done)))
      where
        stopped : (o : Out) → o.bytes ≡ (write (us ++ vs) w.buf w.len).bytes → o.at ≡ (write (us ++ vs) w.buf w.len).at
            → false ≡ (write (us ++ vs) w.buf w.len).done
            → ◌≡◌ {A = WriteResult} (record { is_ok = false; writer = record { buf = o.bytes; len = o.at; crc = w.crc; asyncmap = w.asyncmap } }) (out_in w (write (us ++ vs) w.buf w.len))
        stopped o a b c = rw (a, b, ← c) refl

-- ---- the calls

pub start_is : (w : FrameWriter) → start w ≡ out_in (with_crc w 0x3DE3) (write (start_units w.asyncmap) w.buf w.len)
unfolding start crc16 units
start_is w = raw_then (with_crc w 0x3DE3) (0x7E ∷ 0xFF ∷ []) _ _ (λ v p q. escaped_is v (0x03 ∷ []) ∙ rw (p, q) refl)

pub finish_is : (w : FrameWriter) → finish w ≡ out_in w (write (finish_units w.asyncmap w.crc) w.buf w.len)
unfolding finish
finish_is w =
    rw (escaped_is w (check_bytes w.crc))
    (run_then w (units w.asyncmap (check_bytes w.crc)) ((0x7E ∷ []) ∷ []) _ (λ v p q. raw_is v (0x7E ∷ []) ∙ rw (p, q) refl))

-- the check value changes only where all fitted
abbrev appended : FrameWriter → ℕ → Out → WriteResult
appended w c o = out_in (with_crc w (cond o.done c w.crc)) o

pub append_is : (w : FrameWriter) (bs : List ℕ) → Bytes bs
    → append w bs ≡ appended w (fcs w.crc bs) (write (units w.asyncmap bs) w.buf w.len)
unfolding append
append_is w bs h = rw (escaped_is w bs) (go (write (units w.asyncmap bs) w.buf w.len))
  where
    go : (o : Out) → try (out_in w o) (λ v. record { is_ok = true; writer = with_crc v (crc16 v.crc bs) }) ≡ appended w (fcs w.crc bs) o
    go o = by_test o.done (λ t. rw (t, same-crc16 w.crc bs h) refl) (λ t. rw t refl)

-- what our calls promise is what the original does
same_write : {us : List (List ℕ)} {full crc : ℕ} {w w' : ours.FrameWriter} {buf buf' : List ℕ} {o : Result Unit Refusal} {r : WriteResult} → w.len ≤ length buf
    → Writes us full crc w buf o w' buf'
    → r ≡ out_in (with_crc (view_writer w buf) (cond (write us buf w.len).done crc full)) (write us buf w.len)
    → SameWrite r o w' buf'
same_write {us} {full} {crc} {w} {w'} {buf} h c e =
    let l = le-leb w.len (length buf) h in
    record {
      number = rw (l, ← ap (λ (x : WriteResult). x.is_ok) e) at c.number;
      writer = rw (rw l at c.writer, rw l at c.bytes) (sym (ap (λ (x : WriteResult). x.writer) e));
    }

module _ (w : ours.FrameWriter) (buf : List ℕ) (room : w.len ≤ length buf) {o : Result Unit Refusal} {w' : ours.FrameWriter} {buf' : List ℕ} where
  pub same_start : Starts w buf o w' buf' → SameWrite (start (view_writer w buf)) o w' buf'
  same_start c = same_write room c (start_is (view_writer w buf) ∙ go (write (start_units w.asyncmap) buf w.len))
    where
      go : (x : Out) → out_in (with_crc (view_writer w buf) 0x3DE3) x ≡ out_in (with_crc (view_writer w buf) (cond x.done 0x3DE3 0x3DE3)) x
      go x = by_test x.done (λ t. rw t refl) (λ t. rw t refl)

  pub same-append : (bs : List ℕ) → Bytes bs → Appends bs w buf o w' buf'
      → SameWrite (append (view_writer w buf) bs) o w' buf'
  same-append bs h c = same_write room c (append_is (view_writer w buf) bs h)

  pub same-finish : Finishes w buf o w' buf' → SameWrite (finish (view_writer w buf)) o w' buf'
  same-finish c = same_write room c (finish_is (view_writer w buf) ∙ go (write (finish_units w.asyncmap w.crc) buf w.len))
    where
      go : (x : Out) → out_in (view_writer w buf) x ≡ out_in (with_crc (view_writer w buf) (cond x.done w.crc w.crc)) x
      go x = by_test x.done (λ t. rw t refl) (λ t. rw t refl)

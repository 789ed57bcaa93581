use mathlib.Core.Path.{◌≡◌, refl}
use mathlib.Core.List.{List}
use Prim.Native.Nat.{ℕ, min}
use borrow.Author.Tests.{eq-eqb, ne_eqb, lt-ltb, le-ltb}
use lib.ListN.{length, take}
use Rattle.std.proofs.lemmas.List.{take_min}
use Rattle.framing.specs.Reader.{fault_in}
use Rattle.framing.proofs.frame_reader.FrameReader.fault.Goals as goal

-- what is looked at is what is kept
kept : (n m : ℕ) (l : List ℕ) → m ≡ min n (length l) → take m l ≡ take n l
kept n m l e = rw e (take_min n l)

pub returns-then-kept-lt3 : goal.returns-then-kept-lt3
unfolding fault_in
returns-then-kept-lt3 c =
    rw (← c.aborts.ensures, c.if-aborts.false, ← kept c.args.self.len _ c.args.buf.now c.min.ensures, lt-ltb _ _ c.if-kept-lt3.true) refl

pub returns-then-kept-ne3 : goal.returns-then-kept-ne3
unfolding fault_in
returns-then-kept-ne3 c =
    rw (← c.aborts.ensures, c.if-aborts.false, ← kept c.args.self.len _ c.args.buf.now c.min.ensures, le-ltb _ _ c.if-kept-lt3.false, ne_eqb _ _ c.if-kept-ne3.true) refl

pub returns-then-crc16 : goal.returns-then-crc16
unfolding fault_in
returns-then-crc16 c =
    rw (← c.aborts.ensures, c.if-aborts.false, ← kept c.args.self.len _ c.args.buf.now c.min.ensures, le-ltb _ _ c.if-kept-lt3.false, eq-eqb _ _ c.if-kept-ne3.false, ← c.crc16.ensures, ne_eqb _ _ c.if-crc16.true) refl

pub returns : goal.returns
unfolding fault_in
returns c =
    rw (← c.aborts.ensures, c.if-aborts.false, ← kept c.args.self.len _ c.args.buf.now c.min.ensures, le-ltb _ _ c.if-kept-lt3.false, eq-eqb _ _ c.if-kept-ne3.false, ← c.crc16.ensures, eq-eqb _ _ c.if-crc16.false) refl

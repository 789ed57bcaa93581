use mathlib.Core.Path.{◌≡◌, sym, subst⁻¹, ◌∙◌}
use mathlib.Core.Bool.{true, false}
use native.Mathlib.Omega.{arith}
use lib.ListN.{length, drop, get_or}
use Rattle.framing.specs.Reader.{held, full}
use Rattle.framing.proofs.Reader.{Kept, step_kept, fed_stop, fed-next, fed_end, consumes_short, consumes_at, complete_same}
use Rattle.framing.proofs.Dropping.{counted_next, counted_stop, counted_end, dropped_short, dropped-drops}
use Rattle.framing.proofs.frame_reader.FrameReader.consume.Goals as goal

pub returns-then-buf-self-clause-consumes : goal.returns-then-buf-self-clause-consumes
returns-then-buf-self-clause-consumes c = let a = c.args in
    consumes_short (held a.self a.buf.now) a.src.now c.if-buf-self.true

pub returns-then-buf-self-clause-drops_value : goal.returns-then-buf-self-clause-drops_value
returns-then-buf-self-clause-drops_value c = let a = c.args in
    c.none-drops.ensures ∙ sym (dropped_short (held a.self a.buf.now) a.src.now c.if-buf-self.true)

stopped : (c : goal.Then-eq) → full (held c.loop-i.reader c.loop-i.buf) ≡ true
stopped c = sym (complete_same c.loop-i.reader.state) ∙ sym c.eq.ensures ∙ c.if-eq.true

pub returns-then-eq-clause-consumes : goal.returns-then-eq-clause-consumes
returns-then-eq-clause-consumes c =
    let a = c.args in
    let s = held c.loop-i.reader c.loop-i.buf in
    consumes_at (held a.self a.buf.now) s c.loop-i.i a.src.now c.if-buf-self.false c.loop-i.invariant.0
    (c.loop-i.invariant.2 ∙ fed_stop s (drop c.loop-i.i a.src.now) (stopped c))

pub returns-then-eq-clause-drops_value : goal.returns-then-eq-clause-drops_value
returns-then-eq-clause-drops_value c =
    let a = c.args in
    counted_stop a.src.now c.loop-i.invariant.3 (stopped c) ∙ sym (dropped-drops (held a.self a.buf.now) a.src.now c.if-buf-self.false)

pub loop-i-preserved : goal.loop-i-preserved
loop-i-preserved c =
    let a = c.args in
    let s = held c.loop-i.reader c.loop-i.buf in
    let b = get_or a.src.now c.loop-i.i 0 in
    let e = c.step-stepped.ensures in
    let more : full s ≡ false = sym (complete_same s.reader.state) ∙ sym c.eq.ensures ∙ c.if-eq.false in (
      omega arith,
      subst⁻¹ (Kept (length a.buf.now)) e.0 (step_kept (length a.buf.now) s b c.loop-i.invariant.1),
      c.loop-i.invariant.2 ∙ rw e.0 (fed-next s c.loop-i.i a.src.now (omega arith) more),
      rw (e.0, c.noted-drops.ensures, e.1) (counted_next a.src.now c.loop-i.invariant.3 (omega arith) more),
    )

-- at the end every byte is taken
done : (c : goal.After-loop-i) → c.loop-i.i ≡ length c.args.src.now
done c = omega arith

pub returns-clause-consumes : goal.returns-clause-consumes
returns-clause-consumes c =
    let a = c.args in
    let s = held c.loop-i.reader c.loop-i.buf in
    rw (sym (done c))
    (consumes_at (held a.self a.buf.now) s c.loop-i.i a.src.now c.if-buf-self.false c.loop-i.invariant.0
    (c.loop-i.invariant.2 ∙ fed_end s c.loop-i.i a.src.now (omega arith)))

pub returns-clause-drops_value : goal.returns-clause-drops_value
returns-clause-drops_value c =
    let a = c.args in
    counted_end a.src.now c.loop-i.invariant.3 (omega arith) ∙ sym (dropped-drops (held a.self a.buf.now) a.src.now c.if-buf-self.false)

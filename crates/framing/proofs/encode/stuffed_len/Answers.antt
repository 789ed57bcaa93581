use mathlib.Core.Path.{◌≡◌, ap}
use mathlib.Core.List.{[]}
use Prim.Native.Nat.{◌+◌}
use native.Mathlib.Omega.{arith}
use lib.ListN.{length, drop, get_or, length-append, drop_of_length-le}
use Rattle.framing.specs.Rfc1662.{unit, stuffed}
use Rattle.framing.proofs.Stuffing.{stuffed-drop}
use Rattle.framing.proofs.encode.stuffed_len.Goals as goal

pub loop-b-preserved : goal.loop-b-preserved
loop-b-preserved c =
    let a = c.args in
    let i = c.loop-b.b-index in
    let s = a.src.now in
    omega (arith, ap length (stuffed-drop a.asyncmap s i (omega arith)), length-append (unit a.asyncmap (get_or s i 0)) (stuffed a.asyncmap (drop (i + 1) s)), c.unit_len-n.ensures.0, c.unit_len-n.ensures.1)

pub returns : goal.returns
unfolding stuffed
returns c = let k : drop c.loop-b.b-index c.args.src.now ≡ [] = drop_of_length-le c.args.src.now (omega arith) in
    let e = rw k at c.loop-b.invariant.1 in
    (omega (arith, e), omega arith)

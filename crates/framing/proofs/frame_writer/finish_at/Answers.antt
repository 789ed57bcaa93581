use mathlib.Core.Path.{refl}
use mathlib.Core.List.{[], ◌∷◌}
use Prim.Native.Nat.{◌/◌}
use lib.Bits.{bit_xor}
use Rattle.laws.proofs.Passed.{passed}
use Rattle.framing.specs.Rfc1662.{unit}
use Rattle.framing.specs.Writer.{units}
use Rattle.framing.proofs.Run.{run_stop, run_then}
use Rattle.framing.proofs.frame_writer.finish_at.Goals as goal

pub returns-in_err-at : goal.returns-in_err-at
unfolding units
returns-in_err-at c =
    let high = unit c.args.asyncmap (bit_xor c.args.crc 0xFFFF / 256) in
    let low = rw c.check_bytes.ensures at c.in_err-at.ensures in
    rw (passed _ _ c.from_residual.ensures.1) (run_stop (run_stop low refl (high ∷ [])) refl ((0x7E ∷ []) ∷ []))

pub returns-in_err-at-2 : goal.returns-in_err-at-2
unfolding units
returns-in_err-at-2 c =
    let low = rw c.check_bytes.ensures at c.in_ok-at.ensures in
    let high = rw c.check_bytes.ensures at c.in_err-at-2.ensures in
    rw (passed _ _ c.from_residual-in_err-at-2.ensures.1) (run_stop (run_then low refl high) refl ((0x7E ∷ []) ∷ []))

pub returns : goal.returns
unfolding units
returns c =
    let low = rw c.check_bytes.ensures at c.in_ok-at.ensures in
    let high = rw c.check_bytes.ensures at c.in_ok-at-2.ensures in
    run_then (run_then low refl high) refl c.append_one.ensures

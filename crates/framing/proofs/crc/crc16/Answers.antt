use mathlib.Core.Path.{◌≡◌, sym, subst, ◌∙◌}
use Prim.Native.Nat.{ℕ, ◌<◌, ◌^◌}
use native.Mathlib.Omega.{arith}
use Rattle.framing.specs.Rfc1662.{fcs}
use Rattle.framing.proofs.Fcs.{fcs_turn, fcs_end, fcs_lt}
use Rattle.framing.proofs.crc.crc16.Goals as goal

pub loop-b-preserved : goal.loop-b-preserved
loop-b-preserved c =
    fcs_turn _ _ c.loop-b.b-index c.args.src.now (omega arith) c.step_by_table-s.ensures c.loop-b.invariant

whole : (c : goal.After-loop-b) → c.loop-b.s ≡ fcs c.args.seed c.args.src.now
whole c = sym (fcs_end _ c.loop-b.b-index c.args.src.now (omega arith)) ∙ c.loop-b.invariant

pub overflow_cast-result : goal.overflow_cast-result
overflow_cast-result c = record { fits = subst (λ (x : ℕ). x < 2 ^ 16) (sym (whole c)) (fcs_lt c.args.seed c.args.src.now c.ranges.seed.fits) }

pub returns : goal.returns
returns c = whole c

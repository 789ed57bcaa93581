use native.Mathlib.Omega.{arith}
use mathlib.Core.Path.{◌∙◌}
use Rattle.options.proofs.Fair.{own_short}
use Rattle.options.proofs.Wires.{push_fresh, push_three}
use Rattle.options.specs.Ipv4cp.{own_ipv4cp}
use Rattle.options.specs.declared.proto.Proto.TheVariants.{Ipv4cp}
use Rattle.options.proofs.ipv4cp.Ipv4cp.own_options.Goals as goal

pub returns : goal.returns
returns c = let n = own_short (Ipv4cp c.args.self) in
    push_fresh (own_ipv4cp c.args.self) (omega (arith, n)) c.blank.ensures.0
    (c.push-2.ensures ∙ rw (c.push.ensures, c.push-b.ensures) (push_three c.blank.result _ _ _ (omega (arith, n, c.blank.ensures.2))))

use native.Mathlib.Omega.{arith}
use Rattle.options.proofs.Fair.{own_short}
use Rattle.options.proofs.Wires.{push_fresh}
use Rattle.options.specs.declared.proto.Proto.TheVariants.{Lcp}
use Rattle.options.proofs.lcp.Lcp.own_options.Goals as goal

pub returns : goal.returns
returns c = push_fresh _ (omega (arith, own_short (Lcp c.args.self))) c.blank.ensures.0 c.push_field.ensures

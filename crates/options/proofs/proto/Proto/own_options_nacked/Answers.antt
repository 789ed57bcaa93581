use Prim.Native.Nat.{◌≤◌}
use mathlib.Core.Path.{◌≡◌, sym, ◌∙◌}
use native.Mathlib.Omega.{arith}
use lib.ListN.{length, length-drop}
use Rattle.std.proofs.Common.{Some}
use Rattle.options.specs.Options.{option_of}
use Rattle.options.proofs.Walks.{some_left, none_left, option_len_lem, rest}
use Rattle.options.proofs.Judging.{nacks_done, nacks_cut, nacks_on}
use Rattle.options.proofs.proto.Proto.own_options_nacked.Goals as goal

pub returns-in_default : goal.returns-in_default
returns-in_default c = let l = c.loop-t in
    sym (l.invariant.1 ∙ nacks_cut _ l.q _ l.t.now (some_left c.is_empty.ensures c.loop-t-test.true) (sym c.parse_option.ensures ∙ c.in_default.is))

pub loop-t-preserved : goal.loop-t-preserved
loop-t-preserved c =
    let parsed : option_of c.loop-t.t.now ≡ Some c.in-Some.field-0 = sym c.parse_option.ensures ∙ c.in-Some.is in
    let lens : (2 ≤ c.in-Some.field-0.len) × (c.in-Some.field-0.len ≤ length c.loop-t.t.now) = option_len_lem c.loop-t.t.now _ parsed in
    let l = c.loop-t in (
      rw (rest, length-drop) (omega (arith, lens)),
      l.invariant.1 ∙ nacks_on _ l.q _ l.t.now _ _ (some_left c.is_empty.ensures c.loop-t-test.true) parsed l.invariant.0 c.own_option_nacked-q.ensures,
    )

pub returns : goal.returns
returns c = let l = c.loop-t in
    sym (l.invariant.1 ∙ nacks_done _ l.q _ l.t.now (none_left c.is_empty.ensures c.loop-t-test.false))

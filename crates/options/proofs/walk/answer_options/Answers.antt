use Prim.Native.Nat.{◌≤◌}
use mathlib.Core.Path.{◌≡◌, sym, ◌∙◌}
use native.Mathlib.Omega.{arith}
use lib.ListN.{length, length-drop}
use Rattle.std.proofs.Common.{Some}
use Rattle.options.specs.Options.{option_of}
use Rattle.options.proofs.Walks.{some_left, none_left, option_len_lem, rest}
use Rattle.options.proofs.Replying.{ready_refused, not_done, done_on, reply_done, reply_cut, reply_stop, reply_on}
use Rattle.options.proofs.walk.answer_options.Goals as goal

pub returns-in_default : goal.returns-in_default
returns-in_default c = let l = c.loop-t in (
  rw (← c.fresh-r.ensures.0) (c.refused.ensures
      ∙ sym (l.invariant.2 ∙ reply_cut l.r _ l.t.now (some_left c.is_empty.ensures c.loop-t-test.true)
      (sym c.parse_option.ensures ∙ c.in_default.is))),
  ready_refused l.invariant.1 c.refused.ensures,
)

pub returns-then-is_err : goal.returns-then-is_err
returns-then-is_err c =
    let parsed : option_of c.loop-t.t.now ≡ Some c.in-Some.field-0 = sym c.parse_option.ensures ∙ c.in-Some.is in
    let l = c.loop-t in (
      rw (← c.fresh-r.ensures.0)
          (sym (l.invariant.2 ∙ reply_stop l.r _ l.t.now _ _ (some_left c.is_empty.ensures c.loop-t-test.true) parsed l.invariant.0 c.answer_option-r.ensures.0
          (not_done c.answer_option-r.result.outcome c.is_err.ensures.value c.if-is_err.true))),
      c.answer_option-r.ensures.1,
    )

pub loop-t-preserved : goal.loop-t-preserved
loop-t-preserved c =
    let parsed : option_of c.loop-t.t.now ≡ Some c.in-Some.field-0 = sym c.parse_option.ensures ∙ c.in-Some.is in
    let lens : (2 ≤ c.in-Some.field-0.len) × (c.in-Some.field-0.len ≤ length c.loop-t.t.now) = option_len_lem c.loop-t.t.now _ parsed in
    let l = c.loop-t in (
      rw (rest, length-drop) (omega (arith, lens)),
      c.answer_option-r.ensures.1,
      l.invariant.2 ∙ reply_on l.r _ l.t.now _ _ (some_left c.is_empty.ensures c.loop-t-test.true) parsed l.invariant.0 c.answer_option-r.ensures.0
          (done_on c.answer_option-r.result.outcome c.is_err.ensures.value c.if-is_err.false),
    )

pub returns : goal.returns
returns c = let l = c.loop-t in
    (rw (← c.fresh-r.ensures.0) (sym (l.invariant.2 ∙ reply_done l.r _ l.t.now (none_left c.is_empty.ensures c.loop-t-test.false))), l.invariant.1)

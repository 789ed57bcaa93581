use Prim.Native.Nat.{◌+◌}
use mathlib.Core.Path.{sym, ◌∙◌}
use borrow.Author.Rules.{rules}
use native.Mathlib.Omega.{arith}
use Rattle.options.proofs.Wires.{push_fresh, pushes}
use Rattle.options.proofs.Replying.{is_lower, not_lower, same_rank, listed_lower, listed_long, listed_higher, listed_many, listed_more, listing_of, ready_refused}
use Rattle.options.proofs.walk.Reply.list.Goals as goal

pub returns-then-outranks : goal.returns-then-outranks
returns-then-outranks c = let a = c.args in (
  sym (listed_lower a.self a.j.proto a.j.verdict a.code a.d.now (is_lower a.j.verdict a.self.verdict c.outranks.ensures c.if-outranks.true)),
  search rules,
)

pub returns-then-d-gt-MAX_OPTION_LEN : goal.returns-then-d-gt-MAX_OPTION_LEN
returns-then-d-gt-MAX_OPTION_LEN c = let a = c.args in (
  c.refused.ensures ∙ sym (listed_long a.self a.j.proto a.j.verdict a.code a.d.now (not_lower a.j.verdict _ c.outranks.ensures c.if-outranks.false) (omega arith)),
  ready_refused c.requires c.refused.ensures,
)

pub returns-then-outranks-2 : goal.returns-then-outranks-2
returns-then-outranks-2 c = let a = c.args in
    let h = pushes c.push_option.ensures c.blank.ensures.1 (omega arith) in
    let e = push_fresh _ (omega arith) c.blank.ensures.0 c.push_option.ensures in (
      listing_of a.j.verdict 1 _ a.j.proto e ∙ sym (listed_higher a.self a.j.proto a.j.verdict a.code a.d.now (is_lower a.self.verdict a.j.verdict c.outranks-2.ensures c.if-outranks-2.true) (omega arith)),
      record { tidy = h.tidy; most = omega arith; room = omega (arith, h.len) },
    )

pub returns-then-self-ge-MAX_OPTIONS : goal.returns-then-self-ge-MAX_OPTIONS
returns-then-self-ge-MAX_OPTIONS c = let a = c.args in (
  c.refused-then-self-ge-MAX_OPTIONS.ensures ∙ sym (listed_many a.self a.j.proto a.j.verdict a.code a.d.now (same_rank a.j.verdict a.self.verdict c.outranks.ensures c.if-outranks.false c.outranks-2.ensures c.if-outranks-2.false) (omega arith) (omega arith)),
  ready_refused c.requires c.refused-then-self-ge-MAX_OPTIONS.ensures,
)

pub returns : goal.returns
returns c = let a = c.args in
    let h = pushes c.push_option-2.ensures c.requires.tidy (omega (arith, c.requires.room)) in (
      listing_of a.j.verdict (a.self.count + 1) _ a.j.proto h.is
          ∙ sym (listed_more a.self a.j.proto a.j.verdict a.code a.d.now (same_rank a.j.verdict a.self.verdict c.outranks.ensures c.if-outranks.false c.outranks-2.ensures c.if-outranks-2.false) (omega arith) (omega arith)),
      record { tidy = h.tidy; most = omega arith; room = omega (arith, h.len, c.requires.room) },
    )

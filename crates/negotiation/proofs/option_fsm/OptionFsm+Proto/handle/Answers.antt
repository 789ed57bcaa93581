use Rattle.std.proofs.Common.{ℕ, ◌+◌, ap, arith, rules, lt-ltb}
use Rattle.negotiation.specs.Automaton.{handle_of}
use Rattle.negotiation.proofs.Automata.{handle-over, handle_in}
use Rattle.negotiation.proofs.option_fsm.OptionFsm+Proto.handle.Goals as goal

pub returns-then-p-lt6 : goal.returns-then-p-lt6
unfolding handle_of
returns-then-p-lt6 c = search (rules, lt-ltb, c.ignore.ensures)

pub returns-then-p-n : goal.returns-then-p-n
returns-then-p-n c = let a = c.args in
    handle-over a.self a.p.now (omega arith) (ap (λ (x : ℕ). x + 2) c.length_in.ensures) (omega arith) c.ignore-then-p-n.ensures

pub returns : goal.returns
returns c = let a = c.args in
    handle_in a.self a.p.now (omega arith) (ap (λ (x : ℕ). x + 2) c.length_in.ensures) (omega arith) c.act.ensures

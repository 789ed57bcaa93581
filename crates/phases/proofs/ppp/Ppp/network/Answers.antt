use mathlib.Core.Path.{◌≡◌, sym, ◌∙◌}
use mathlib.Core.Bool.{true, false}
use Rattle.negotiation.specs.Automaton.{is_opened}
use Rattle.phases.specs.Phases.{network_of}
use Rattle.phases.proofs.ppp.Ppp.network.Goals as goal

pub returns-then-is_opened : goal.returns-then-is_opened
unfolding network_of
returns-then-is_opened c =
    let up : is_opened c.args.self.ipv4cp.state ≡ true = sym c.is_opened.ensures ∙ c.if-is_opened.true in
    rw up c.still.ensures

pub returns : goal.returns
unfolding network_of
returns c =
    let down : is_opened c.args.self.ipv4cp.state ≡ false = sym c.is_opened.ensures ∙ c.if-is_opened.false in
    rw down c.still-2.ensures

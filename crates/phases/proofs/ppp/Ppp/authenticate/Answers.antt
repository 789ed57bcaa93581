use mathlib.Core.Path.{◌≡◌, sym, ◌∙◌}
use mathlib.Core.Bool.{true, false}
use Rattle.negotiation.specs.Auth.{is_auth_opened}
use Rattle.phases.specs.Phases.{auth_of}
use Rattle.phases.proofs.ppp.Ppp.authenticate.Goals as goal

pub returns-then-opened : goal.returns-then-opened
unfolding auth_of
returns-then-opened c =
    let up : is_auth_opened c.args.self.auth ≡ true = sym c.opened.ensures ∙ c.if-opened.true in
    rw up c.open_ipv4cp.ensures

pub returns : goal.returns
unfolding auth_of
returns c =
    let down : is_auth_opened c.args.self.auth ≡ false = sym c.opened.ensures ∙ c.if-opened.false in
    rw down (rw c.close_ipv4cp.ensures at c.still.ensures)

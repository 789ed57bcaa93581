use mathlib.Core.Path.{◌≡◌, refl, ap, sym, ◌∙◌}
use mathlib.Core.Bool.{true, false}
use Rattle.phases.specs.declared.ppp.Ppp.{Ppp}
use Rattle.options.specs.declared.lcp.AuthType.{AuthType}
use Rattle.phases.specs.Phases.{by_auth, stepped_as, establish_of}
use Rattle.negotiation.specs.Automaton.{is_closed, is_opened}
use Rattle.phases.proofs.ppp.Ppp.establish.Goals as goal

by_auth_lem : {a : AuthType} (p : Ppp) → p.lcp.proto.auth ≡ a → stepped_as (by_auth a p) ≡ stepped_as (by_auth p.lcp.proto.auth p)
by_auth_lem p e = sym (ap (λ (a : AuthType). stepped_as (by_auth a p)) e)

pub returns-then-is_closed : goal.returns-then-is_closed
unfolding establish_of
returns-then-is_closed c =
    let closed : is_closed c.args.self.lcp.state ≡ true = sym c.is_closed.ensures ∙ c.if-is_closed.true in
    rw (closed, c.close_ipv4cp.ensures, c.close_auth.ensures, c.open_lcp-o.ensures) refl

pub returns-in-None : goal.returns-in-None
unfolding establish_of
returns-in-None c =
    let shut : is_closed c.args.self.lcp.state ≡ false = sym c.is_closed.ensures ∙ c.if-is_closed.false in
    let up : is_opened c.args.self.lcp.state ≡ true = sym c.is_opened.ensures ∙ c.if-is_opened.true in
    rw (shut, up) (c.open_ipv4cp.ensures ∙ by_auth_lem _ c.in-None.is)

pub returns-in-Pap : goal.returns-in-Pap
unfolding establish_of
returns-in-Pap c =
    let shut : is_closed c.args.self.lcp.state ≡ false = sym c.is_closed.ensures ∙ c.if-is_closed.false in
    let up : is_opened c.args.self.lcp.state ≡ true = sym c.is_opened.ensures ∙ c.if-is_opened.true in
    rw (shut, up) (c.open_auth.ensures ∙ by_auth_lem _ c.in-Pap.is)

pub returns : goal.returns
unfolding establish_of
returns c =
    let shut : is_closed c.args.self.lcp.state ≡ false = sym c.is_closed.ensures ∙ c.if-is_closed.false in
    let down : is_opened c.args.self.lcp.state ≡ false = sym c.is_opened.ensures ∙ c.if-is_opened.false in
    rw (shut, down) (rw (c.close_ipv4cp-2.ensures, c.close_auth-2.ensures) at c.still.ensures)

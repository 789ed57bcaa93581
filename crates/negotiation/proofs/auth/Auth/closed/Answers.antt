use Rattle.std.proofs.Common.{rules}
use Rattle.negotiation.specs.Auth.{is_auth_closed}
use Rattle.negotiation.proofs.auth.Auth.closed.Goals as goal

pub returns : goal.returns
unfolding is_auth_closed
returns c = search rules

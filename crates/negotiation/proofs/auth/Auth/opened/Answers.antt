use Rattle.std.proofs.Common.{rules}
use Rattle.negotiation.specs.Auth.{is_auth_opened}
use Rattle.negotiation.proofs.auth.Auth.opened.Goals as goal

pub returns : goal.returns
unfolding is_auth_opened
returns c = search rules

use Rattle.std.proofs.Common.{refl}
use Rattle.negotiation.specs.Auth.{closed_auth}
use Rattle.negotiation.proofs.auth.Auth.close.Goals as goal

pub returns : goal.returns
unfolding closed_auth
returns c = rw (c.after.ensures, c.close.ensures) refl

use Rattle.negotiation.specs.Auth.{opened_auth}
use Rattle.negotiation.proofs.auth.Auth.open.Goals as goal

pub returns : goal.returns
unfolding opened_auth
returns c = rw c.«open».ensures at c.taken.ensures

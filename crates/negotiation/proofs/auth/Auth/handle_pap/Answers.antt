use Rattle.negotiation.specs.Auth.{auth_handle_of}
use Rattle.negotiation.proofs.auth.Auth.handle_pap.Goals as goal

pub returns : goal.returns
unfolding auth_handle_of
returns c = rw c.handle.ensures at c.taken.ensures

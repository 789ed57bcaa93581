use Rattle.negotiation.specs.Pap.{opened_pap}
use Rattle.negotiation.proofs.pap.Pap.open.Goals as goal

pub returns : goal.returns
unfolding opened_pap
returns c = rw c.with_state.ensures at c.send_configure_request.ensures

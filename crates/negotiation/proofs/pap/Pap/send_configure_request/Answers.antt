use Rattle.std.proofs.Common.{refl, ◌∙◌}
use Rattle.negotiation.specs.Pap.{pap_bytes, pap_requested}
use Rattle.negotiation.proofs.Automata.{one_reply}
use Rattle.negotiation.proofs.pap.Pap.send_configure_request.Goals as goal

pub returns : goal.returns
unfolding pap_requested
returns c = c.new.ensures ∙ rw (c.stepped.ensures, one_reply (pap_bytes c.args.c c.args.self) c.none.ensures.0 c.request_packet.ensures c.add.ensures) refl

use Rattle.std.proofs.Common.{refl, ◌∙◌}
use Rattle.options.proofs.Wires.{content_of_lem}
use Rattle.negotiation.proofs.messages.request_packet.Goals as goal

pub returns : goal.returns
returns c =
    c.emit_packet.ensures ∙ rw (content_of_lem c.own_options.ensures.0, c.protocol.ensures) refl

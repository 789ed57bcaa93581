use mathlib.Core.Path.{refl}
use Rattle.options.specs.Wire.{pkt_of}
use Rattle.options.proofs.wire.Packet.blank.Goals as goal

pub returns : goal.returns
unfolding pkt_of
returns c = (refl, refl, refl)

-- What holds of every link that calls reach.
-- Assumes nothing.
use mathlib.Core.Path.{◌≡◌, ap, ◌∙◌}
use mathlib.Core.Bool.{◌||◌}
use Rattle.framing.specs.Reader.{packet_of}
use Rattle.phases.specs.Phases.{is_dead}
use Rattle.phases.specs.Sound.{Sound}
use Rattle.phases.specs.declared.ppp.Phase.TheVariants.{Dead}
use Rattle.negotiation.specs.declared.states.State.TheVariants.{Closed}
use Rattle.phases.proofs.Sounds.{sound_new, sound_open, sound_turn, sound_poll}
use Rattle.negotiation.proofs.StateTable.{is_closed_lem}
use Rattle.link.specs.Link.{held_by}
use Rattle.link.specs.Reached.{Reached, by_new, by_open, by_consume, by_poll}
use Rattle.link.specs.declared.choices.Choices.{Choices}
use Rattle.link.specs.declared.pppos.PPPoS.{PPPoS}
use Rattle.link.proofs.Leaving.{poll-leaves}

pub reached_sound : {c : Choices} {l : PPPoS} → Reached c l → Sound l.ppp
reached_sound (by_new name password) = sound_new name password
reached_sound (by_open l r) = sound_open (reached_sound r)
reached_sound (by_consume l rx bs r) = reached_sound r
reached_sound (by_poll l tx rx r) =
    let s = reached_sound r in
    poll-leaves (λ m. Sound m.ppp) l tx rx s s (λ _. sound_turn (packet_of (held_by l rx)) s) (sound_poll s)

pub dead_closed : {c : Choices} {l : PPPoS} → Reached c l → l.ppp.phase ≡ Dead → l.ppp.lcp.state ≡ Closed
dead_closed {c} {l} r e = is_closed_lem l.ppp.lcp.state ((reached_sound r).closed ∙ ap (λ f. is_dead f || l.ppp.opening) e)

-- The links that calls reach from one made with the choices c, with any buffers lent and refusals included; send, status and choices
-- leave the link as it is.
use Rattle.std.specs.Prelude.{List, ℕ}
use Rattle.framing.specs.Reader.{consumed}
use Rattle.link.specs.Link.{link_of, held_by, new_link, open_link, poll_link}
use Rattle.link.specs.declared.choices.Choices.{Choices}
use Rattle.link.specs.declared.pppos.PPPoS.{PPPoS}

pub data Reached (c : Choices) : PPPoS → Type 0 where
  by_new : (name password : List ℕ) → Reached c (new_link name password c)
  by_open : (l : PPPoS) → Reached c l → Reached c (open_link l)
  by_consume : (l : PPPoS) (rx bs : List ℕ) → Reached c l → Reached c (link_of (consumed (held_by l rx) bs).now.reader l.ppp)
  by_poll : (l : PPPoS) (tx rx : List ℕ) → Reached c l → Reached c (poll_link l tx rx).link

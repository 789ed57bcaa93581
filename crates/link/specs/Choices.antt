-- What is chosen when a link is made: read off the link, and which choices are plain.
use Rattle.framing.specs.declared.frame_reader.Reading.{Reading}
use Rattle.link.specs.declared.choices.Choices.{Choices}
use Rattle.link.specs.declared.pppos.PPPoS.{PPPoS}

abbrev pub choices_of : PPPoS → Choices
choices_of l = record { reading = l.frame_reader.reading }

-- the links of demands 2 and 3; either reading is plain, and nothing else can be chosen yet
pub record Plain (c : Choices) : Type 0 where

-- the plain choices in a reading
abbrev pub plain_in : Reading → Choices
plain_in k = record { reading = k }

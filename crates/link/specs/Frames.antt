-- Frames one behind the other in a transmit buffer.
use Rattle.std.specs.Prelude.{List, [], ◌∷◌, ◌++◌, ℕ, ◌*◌}
use Rattle.framing.specs.Rfc1662.{frame}
use Rattle.negotiation.specs.Replies.{max_replies}

-- until a map is agreed on, every byte below 20 is escaped
abbrev pub every_byte : ℕ
every_byte = 0xFFFFFFFF

-- packets as frames
unfoldable pub frames : List (List ℕ) → List ℕ
frames [] = []
frames (p ∷ ps) = frame every_byte p ++ frames ps

-- the longest frame of a reply: max_packet bytes, the check value and 03 all escaped, with two flags and FF
abbrev pub max_frame : ℕ
max_frame = 265

-- with so much room a call's frames always fit
abbrev pub always_enough : ℕ
always_enough = max_replies * max_frame

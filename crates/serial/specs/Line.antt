-- A fresh link with its buffers, and what received bytes make of it.
use Rattle.std.specs.Prelude.{List, ℕ, replicate}
use Rattle.feeding.specs.Feed.{started, fed_link, Progress}
use Rattle.link.specs.Link.{Poll}
use Rattle.link.specs.Choices.{plain_in}
use Rattle.framing.specs.declared.frame_reader.Reading.TheVariants.{Crate}

-- a fresh link in the crate's reading, opened and polled once, with n bytes to transmit from
abbrev pub begun : ℕ → Poll
begun n = started (plain_in Crate) (replicate n 0) (replicate 1600 0)

-- what the bytes bs make of it
abbrev pub heard : ℕ → List ℕ → Progress
heard n bs = fed_link (begun n).link (begun n).tx (begun n).rx bs

-- How a frame arrives: byte by byte in silence, and complete with its last byte.
use Rattle.std.specs.Prelude.{◌≡◌, true, false, List, [], ◌∷◌, ◌++◌, ◌⊎◌, ℕ, ◌+◌, length}
use Rattle.laws.specs.Quiet.{Quiet}
use Rattle.framing.specs.Reader.{Held, step, full, packet_of}
use Rattle.framing.specs.Heard.{fetched_in}
use Rattle.framing.specs.declared.frame_reader.State.TheVariants.{Start, Address}

-- between frames, nothing kept, no escape pending
pub record Idle (s : Held) : Type 0 where
  pub between : (s.reader.state ≡ Start) ⊎ (s.reader.state ≡ Address)
  pub clear : s.reader.escape ≡ false
  pub empty : s.reader.len ≡ 0

-- fed w, the reader is quiet up to the last byte, which completes the packet p; fetched, it is between frames again
pub record Arrives (s : Held) (w p : List ℕ) : Type 0 where
  pub body : List ℕ
  pub last : ℕ
  pub before : Held
  pub whole : w ≡ body ++ (last ∷ [])
  pub quiet : Quiet step full s body before
  pub filled : full (step before last) ≡ true
  pub kept : (step before last).reader.len ≡ length p + 3
  pub packet : packet_of (step before last) ≡ p
  pub idle : Idle (fetched_in (step before last))
  pub same_reading : (step before last).reader.reading ≡ s.reader.reading
  pub same_room : length (step before last).buf ≡ length s.buf

-- A frame's end in standard reading. Document 02, 2/12: with an escape pending the frame is discarded, whatever its check. Document 01,
-- 'Reader' and 'Standard reading': otherwise it is judged as usual; an end that is not good keeps nothing and leads to Address; any end
-- clears the escape.
use Rattle.std.specs.Prelude.{◌≡◌, Bool, false, cond, not, ◌&&◌, take}
use Rattle.framing.specs.Reader.{fault_in, is_good, Held}
use Rattle.framing.specs.declared.frame_reader.State.{State}
use Rattle.framing.specs.declared.frame_reader.State.TheVariants.{Start, Address, Data, Complete}
use Rattle.framing.specs.declared.frame_reader.Reading.TheVariants.{Standard}
use Rattle.framing.specs.declared.frame_reader.FrameReader.{FrameReader}

-- a frame's end is good: no escape is pending, and nothing is wrong with the kept bytes
abbrev pub ends_good : Held → Bool
ends_good s = not s.reader.escape && is_good (fault_in (take s.reader.len s.buf))

-- a frame's end takes s to t
pub record EndsClean (s t : Held) : Type 0 where
  pub state : t.reader.state ≡ cond (ends_good s) Complete Address
  pub kept : t.reader.len ≡ cond (ends_good s) s.reader.len 0
  pub cleared : t.reader.escape ≡ false
  pub bytes : t.buf ≡ s.buf

-- an escape is pending inside a frame only, and bytes are kept there and of a complete frame only
abbrev pub CleanIn : State → FrameReader → Type 0
CleanIn Start r = (r.escape ≡ false) × (r.len ≡ 0)
CleanIn Address r = (r.escape ≡ false) × (r.len ≡ 0)
CleanIn Data r = Unit {0}
CleanIn Complete r = r.escape ≡ false

pub record Clean (r : FrameReader) : Type 0 where
  pub standard : r.reading ≡ Standard
  pub clean : CleanIn r.state r

-- Document 01's refusal table for framing's calls, from its words alone: of framing's definitions it names RFC 1662's and the records.
-- The check value (`crc16`, `crc16_by_formula`, `step`, `ppp_crc16`), `frame_len`, `len`, `u8::from` and each `new` refuse nothing: their promise is a value for every input.
use Rattle.std.specs.Prelude.{◌≡◌, cond, ℕ, ◌+◌, ◌≤◌, ◌<◌, eqb, length, take, drop}
use mathlib.Core.List.{List, [], ◌∷◌, ◌++◌, map, flatten}
use Rattle.framing.specs.Rfc1662.{fcs, check_bytes, fields, unit, frame}
use Rattle.framing.specs.declared.drops.Drops.{Drops}
use Rattle.framing.specs.declared.frame_reader.FrameReader.{FrameReader}
use Rattle.framing.specs.declared.frame_reader.State.TheVariants.{Address, Complete}
use Rattle.framing.specs.declared.frame_writer.FrameWriter.{FrameWriter}
use Rattle.refusals.specs.Rows.{Row, row}

-- ---- units in a lent buffer

-- buf with bs from index at on; before and behind them all stays
abbrev pub placed : ℕ → List ℕ → List ℕ → List ℕ
placed at bs buf = take at buf ++ bs ++ drop (at + length bs) buf

-- the most of these units, from the first on, that fit into buf from index at on stand there; all else stays
pub record Fitted (us : List (List ℕ)) (at : ℕ) (buf buf' : List ℕ) : Type 0 where
  pub number : ℕ
  pub fit : at + length (flatten (take number us)) ≤ length buf
  pub most : number < length us → length buf < at + length (flatten (take (number + 1) us))
  pub bytes : buf' ≡ placed at (flatten (take number us)) buf

-- ---- the writer

-- what a call of the writer writes, and the check value that it leaves under refusal 1 and where it is done
pub record Writing : Type 0 where
  pub units : List (List ℕ)
  pub refused : ℕ
  pub done : ℕ

-- 7E FF is one unit; `start` sets the check value to 3DE3 even under refusal 1
abbrev pub starting : FrameWriter → Writing
starting w = record { units = (0x7E ∷ 0xFF ∷ []) ∷ unit w.asyncmap 0x03 ∷ []; refused = 0x3DE3; done = 0x3DE3 }

-- each escaped or plain byte is one unit; `append` refused: the check value is the old one
abbrev pub appending : List ℕ → FrameWriter → Writing
appending bs w = record { units = map (unit w.asyncmap) bs; refused = w.crc; done = fcs w.crc bs }

-- two check bytes, then 7E; `finish` never changes the check value
abbrev pub finishing : FrameWriter → Writing
finishing w = record { units = map (unit w.asyncmap) (check_bytes w.crc) ++ ((0x7E ∷ []) ∷ []); refused = w.crc; done = w.crc }

-- what a call of the writer leaves: the writer and the buffer that was lent
pub record Left : Type 0 where
  pub writer : FrameWriter
  pub bytes : List ℕ

-- the whole units that fitted stay and the length counts them; the map stays
pub record Stopped (c : Writing) (w : FrameWriter) (buf : List ℕ) (a : Left) : Type 0 where
  pub units : Fitted c.units w.len buf a.bytes
  pub writer : a.writer ≡ record { len = w.len + length (flatten (take units.number c.units)); crc = c.refused; asyncmap = w.asyncmap }

-- 3: lent buffer under the kept length | unchanged; 1: the writer's units don't fit | the units that fitted
abbrev pub writer_rows : Writing → FrameWriter → List ℕ → List (Row Left)
writer_rows c w buf =
    row 3 (length buf < w.len) (λ a. (a.writer ≡ w) × (a.bytes ≡ buf))
    ∷ row 1 (length buf < w.len + length (flatten c.units)) (Stopped c w buf)
    ∷ []

-- what it leaves where nothing is refused: all units behind the old length
abbrev pub all_written : Writing → FrameWriter → List ℕ → Left
all_written c w buf =
    record {
      writer = record { len = w.len + length (flatten c.units); crc = c.done; asyncmap = w.asyncmap };
      bytes = placed w.len (flatten c.units) buf;
    }

-- ---- the encoding of one packet, also for C

-- what it leaves: the count and the buffer that was lent
pub record Counted : Type 0 where
  pub count : ℕ
  pub bytes : List ℕ

-- 7E FF is one unit, each escaped or plain byte is one unit
abbrev pub units_of : ℕ → List ℕ → List (List ℕ)
units_of m p = (0x7E ∷ 0xFF ∷ []) ∷ (map (unit m) (drop 1 (fields p)) ++ ((0x7E ∷ []) ∷ []))

-- 1: the writer's units don't fit | the units that fitted; the count is 0
abbrev pub encode_rows : ℕ → List ℕ → List ℕ → List (Row Counted)
encode_rows m p buf = row 1 (length buf < length (frame m p)) (λ w. (w.count ≡ 0) × Fitted (units_of m p) 0 buf w.bytes) ∷ []

-- what it leaves where nothing is refused: the whole frame from the front
abbrev pub whole_frame : ℕ → List ℕ → List ℕ → Counted
whole_frame m p buf = record { count = length (frame m p); bytes = placed 0 (frame m p) buf }

-- the C function answers the count alone: 0 stands for refusal 1
abbrev pub answer_number : ℕ → ℕ
answer_number n = cond (eqb n 0) 1 0

-- ---- the reader, by value and in place (`feed`, `fetch`: the same contracts)

-- what a consume leaves, of a reader or of a link: its count, what it reports as dropped, the reader or link, and the receive buffer
pub record Took (A : Type 0) : Type 0 where
  pub count : ℕ
  pub drops : Drops
  pub kept : A
  pub rx : List ℕ

-- document 02, 5/12: a call that gives refusal 3 reports zeros
abbrev pub zeros : Drops
zeros = record { aborted = 0; short = 0; control = 0; check = 0; overrun = 0 }

-- 3: lent buffer under the kept length, len | unchanged, count 0
abbrev pub consume_rows : {A : Type 0} → ℕ → A → List ℕ → List (Row (Took A))
consume_rows len a rx = row 3 (length rx < len) (λ t. (t.count ≡ 0) × (t.drops ≡ zeros) × (t.kept ≡ a) × (t.rx ≡ rx)) ∷ []

-- the reader moves on as if fetched: state Address, nothing kept
abbrev pub moved_on : FrameReader → FrameReader
moved_on r = record { state = Address; escape = r.escape; len = 0; reading = r.reading }

-- 5: Complete with under three bytes kept, which no calls reach | frame dropped
abbrev pub receive_rows : FrameReader → List (Row FrameReader)
receive_rows r = row 5 ((r.state ≡ Complete) × (r.len < 3)) (λ r'. r' ≡ moved_on r) ∷ []

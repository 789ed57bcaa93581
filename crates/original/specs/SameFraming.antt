-- What it says that a call of our framing is the original's.
use Rattle.std.specs.Prelude.{◌≡◌, cond, List, ℕ, ◌^◌, ◌≤◌, ◌<◌, length, None, Some, Result, Ok, Err}
use Rattle.laws.specs.Each.{Bytes}
use Rattle.framing.specs.Refusal as framing
use Rattle.framing.specs.Rfc1662.{fcs}
use Rattle.framing.specs.Writer.{fresh_writer, Starts, Appends, Finishes}
use Rattle.framing.specs.Reader.{held, fresh_reader, Framed, Got, Receives}
use Rattle.framing.specs.Reader as reading
use Rattle.framing.specs.declared.frame_reader.FrameReader as reader
use Rattle.framing.specs.declared.refusal.Refusal as framed
use Rattle.framing.specs.declared.frame_reader.Reading.TheVariants.{Crate}
use Rattle.framing.specs.declared.frame_writer.FrameWriter as writer
use Rattle.original.specs.Run.{returns}
use Rattle.original.specs.Crc.{crc16}
use Rattle.original.specs.Framing.{new_with_asyncmap, WriteResult, start, append, finish, FrameReader, new_reader, Fetch, nothing, range, receive, consume}
use Rattle.original.specs.View.{view_writer, view_reader}

-- a writer's call: done where the original says Ok, refusal 1 where it says Err, and what both leave
pub record SameWrite (r : WriteResult) (o : Result Unit framed.Refusal) (w : writer.FrameWriter) (buf : List ℕ) : Type 0 where
  pub number : framing.outcome_number o ≡ cond r.is_ok 0 1
  pub writer : view_writer w buf ≡ r.writer

-- a packet's range, or nothing, as the original's receive gives it; a refusal has a number of its own
abbrev pub fetch_of : Got → FrameReader → Fetch
fetch_of (Ok (Some p)) r = range p.start p.end r
fetch_of (Ok None) r = nothing r
fetch_of (Err why) r = nothing r

-- framing, each call as its contract has it: a writer lent what it counts, a reader in crate reading lent what it keeps, slices of bytes
pub record SameFraming : Type 0 where
  pub check_value : (seed : ℕ) (bs : List ℕ) → Bytes bs → crc16 seed bs ≡ fcs seed bs
  pub new_writer : (m : ℕ) (buf : List ℕ) → view_writer (fresh_writer m) buf ≡ new_with_asyncmap buf m
  pub start_frame : (w : writer.FrameWriter) (buf : List ℕ) → w.len ≤ length buf → {o : Result Unit framed.Refusal} {w' : writer.FrameWriter} {buf' : List ℕ}
      → Starts w buf o w' buf' → SameWrite (start (view_writer w buf)) o w' buf'
  pub append_bytes : (w : writer.FrameWriter) (buf : List ℕ) → w.len ≤ length buf → {o : Result Unit framed.Refusal} {w' : writer.FrameWriter} {buf' : List ℕ} (bs : List ℕ) → Bytes bs
      → Appends bs w buf o w' buf' → SameWrite (append (view_writer w buf) bs) o w' buf'
  pub finish_frame : (w : writer.FrameWriter) (buf : List ℕ) → w.len ≤ length buf → {o : Result Unit framed.Refusal} {w' : writer.FrameWriter} {buf' : List ℕ}
      → Finishes w buf o w' buf' → SameWrite (finish (view_writer w buf)) o w' buf'
  pub new_reader : view_reader (fresh_reader Crate) ≡ new_reader
  pub consume_bytes : (r : reader.FrameReader) (buf bs : List ℕ) → r.reading ≡ Crate → r.len ≤ length buf → length buf < 2 ^ 64 → Bytes buf → Bytes bs
      → {t : Result ℕ framed.Refusal} {r' : reader.FrameReader} {buf' : List ℕ} → reading.Consumes (held r buf) bs t r' buf'
      → (framing.outcome_number t ≡ 0) × (consume (view_reader r) buf bs ≡ returns (record { count = framing.count_of t; reader = view_reader r'; buf = buf' })) × (r'.reading ≡ Crate)
  pub receive_packet : {r r' : reader.FrameReader} {g : Got} → Receives r g r' → Framed r
      → (framing.outcome_number g ≡ 0) × (receive (view_reader r) ≡ returns (fetch_of g (view_reader r'))) × (r'.reading ≡ r.reading)

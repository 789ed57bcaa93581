-- Document 01's refusal table holds of framing's calls: each row is given exactly when it says, and leaves what it says.
-- Assumes nothing.
use mathlib.Core.Path.{◌≡◌, refl, ◌∙◌}
use mathlib.Core.Bool.{true}
use mathlib.Core.List.{List}
use Prim.Native.Nat.{ℕ}
use Rattle.std.specs.Prelude.{Result}
use Rattle.framing.specs.Rfc1662.{fcs}
use Rattle.framing.specs.Refusal.{outcome_number, count_of}
use Rattle.framing.specs.Writer.{units, start_units, Starts, Appends, Finishes, Lays, Encodes}
use Rattle.framing.specs.Reader.{held, Consumes, Got, Receives}
use Rattle.framing.specs.Drops.{dropped}
use Rattle.framing.specs.declared.drops.Drops.{Drops}
use Rattle.framing.specs.declared.refusal.Refusal.{Refusal}
use Rattle.framing.specs.declared.frame_writer.FrameWriter.{FrameWriter}
use Rattle.framing.specs.declared.frame_reader.FrameReader.{FrameReader}
use Rattle.refusals.specs.Rows.{Row, Exactly}
use Rattle.refusals.specs.Framing.{Writing, starting, appending, finishing, writer_rows, all_written, encode_rows, whole_frame, answer_number, consume_rows, receive_rows}
use Rattle.refusals.proofs.Rows.{distinct, numbers, first_exactly}
use Rattle.refusals.proofs.Units.{units-map}
use Rattle.refusals.proofs.FramingCalls.{Right, writes_right, lays_right, answer_number_lem, consume_right, receive_right}

-- a call that gives n and leaves a: the table, and what it leaves where nothing is refused
pub record Holds {A : Type 0} (rows : List (Row A)) (whole : A) (n : ℕ) (a : A) : Type 0 where
  pub table : Exactly ⊥ rows n a
  pub done : n ≡ 0 → a ≡ whole

abbrev pub WriterHolds : Writing → FrameWriter → List ℕ → Result Unit Refusal → FrameWriter → List ℕ → Type 0
WriterHolds c w buf o w' buf' = Holds (writer_rows c w buf) (all_written c w buf) (outcome_number o) (record { writer = w'; bytes = buf' })

-- each call as its contract has it
pub record FramingHolds : Type 0 where
  pub start : (w : FrameWriter) (buf : List ℕ) {o : Result Unit Refusal} {w' : FrameWriter} {buf' : List ℕ}
      → Starts w buf o w' buf'
      → WriterHolds (starting w) w buf o w' buf'
  pub append : (w : FrameWriter) (bs buf : List ℕ) {o : Result Unit Refusal} {w' : FrameWriter} {buf' : List ℕ}
      → Appends bs w buf o w' buf'
      → WriterHolds (appending bs w) w buf o w' buf'
  pub finish : (w : FrameWriter) (buf : List ℕ) {o : Result Unit Refusal} {w' : FrameWriter} {buf' : List ℕ}
      → Finishes w buf o w' buf'
      → WriterHolds (finishing w) w buf o w' buf'
  -- `encode` and `encode_parts`, and the C function, whose answer is its count
  pub encode : (m : ℕ) (p buf : List ℕ) {r : Result ℕ Refusal} {buf' : List ℕ} → Encodes m p buf r buf'
      → Holds (encode_rows m p buf) (whole_frame m p buf) (outcome_number r) (record { count = count_of r; bytes = buf' })
  pub ppp_encode : (m : ℕ) (p buf : List ℕ) {n : ℕ} {buf' : List ℕ} → Lays m p buf n buf'
      → Holds (encode_rows m p buf) (whole_frame m p buf) (answer_number n) (record { count = n; bytes = buf' })
  pub consume : (r : FrameReader) (rx bs : List ℕ) {t : Result ℕ Refusal} {d : Drops} {r' : FrameReader} {rx' : List ℕ} → Consumes (held r rx) bs t r' rx' → d ≡ dropped (held r rx) bs
      → Exactly ⊥ (consume_rows r.len r rx) (outcome_number t) (record { count = count_of t; drops = d; kept = r'; rx = rx' })
  pub receive : (r : FrameReader) {g : Got} {r' : FrameReader} → Receives r g r'
      → Exactly ⊥ (receive_rows r) (outcome_number g) r'

holds_of : {A : Type 0} {rows : List (Row A)} {whole : A} {n : ℕ} {a : A} → Right rows whole n a → distinct (numbers rows) ≡ true → Holds rows whole n a
holds_of {rows = rows} h d = record { table = first_exactly _ _ rows h.first d; done = h.done }

pub exactly_framing : FramingHolds
exactly_framing =
    record {
      start = λ w buf c. holds_of (writes_right (start_units w.asyncmap) 0x3DE3 0x3DE3 w buf c) refl;
      append = λ w bs buf c. rw (← units-map w.asyncmap bs) (holds_of (writes_right (units w.asyncmap bs) w.crc (fcs w.crc bs) w buf c) refl);
      finish = λ w buf c. holds_of (writes_right _ w.crc w.crc w buf (rw units-map at c)) refl;
      encode = λ m p buf c. holds_of (lays_right m p buf c.number c.lays) refl;
      ppp_encode = λ m p buf c. holds_of (lays_right m p buf (answer_number_lem m p buf c) c) refl;
      consume = λ r rx bs c d. first_exactly _ _ (consume_rows r.len r rx) (consume_right (held r rx) bs r c.number c.count d (λ e. c.reader ∙ e) c.bytes) refl;
      receive = λ r c. first_exactly _ _ (receive_rows r) (receive_right r c) refl;
    }

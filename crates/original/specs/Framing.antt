-- pppos/frame_writer.rs and pppos/frame_reader.rs. A writer holds the buffer that it was lent; a reader is lent one at each call.
use Rattle.std.specs.Prelude.{Bool, true, false, cond, not, ◌||◌, List, [], ◌∷◌, ℕ, ◌+◌, ◌-◌, ◌/◌, ◌%◌, ◌^◌, ltb, leb, eqb, length, get_or, take, set}
use Rattle.std.specs.Int.Bits.{bit_and, bit_xor}
use Rattle.std.proofs.lemmas.List.Edits.{sets}
use Rattle.original.specs.Run.{Run, returns, panics, reader_len, reader_slice, ◌>>=◌}
use Rattle.original.specs.Crc.{crc16}

-- ---- frame_writer.rs

pub record FrameWriter : Type 0 where
  pub buf : List ℕ
  pub len : ℕ
  pub crc : ℕ
  pub asyncmap : ℕ

-- FrameWriter::new_with_asyncmap
abbrev pub new_with_asyncmap : List ℕ → ℕ → FrameWriter
new_with_asyncmap buf m = record { buf = buf; len = 0; crc = 0; asyncmap = m }

-- FrameWriter::new
abbrev pub new_writer : List ℕ → FrameWriter
new_writer buf = new_with_asyncmap buf 0xFFFFFFFF

-- Result<(), BufferFullError>, beside the writer as the call left it
pub record WriteResult : Type 0 where
  pub is_ok : Bool
  pub writer : FrameWriter

-- `?`
abbrev pub try : WriteResult → (FrameWriter → WriteResult) → WriteResult
try r next = cond r.is_ok (next r.writer) r

abbrev pub with_crc : FrameWriter → ℕ → FrameWriter
with_crc w c = record { buf = w.buf; len = w.len; crc = c; asyncmap = w.asyncmap }

-- FrameWriter::append_raw
unfoldable pub append_raw : FrameWriter → List ℕ → WriteResult
append_raw w bs =
    cond (ltb (length w.buf) (w.len + length bs))
    (record { is_ok = false; writer = w })
    (record { is_ok = true; writer = record { buf = sets w.buf w.len bs; len = w.len + length bs; crc = w.crc; asyncmap = w.asyncmap } })

-- `match b { 0..=0x1f => self.asyncmap & (1 << b) != 0, 0x7d => true, 0x7e => true, _ => false }`
unfoldable pub escapes : ℕ → ℕ → Bool
escapes m b = cond (leb b 0x1F) (not (eqb (bit_and m (2 ^ b)) 0)) (cond (eqb b 0x7D) true (cond (eqb b 0x7E) true false))

-- FrameWriter::append_escaped
unfoldable pub append_escaped : FrameWriter → List ℕ → WriteResult
append_escaped w [] = record { is_ok = true; writer = w }
append_escaped w (b ∷ bs) =
    try (cond (escapes w.asyncmap b) (append_raw w (0x7D ∷ bit_xor b 0x20 ∷ [])) (append_raw w (b ∷ []))) (λ v. append_escaped v bs)

-- FrameWriter::start; a last `?` with `Ok(())` behind it gives what the call gave
unfoldable pub start : FrameWriter → WriteResult
start w = try (append_raw (with_crc w (crc16 0xFFFF (0xFF ∷ 0x03 ∷ []))) (0x7E ∷ 0xFF ∷ [])) (λ v. append_escaped v (0x03 ∷ []))

-- u16::to_le_bytes
abbrev pub to_le_bytes : ℕ → List ℕ
to_le_bytes c = c % 256 ∷ c / 256 ∷ []

-- FrameWriter::finish
unfoldable pub finish : FrameWriter → WriteResult
finish w = try (append_escaped w (to_le_bytes (bit_xor w.crc 0xFFFF))) (λ v. append_raw v (0x7E ∷ []))

-- FrameWriter::append
unfoldable pub append : FrameWriter → List ℕ → WriteResult
append w bs = try (append_escaped w bs) (λ v. record { is_ok = true; writer = with_crc v (crc16 v.crc bs) })

-- ---- frame_reader.rs

pub data ReaderState : Type 0 where
  Start Address Data Complete : ReaderState

pub record FrameReader : Type 0 where
  pub state : ReaderState
  pub escape : Bool
  pub len : ℕ

-- FrameReader::new
abbrev pub new_reader : FrameReader
new_reader = record { state = Start; escape = false; len = 0 }

-- Option<Range<usize>>, beside the reader as the call left it
pub data Fetch : Type 0 where
  nothing : FrameReader → Fetch
  range : ℕ → ℕ → FrameReader → Fetch

abbrev pub is_complete : ReaderState → Bool
is_complete = elim [ Start ↦ false | Address ↦ false | Data ↦ false | Complete ↦ true ]

-- FrameReader::receive
unfoldable pub receive : FrameReader → Run Fetch
receive r =
    cond (is_complete r.state)
    (cond (ltb r.len 2) (panics reader_len) (returns (range 1 (r.len - 2) (record { state = Address; escape = r.escape; len = 0 }))))
    (returns (nothing r))

-- a reader beside the lent buffer
pub record Fed : Type 0 where
  pub reader : FrameReader
  pub buf : List ℕ

abbrev pub with_state : FrameReader → ReaderState → FrameReader
with_state r s = record { state = s; escape = r.escape; len = r.len }

abbrev pub fed_to : ReaderState → FrameReader → List ℕ → Run Fed
fed_to s r buf = returns (record { reader = with_state r s; buf = buf })

-- `(State::Data, 0x7e)`: the three tests in their order, the later ones only where the earlier hold
abbrev pub end_of : FrameReader → List ℕ → Run Fed
end_of r buf =
    cond (ltb r.len 3) (fed_to Address r buf)
    (cond (eqb (length buf) 0) (panics reader_slice)
    (cond (not (eqb (get_or buf 0 0) 0x03)) (fed_to Address r buf)
    (cond (ltb (length buf) r.len) (panics reader_slice)
    (fed_to (cond (eqb (crc16 0x00FF (take r.len buf)) 0xF0B8) Complete Address) r buf))))

abbrev pub usize_max : ℕ
usize_max = 2 ^ 64 - 1

-- `(State::Data, mut b)`, b once the escape is taken away
abbrev pub store_of : FrameReader → List ℕ → ℕ → Fed
store_of r buf b =
    cond (eqb r.len usize_max || leb (length buf) r.len)
    (record { reader = record { state = Start; escape = false; len = 0 }; buf = buf })
    (record { reader = record { state = r.state; escape = false; len = r.len + 1 }; buf = set buf r.len b })

-- `match (self.state, b)`; the arm of Complete returns from the loop before this
abbrev pub feed_in : ReaderState → FrameReader → List ℕ → ℕ → Run Fed
feed_in Start r buf b = fed_to (cond (eqb b 0x7E) Address Start) r buf
feed_in Address r buf b = fed_to (cond (eqb b 0xFF) Data (cond (eqb b 0x7E) Address Start)) r buf
feed_in Data r buf b =
    cond (eqb b 0x7E) (end_of r buf)
    (cond (eqb b 0x7D) (returns (record { reader = record { state = r.state; escape = true; len = r.len }; buf = buf }))
    (returns (store_of r buf (cond r.escape (bit_xor b 0x20) b))))
feed_in Complete r buf b = fed_to Complete r buf

pub record Consumed : Type 0 where
  pub count : ℕ
  pub reader : FrameReader
  pub buf : List ℕ

-- the loop, at index i
unfoldable pub consume_from : ℕ → FrameReader → List ℕ → List ℕ → Run Consumed
consume_from i r buf [] = returns (record { count = i; reader = r; buf = buf })
consume_from i r buf (b ∷ bs) =
    cond (is_complete r.state)
    (returns (record { count = i; reader = r; buf = buf }))
    (feed_in r.state r buf b >>= λ f. consume_from (i + 1) f.reader f.buf bs)

-- FrameReader::consume
abbrev pub consume : FrameReader → List ℕ → List ℕ → Run Consumed
consume r buf bs = consume_from 0 r buf bs

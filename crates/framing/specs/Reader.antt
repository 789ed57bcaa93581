-- What the frame reader does, in both readings: one byte, a run of bytes, a fetch.
use Rattle.std.specs.Prelude.{◌≡◌, Bool, true, false, cond, ◌&&◌, ◌||◌, not, List, [], ◌∷◌, ℕ, ◌+◌, ◌-◌, ◌≤◌, ltb, leb, eqb, length, get_or, take, drop, set, Option, None, Some, Result, Ok, Err}
use Rattle.std.specs.Int.Bits.{bit_xor}
use Rattle.framing.specs.Rfc1662.{fcs}
use Rattle.framing.specs.Refusal.{outcome_number, count_of}
use Rattle.framing.specs.declared.refusal.Refusal.{Refusal}
use Rattle.framing.specs.declared.frame_reader.State.{State}
use Rattle.framing.specs.declared.frame_reader.State.TheVariants.{Start, Address, Data, Complete}
use Rattle.framing.specs.declared.frame_reader.Reading.{Reading}
use Rattle.framing.specs.declared.frame_reader.Reading.TheVariants.{Crate, Standard}
use Rattle.framing.specs.declared.frame_reader.FrameReader.{FrameReader}
use Rattle.framing.specs.declared.drops.Fault.{Fault}
use Rattle.framing.specs.declared.drops.Fault.TheVariants.{Aborted, Short, Control, Check}
use Rattle.framing.specs.declared.frame_reader.Span.{Span}

abbrev pub is_crate : Reading → Bool
is_crate Crate = true
is_crate Standard = false

abbrev pub is_complete : State → Bool
is_complete Start = false
is_complete Address = false
is_complete Data = false
is_complete Complete = true

abbrev pub fresh_reader : Reading → FrameReader
fresh_reader k = record { state = Start; escape = false; len = 0; reading = k }

-- the reading stays as it was made
abbrev pub next : FrameReader → State → Bool → ℕ → FrameReader
next r s e n = record { state = s; escape = e; len = n; reading = r.reading }

abbrev pub moved : FrameReader → State → FrameReader
moved r s = next r s r.escape r.len

-- 7D sets the escape; behind an escape it does so in crate reading only, and is a byte in the standard one
abbrev pub marks : FrameReader → ℕ → Bool
marks r b = eqb b 0x7D && (not r.escape || is_crate r.reading)

abbrev pub plain_of : FrameReader → ℕ → ℕ
plain_of r b = cond r.escape (bit_xor b 0x20) b

-- a frame end leaves a pending escape in crate reading only
abbrev pub escape_after : FrameReader → Bool
escape_after r = r.escape && is_crate r.reading

-- a frame end that is not good leaves the kept bytes in crate reading only
abbrev pub len_after : FrameReader → ℕ
len_after r = cond (is_crate r.reading) r.len 0

-- an escape that is pending at a frame end aborts the frame, but not in crate reading
abbrev pub aborts : FrameReader → Bool
aborts r = r.escape && not (is_crate r.reading)

-- what is wrong with the kept bytes: under three of them, the first not 03, or the residue wrong
unfoldable pub fault_in : List ℕ → Option Fault
fault_in kept =
    cond (ltb (length kept) 3) (Some Short)
    (cond (not (eqb (get_or kept 0 0) 0x03)) (Some Control)
    (cond (not (eqb (fcs 0x00FF kept) 0xF0B8)) (Some Check) None))

-- why a frame end gives no frame; of an aborted one the kept bytes are not looked at
abbrev pub fault_of : FrameReader → List ℕ → Option Fault
fault_of r buf = cond (aborts r) (Some Aborted) (fault_in (take r.len buf))

abbrev pub is_good : Option Fault → Bool
is_good None = true
is_good (Some f) = false

-- a good frame is complete; the end of any other is the flag before the next
abbrev pub ended : FrameReader → List ℕ → FrameReader
ended r buf = cond (is_good (fault_of r buf)) (next r Complete (escape_after r) r.len) (next r Address (escape_after r) (len_after r))

-- a reader beside the buffer that is lent to it
pub record Held : Type 0 where
  pub reader : FrameReader
  pub buf : List ℕ

abbrev pub held : FrameReader → List ℕ → Held
held r l = record { reader = r; buf = l }

-- a byte to be stored; where no room is left nothing is kept
abbrev pub stored : Held → ℕ → Held
stored s b =
    cond (ltb s.reader.len (length s.buf))
    (held (next s.reader Data false (s.reader.len + 1)) (set s.buf s.reader.len b))
    (held (next s.reader Start false 0) s.buf)

abbrev pub in_data : Held → ℕ → Held
in_data s b =
    cond (eqb b 0x7E)
    (held (ended s.reader s.buf) s.buf)
    (cond (marks s.reader b)
    (held (next s.reader Data true s.reader.len) s.buf)
    (stored s (plain_of s.reader b)))

abbrev pub step_by : State → Held → ℕ → Held
step_by Start s b = held (moved s.reader (cond (eqb b 0x7E) Address Start)) s.buf
step_by Address s b = held (moved s.reader (cond (eqb b 0xFF) Data (cond (eqb b 0x7E) Address Start))) s.buf
step_by Data s b = in_data s b
step_by Complete s b = s

-- one byte
unfoldable pub step : Held → ℕ → Held
step s b = step_by s.reader.state s b

abbrev pub full : Held → Bool
full s = is_complete s.reader.state

-- a run of bytes, up to the end of a good frame: what it leaves, and the bytes not consumed
pub record Fed : Type 0 where
  pub now : Held
  pub left : List ℕ

unfoldable pub fed : Held → List ℕ → Fed
fed s [] = record { now = s; left = [] }
fed s (b ∷ bs) = cond (full s) (record { now = s; left = b ∷ bs }) (fed (step s b) bs)

-- the lent buffer is under the kept length
abbrev pub is_short : Held → Bool
is_short s = ltb (length s.buf) s.reader.len

unfoldable pub consumed : Held → List ℕ → Fed
consumed s bs = cond (is_short s) (record { now = s; left = bs }) (fed s bs)

-- a call that is handed bs: its refusal number, its count, and the reader and the buffer that it leaves
pub record Consumes (s : Held) (bs : List ℕ) (t : Result ℕ Refusal) (r : FrameReader) (buf : List ℕ) : Type 0 where
  pub number : outcome_number t ≡ cond (is_short s) 3 0
  pub count : count_of t ≡ length bs - length (consumed s bs).left
  pub reader : r ≡ (consumed s bs).now.reader
  pub bytes : buf ≡ (consumed s bs).now.buf

-- the reader once its frame is fetched
abbrev pub fetched : FrameReader → FrameReader
fetched r = next r Address r.escape 0

-- Complete only with three bytes or more kept
abbrev pub Framed : FrameReader → Type 0
Framed r = is_complete r.state ≡ true → 3 ≤ r.len

-- the packet is bytes 1 up to the kept length less 2
abbrev pub packet_of : Held → List ℕ
packet_of s = take (s.reader.len - 2 - 1) (drop 1 s.buf)

-- what a call that fetches answers: the packet's range, if there is one
abbrev pub Got : Type 0
Got = Result (Option Span) Refusal

-- the ends of the packet, where there is one
abbrev pub got_range : Got → List ℕ
got_range (Ok None) = []
got_range (Ok (Some r)) = r.start ∷ r.end ∷ []
got_range (Err r) = []

-- a call that fetches: its refusal number, the packet's range, and the reader that it leaves
pub record Receives (r : FrameReader) (g : Got) (r' : FrameReader) : Type 0 where
  pub number : outcome_number g ≡ cond (is_complete r.state && ltb r.len 3) 5 0
  pub range : got_range g ≡ cond (is_complete r.state && leb 3 r.len) (1 ∷ (r.len - 2) ∷ []) []
  pub reader : r' ≡ cond (is_complete r.state) (fetched r) r

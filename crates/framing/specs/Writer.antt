-- What the frame writer does: units go into a lent buffer one behind the other, and the first that does not fit ends the run.
use Rattle.std.specs.Prelude.{◌≡◌, Bool, true, false, cond, List, [], ◌∷◌, ◌++◌, ℕ, ◌+◌, ◌-◌, ◌^◌, leb, ltb, length, drop, Result, Ok, Err}
use Rattle.std.proofs.lemmas.List.Edits.{sets}
use Rattle.framing.specs.Rfc1662.{fcs, check_bytes, unit, frame}
use Rattle.framing.specs.Refusal.{outcome_number, count_of}
use Rattle.framing.specs.declared.refusal.Refusal.{Refusal}
use Rattle.framing.specs.declared.frame_writer.Full.{Full}
use Rattle.framing.specs.declared.frame_writer.FrameWriter.{FrameWriter}

-- bytes as units: a byte that is escaped or plain is one
unfoldable pub units : ℕ → List ℕ → List (List ℕ)
units m [] = []
units m (b ∷ bs) = unit m b ∷ units m bs

-- 7E FF is one unit; the control byte is one
abbrev pub start_units : ℕ → List (List ℕ)
start_units m = (0x7E ∷ 0xFF ∷ []) ∷ unit m 0x03 ∷ []

abbrev pub finish_units : ℕ → ℕ → List (List ℕ)
finish_units m c = units m (check_bytes c) ++ ((0x7E ∷ []) ∷ [])

abbrev pub frame_units : ℕ → List ℕ → List (List ℕ)
frame_units m p = start_units m ++ units m p ++ finish_units m (fcs 0x3DE3 p)

-- what a run of units leaves: the buffer, where the next unit goes, and whether every unit fitted
pub record Out : Type 0 where
  pub bytes : List ℕ
  pub at : ℕ
  pub done : Bool

unfoldable pub write : List (List ℕ) → List ℕ → ℕ → Out
write [] buf at = record { bytes = buf; at = at; done = true }
write (u ∷ us) buf at =
    cond (leb (at + length u) (length buf))
    (write us (sets buf at u) (at + length u))
    (record { bytes = buf; at = at; done = false })

-- the units us, from index at of buf, leave buf' with the next unit's place at at'; t says whether all fitted
pub record Ran (us : List (List ℕ)) (buf : List ℕ) (at : ℕ) (buf' : List ℕ) (at' : ℕ) (t : Bool) : Type 0 where
  pub same_bytes : buf' ≡ (write us buf at).bytes
  pub same_at : at' ≡ (write us buf at).at
  pub same_done : t ≡ (write us buf at).done

-- how far a run got: where the next unit goes, or where the one that does not fit was to go
abbrev pub reached : Result ℕ Full → ℕ
reached (Ok at) = at
reached (Err full) = full.at

-- the same of a walk, and the check value behind it where all fitted
abbrev pub walked_to : Result (ℕ × ℕ) Full → ℕ
walked_to (Ok w) = w.0
walked_to (Err full) = full.at

abbrev pub check_at : Result (ℕ × ℕ) Full → ℕ
check_at (Ok w) = w.1
check_at (Err full) = 0

-- the bytes bs walked once, from index at of buf and the check value c: their units are run, and where all fitted the check value is that behind bs
pub record Walked (m : ℕ) (bs buf : List ℕ) (at c : ℕ) (buf' : List ℕ) (at' c' : ℕ) (t : Bool) : Type 0 where
  pub ran : Ran (units m bs) buf at buf' at' t
  pub check : t ≡ true → c' ≡ fcs c bs

abbrev pub fresh_writer : ℕ → FrameWriter
fresh_writer m = record { len = 0; crc = 0; asyncmap = m }

-- whether the lent buffer has the bytes that the writer counts
abbrev pub lent : FrameWriter → List ℕ → Bool
lent w buf = leb w.len (length buf)

-- the writer behind a run: its check value is full where a unit did not fit, and crc where all did
abbrev pub written : Bool → ℕ → ℕ → ℕ → ℕ → FrameWriter
written t at full crc m = record { len = at; crc = cond t crc full; asyncmap = m }

-- a call that writes us: its refusal number, and the writer and the buffer that it leaves
pub record Writes (us : List (List ℕ)) (full crc : ℕ) (w : FrameWriter) (buf : List ℕ) (o : Result Unit Refusal) (w' : FrameWriter) (buf' : List ℕ) : Type 0 where
  pub number : outcome_number o ≡ cond (lent w buf) (cond (write us buf w.len).done 0 1) 3
  pub writer : w' ≡ cond (lent w buf) (written (write us buf w.len).done (write us buf w.len).at full crc w.asyncmap) w
  pub bytes : buf' ≡ cond (lent w buf) (write us buf w.len).bytes buf

-- the writer's three calls: `start` sets the check value to 3DE3 even where a unit does not fit, `append` advances it only where all do, `finish` never changes it
abbrev pub Starts : FrameWriter → List ℕ → Result Unit Refusal → FrameWriter → List ℕ → Type 0
Starts w = Writes (start_units w.asyncmap) 0x3DE3 0x3DE3 w

abbrev pub Appends : List ℕ → FrameWriter → List ℕ → Result Unit Refusal → FrameWriter → List ℕ → Type 0
Appends bs w = Writes (units w.asyncmap bs) w.crc (fcs w.crc bs) w

abbrev pub Finishes : FrameWriter → List ℕ → Result Unit Refusal → FrameWriter → List ℕ → Type 0
Finishes w = Writes (finish_units w.asyncmap w.crc) w.crc w.crc w

-- units as one run of bytes
unfoldable pub join : List (List ℕ) → List ℕ
join [] = []
join (u ∷ us) = u ++ join us

-- the longest run of whole units, from the first on, that room bytes hold
unfoldable pub fit : ℕ → List (List ℕ) → List ℕ
fit room [] = []
fit room (u ∷ us) = cond (leb (length u) room) (u ++ fit (room - length u) us) []

-- whether room bytes hold the frame of p
abbrev pub holds : ℕ → List ℕ → ℕ → Bool
holds m p room = leb (length (frame m p)) room

-- what room bytes get of the frame of p: RFC 1662's frame where it fits, else the units that do
abbrev pub laid : ℕ → List ℕ → ℕ → List ℕ
laid m p room = cond (holds m p room) (frame m p) (fit room (frame_units m p))

-- bytes at the front of a buffer, and beyond them what it held
abbrev pub over : List ℕ → List ℕ → List ℕ
over bs buf = bs ++ drop (length bs) buf

-- one packet p into buf: the count n, 0 where the frame does not fit, and the buffer
pub record Lays (m : ℕ) (p buf : List ℕ) (n : ℕ) (buf' : List ℕ) : Type 0 where
  pub count : n ≡ cond (holds m p (length buf)) (length (frame m p)) 0
  pub bytes : buf' ≡ over (laid m p (length buf)) buf

pub record Encodes (m : ℕ) (p buf : List ℕ) (r : Result ℕ Refusal) (buf' : List ℕ) : Type 0 where
  pub number : outcome_number r ≡ cond (holds m p (length buf)) 0 1
  pub lays : Lays m p buf (count_of r) buf'

-- a length that a machine word may be too small for
abbrev pub capped : ℕ → ℕ
capped n = cond (ltb n (2 ^ 64)) n (2 ^ 64 - 1)

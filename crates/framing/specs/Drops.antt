-- What the reader drops and for which cause (document 02, 5/12): by one byte, by a run of bytes, by a call.
use Rattle.std.specs.Prelude.{cond, List, [], ◌∷◌, ℕ, ◌+◌, ltb, eqb, length, Option, None, Some}
use Rattle.framing.specs.Reader.{marks, fault_of, Held, step, full, is_short}
use Rattle.framing.specs.Heard.{fetched_in}
use Rattle.framing.specs.declared.drops.Drops.{Drops}
use Rattle.framing.specs.declared.drops.Fault.{Fault}
use Rattle.framing.specs.declared.drops.Fault.TheVariants.{Aborted, Short, Control, Check, Overrun}
use Rattle.framing.specs.declared.frame_reader.State.{State}
use Rattle.framing.specs.declared.frame_reader.State.TheVariants.{Start, Address, Data, Complete}

-- ---- one byte

-- a byte to be stored
abbrev pub room_fault : Held → Option Fault
room_fault s = cond (ltb s.reader.len (length s.buf)) None (Some Overrun)

-- 7E ends the frame; of the other bytes those that are no escape are to be stored
abbrev pub fault_in_data : Held → ℕ → Option Fault
fault_in_data s b = cond (eqb b 0x7E) (fault_of s.reader s.buf) (cond (marks s.reader b) None (room_fault s))

-- outside a frame nothing is dropped: 7E behind 7E is no frame end
abbrev pub fault_by : State → Held → ℕ → Option Fault
fault_by Start s b = None
fault_by Address s b = None
fault_by Data s b = fault_in_data s b
fault_by Complete s b = None

unfoldable pub fault_at : Held → ℕ → Option Fault
fault_at s b = fault_by s.reader.state s b

-- ---- counts

abbrev pub no_drops : Drops
no_drops = record { aborted = 0; short = 0; control = 0; check = 0; overrun = 0 }

abbrev pub one_drop : Option Fault → Drops
one_drop None = no_drops
one_drop (Some Aborted) = record { aborted = 1; short = 0; control = 0; check = 0; overrun = 0 }
one_drop (Some Short) = record { aborted = 0; short = 1; control = 0; check = 0; overrun = 0 }
one_drop (Some Control) = record { aborted = 0; short = 0; control = 1; check = 0; overrun = 0 }
one_drop (Some Check) = record { aborted = 0; short = 0; control = 0; check = 1; overrun = 0 }
one_drop (Some Overrun) = record { aborted = 0; short = 0; control = 0; check = 0; overrun = 1 }

abbrev pub together : Drops → Drops → Drops
together c d =
    record {
      aborted = c.aborted + d.aborted;
      short = c.short + d.short;
      control = c.control + d.control;
      check = c.check + d.check;
      overrun = c.overrun + d.overrun;
    }

-- the first four: frame ends that were dropped
abbrev pub ends_of : Drops → ℕ
ends_of d = d.aborted + d.short + d.control + d.check

abbrev pub all_of : Drops → ℕ
all_of d = ends_of d + d.overrun

-- ---- bytes

-- a run of bytes, up to the end of a good frame, as `fed` has it
unfoldable pub drops : Held → List ℕ → Drops
drops s [] = no_drops
drops s (b ∷ bs) = cond (full s) no_drops (together (one_drop (fault_at s b)) (drops (step s b) bs))

-- a call; one that is refused drops nothing
unfoldable pub dropped : Held → List ℕ → Drops
dropped s bs = cond (is_short s) no_drops (drops s bs)

-- a run of bytes in which each good frame is fetched at once, as `heard` has it
unfoldable pub missed : Held → List ℕ → Drops
missed s [] = no_drops
missed s (b ∷ bs) = together (one_drop (fault_at s b)) (missed (fetched_in (step s b)) bs)

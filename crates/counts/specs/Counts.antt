-- What the reader's five counts say (document 02, 5/12), for one byte, for the bytes between two flags and for a whole line.
use Rattle.std.specs.Prelude.{◌≡◌, Bool, true, false, cond, not, ◌&&◌, ◌||◌, ℕ, ◌+◌, ◌≤◌, ◌<◌, ltb, eqb, length, get_or, take, Option, None, Some}
use mathlib.Core.List.{List, [], ◌∷◌, ◌++◌, map, flatten}
use Rattle.laws.specs.Each.{Each, Without}
use Rattle.framing.specs.Rfc1662.{fcs, unescaped, aborted, frame}
use Rattle.framing.specs.Reader.{is_crate, fresh_reader, next, Held, held, step, full, consumed}
use Rattle.framing.specs.Heard.{fetched_in, heard}
use Rattle.framing.specs.Drops.{no_drops, one_drop, ends_of, dropped, missed}
use Rattle.framing.specs.Paper.{doubled}
use Rattle.framing.specs.declared.drops.Drops.{Drops}
use Rattle.framing.specs.declared.drops.Fault.{Fault}
use Rattle.framing.specs.declared.drops.Fault.TheVariants.{Aborted, Short, Control, Check, Overrun}
use Rattle.framing.specs.declared.frame_reader.State.{State}
use Rattle.framing.specs.declared.frame_reader.State.TheVariants.{Start, Address, Data, Complete}
use Rattle.framing.specs.declared.frame_reader.Reading.{Reading}
use Rattle.framing.specs.declared.frame_reader.Reading.TheVariants.{Standard}

-- ---- one byte

-- n is 1 where P holds, and 0 where it does not
abbrev pub Exactly : ℕ → Type 0 → Type 0
Exactly n P = (P → n ≡ 1) × ((P → ⊥) → n ≡ 0)

abbrev pub kept_of : Held → List ℕ
kept_of s = take s.reader.len s.buf

-- 7E inside a frame: behind another 7E the reader is in Address, so that it is none
abbrev pub FrameEnd : Held → ℕ → Type 0
FrameEnd s b = (s.reader.state ≡ Data) × (b ≡ 0x7E)

-- what the four causes look at, each as if alone: an escape that is open, in standard reading, which aborts; fewer than three bytes kept; a first
-- byte that is 03; a good check (RFC 1662, appendix C.2: F0B8 is the value behind a good frame; behind the address FF it stands at 00FF)
abbrev pub EscapeOpen : Held → Type 0
EscapeOpen s = (s.reader.reading ≡ Standard) × (s.reader.escape ≡ true)

abbrev pub Few : Held → Type 0
Few s = length (kept_of s) < 3

abbrev pub Begins : Held → Type 0
Begins s = get_or (kept_of s) 0 0 ≡ 0x03

abbrev pub Checks : Held → Type 0
Checks s = fcs 0x00FF (kept_of s) ≡ 0xF0B8

-- a byte of a frame that is to be kept: no flag, and no escape; 7D behind an escape is a byte in standard reading
abbrev pub Kept : Held → ℕ → Type 0
Kept s b = (s.reader.state ≡ Data) × (b ≡ 0x7E → ⊥) × (b ≡ 0x7D → EscapeOpen s)

abbrev pub Room : Held → Type 0
Room s = s.reader.len < length s.buf

-- what the byte b counts: of the four causes of a frame end the first that applies
pub record Told (s : Held) (b : ℕ) (d : Drops) : Type 0 where
  pub aborted : Exactly d.aborted (FrameEnd s b × EscapeOpen s)
  pub short : Exactly d.short (FrameEnd s b × (EscapeOpen s → ⊥) × Few s)
  pub control : Exactly d.control (FrameEnd s b × (EscapeOpen s → ⊥) × (Few s → ⊥) × (Begins s → ⊥))
  pub check : Exactly d.check (FrameEnd s b × (EscapeOpen s → ⊥) × (Few s → ⊥) × Begins s × (Checks s → ⊥))
  pub overrun : Exactly d.overrun (Kept s b × (Room s → ⊥))

-- ---- frame ends, one by one

abbrev pub is_data : State → Bool
is_data Start = false
is_data Address = false
is_data Data = true
is_data Complete = false

-- how many frame ends a line has, where each good frame is fetched at once
unfoldable pub ends : Held → List ℕ → ℕ
ends s [] = 0
ends s (b ∷ bs) = cond (is_data s.reader.state && eqb b 0x7E) 1 0 + ends (fetched_in (step s b)) bs

-- ---- between two flags

-- a fresh reader that met a flag
abbrev pub flag_met : Reading → List ℕ → Held
flag_met k buf = held (next (fresh_reader k) Address false 0) buf

-- RFC 1662, 4.3: a frame under four octets, or one that ends with an escape, is not counted as a check error; the check is over the whole frame
abbrev pub judged : List ℕ → Option Fault
judged kept =
    cond (ltb (length (0xFF ∷ kept)) 4) (Some Short)
    (cond (not (eqb (get_or kept 0 0) 0x03)) (Some Control)
    (cond (not (eqb (fcs 0xFFFF (0xFF ∷ kept)) 0xF0B8)) (Some Check) None))

-- an address FF, then the bytes w, to a reader with so much room for what is read off them
abbrev pub between : ℕ → List ℕ → Option Fault
between room w = cond (ltb room (length (unescaped false w))) (Some Overrun) (cond (aborted false w) (Some Aborted) (judged (unescaped false w)))

-- in crate reading, what the standard one reads otherwise is left out
abbrev pub Usual : Reading → List ℕ → Type 0
Usual k w = is_crate k && (aborted false w || doubled false w) ≡ false

-- ---- a line

abbrev pub fresh : Reading → List ℕ → Held
fresh k buf = held (fresh_reader k) buf

-- frames, each of a map and of what it carries
abbrev pub frames_of : List (ℕ × List ℕ) → List ℕ
frames_of ps = flatten (map (λ (p : ℕ × List ℕ). frame p.0 p.1) ps)

abbrev pub AllFit : ℕ → List (ℕ × List ℕ) → Type 0
AllFit room = Each (λ p. length p.1 + 3 ≤ room)

-- each of the five is the sum of two
pub record Adds (c d sum : Drops) : Type 0 where
  pub aborted : sum.aborted ≡ c.aborted + d.aborted
  pub short : sum.short ≡ c.short + d.short
  pub control : sum.control ≡ c.control + d.control
  pub check : sum.check ≡ c.check + d.check
  pub overrun : sum.overrun ≡ c.overrun + d.overrun

-- what document 02 says of the counts, and what a service desk reads off them
pub record Counting : Type 0 where
  -- a call with one byte, whatever the reader holds
  pub told : (s : Held) (b : ℕ) → s.reader.len ≤ length s.buf → Told s b (dropped s (b ∷ []))
  -- cuts do not matter: to calls, and to calls with a fetch behind each
  pub cut : (s : Held) (a b : List ℕ) → Adds (dropped s a) (dropped (consumed s a).now ((consumed s a).left ++ b)) (dropped s (a ++ b))
  pub fetched : (s : Held) (a b : List ℕ) → s.reader.len ≤ length s.buf → full s ≡ false
      → Adds (dropped s a) (missed (fetched_in (consumed s a).now) ((consumed s a).left ++ b)) (missed s (a ++ b))
  -- what stands between two flags is counted as the paper judges it
  pub flags : (k : Reading) (buf w : List ℕ) → Without 0x7E w → Usual k w → missed (flag_met k buf) ((0xFF ∷ w) ++ (0x7E ∷ [])) ≡ one_drop (between (length buf) w)
  -- every frame end is handed out or counted in one of the first four
  pub each_end : (s : Held) (bs : List ℕ) → full s ≡ false → ends s bs ≡ length (heard s bs).packets + ends_of (missed s bs)
  -- a fresh reader that is fed encoded frames it has room for counts nothing
  pub silent : (k : Reading) (buf : List ℕ) (ps : List (ℕ × List ℕ)) → AllFit (length buf) ps → missed (fresh k buf) (frames_of ps) ≡ no_drops

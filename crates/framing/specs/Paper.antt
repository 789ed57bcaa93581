-- When the bytes between two flags are a frame that the reader takes, said by RFC 1662's definitions.
use Rattle.std.specs.Prelude.{◌≡◌, Bool, false, not, ◌&&◌, ◌||◌, List, [], ◌∷◌, ℕ, ◌+◌, ◌≤◌, eqb, length, get_or}
use Rattle.laws.specs.Each.{Each, Bytes, Without}
use Rattle.framing.specs.Rfc1662.{flagged, aborted, Carries}
use Rattle.framing.specs.Reader.{is_crate}
use Rattle.framing.specs.declared.frame_reader.Reading.{Reading}

-- 7D stands right behind an escape; the Bool says whether an escape is open
unfoldable pub doubled : Bool → List ℕ → Bool
doubled o [] = false
doubled o (b ∷ w) = (o && eqb b 0x7D) || doubled (not o && eqb b 0x7D) w

-- a receiver with the map m removes no byte of the list
abbrev pub Unflagged : ℕ → List ℕ → Type 0
Unflagged m = Each (λ b. flagged m b ≡ false)

-- what may stand between two flags: no flag, and no byte that the map flags (our reader has no map and removes none); in crate reading
-- also no escape right before the closing flag, and no 7D right behind 7D
pub record Between (k : Reading) (m : ℕ) (w : List ℕ) : Type 0 where
  pub bytes : Bytes w
  pub no_flag : Without 0x7E w
  pub no_removal : Unflagged m w
  pub no_habit : (is_crate k && (aborted false w || doubled false w)) ≡ false

-- a valid frame with the information p, whose address is sent as it is, and room bytes hold what is kept of it
pub record Readable (m room : ℕ) (w p : List ℕ) : Type 0 where
  pub raw : get_or w 0 0 ≡ 0xFF
  pub carries : Carries m w p
  pub fits : length p + 3 ≤ room

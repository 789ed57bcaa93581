-- The status lines (document 01, 'Status lines'): what a status says as text.
use Rattle.std.specs.Prelude.{◌≡◌, Bool, true, false, cond, List, [], ◌∷◌, ◌++◌, ℕ, ◌+◌, ◌/◌, ◌%◌, ltb, leb, length, Result, Option, Some, None}
use Rattle.std.proofs.lemmas.List.Edits.{sets}
use Rattle.framing.specs.Writer.{over}
use Rattle.phases.specs.declared.ppp.Phase.{Phase}
use Rattle.phases.specs.declared.ppp.Phase.TheVariants.{Dead, Establish, Auth, Network, Open}
use Rattle.phases.specs.declared.ppp.Addresses.{Addresses}
use Rattle.phases.specs.declared.ppp.Status.{Status}
use Rattle.status_lines.specs.declared.status.Fields.{Fields}
use Rattle.framing.specs.Refusal.{outcome_number, count_of}
use Rattle.framing.specs.declared.refusal.Refusal.{Refusal}

-- "dead", "establish", "auth", "network", "open"
abbrev pub phase_name : Phase → List ℕ
phase_name Dead = 100 ∷ 101 ∷ 97 ∷ 100 ∷ []
phase_name Establish = 101 ∷ 115 ∷ 116 ∷ 97 ∷ 98 ∷ 108 ∷ 105 ∷ 115 ∷ 104 ∷ []
phase_name Auth = 97 ∷ 117 ∷ 116 ∷ 104 ∷ []
phase_name Network = 110 ∷ 101 ∷ 116 ∷ 119 ∷ 111 ∷ 114 ∷ 107 ∷ []
phase_name Open = 111 ∷ 112 ∷ 101 ∷ 110 ∷ []

-- "up", "down"
abbrev pub up_name : Bool → List ℕ
up_name true = 117 ∷ 112 ∷ []
up_name false = 100 ∷ 111 ∷ 119 ∷ 110 ∷ []

-- a number below 1,000 in decimal, with no leading zero
unfoldable pub decimal : ℕ → List ℕ
decimal n =
    cond (ltb n 10) ((48 + n) ∷ [])
    (cond (ltb n 100) ((48 + n / 10) ∷ (48 + n % 10) ∷ [])
    ((48 + n / 100) ∷ (48 + n / 10 % 10) ∷ (48 + n % 10) ∷ []))

-- the four bytes of an address with dots between them
unfoldable pub dotted : ℕ → List ℕ
dotted a =
    decimal (a / 16777216 % 256) ++ (46 ∷ (decimal (a / 65536 % 256) ++ (46 ∷ (decimal (a / 256 % 256) ++ (46 ∷ decimal (a % 256))))))

-- "none" where there is no address
abbrev pub address_text : Option ℕ → List ℕ
address_text None = 110 ∷ 111 ∷ 110 ∷ 101 ∷ []
address_text (Some a) = dotted a

-- a key with its "=", a value, LF
abbrev pub line : List ℕ → List ℕ → List ℕ
line key value = key ++ (value ++ (10 ∷ []))

-- "phase=", "ipv4=", "address=", "peer=", "dns1=", "dns2="
abbrev pub phase_key : List ℕ
phase_key = 112 ∷ 104 ∷ 97 ∷ 115 ∷ 101 ∷ 61 ∷ []

abbrev pub ipv4_key : List ℕ
ipv4_key = 105 ∷ 112 ∷ 118 ∷ 52 ∷ 61 ∷ []

abbrev pub address_key : List ℕ
address_key = 97 ∷ 100 ∷ 100 ∷ 114 ∷ 101 ∷ 115 ∷ 115 ∷ 61 ∷ []

abbrev pub peer_key : List ℕ
peer_key = 112 ∷ 101 ∷ 101 ∷ 114 ∷ 61 ∷ []

abbrev pub dns1_key : List ℕ
dns1_key = 100 ∷ 110 ∷ 115 ∷ 49 ∷ 61 ∷ []

abbrev pub dns2_key : List ℕ
dns2_key = 100 ∷ 110 ∷ 115 ∷ 50 ∷ 61 ∷ []

-- the first two lines
unfoldable pub head_of : Phase → Bool → List ℕ
head_of f up = line phase_key (phase_name f) ++ line ipv4_key (up_name up)

-- a line with an address
unfoldable pub address_line : List ℕ → Option ℕ → List ℕ
address_line key a = line key (address_text a)

-- what is said, in the order of the six lines
unfoldable pub six_lines : Fields → List ℕ
six_lines s =
    head_of s.phase s.up
    ++ (address_line address_key s.address
    ++ (address_line peer_key s.peer ++ (address_line dns1_key s.dns1 ++ address_line dns2_key s.dns2)))

-- what the lines say of a status: no address while IPv4 is down
abbrev pub fields_with : Phase → Option Addresses → Fields
fields_with f None = record { phase = f; up = false; address = None; peer = None; dns1 = None; dns2 = None }
fields_with f (Some a) =
    record { phase = f; up = true; address = a.address; peer = a.peer_address; dns1 = a.dns_server_1; dns2 = a.dns_server_2 }

abbrev pub fields_of : Status → Fields
fields_of s = fields_with s.phase s.ipv4

abbrev pub lines_of : Status → List ℕ
lines_of s = six_lines (fields_of s)

-- the lines of a status are never longer: "up" is shorter than "down", under which no address is shown
abbrev pub max_lines : ℕ
max_lines = 111

-- text from index at of a buffer on: where it ends, and the buffer
pub record Puts (text buf : List ℕ) (at end : ℕ) (buf' : List ℕ) : Type 0 where
  pub ends : end ≡ at + length text
  pub bytes : buf' ≡ sets buf at text

-- the refusal number, the count and the buffer: all lines at its front, or refusal 1 and nothing written
pub record Shows (s : Status) (buf : List ℕ) (r : Result ℕ Refusal) (buf' : List ℕ) : Type 0 where
  pub number : outcome_number r ≡ cond (leb (length (lines_of s)) (length buf)) 0 1
  pub count : count_of r ≡ cond (leb (length (lines_of s)) (length buf)) (length (lines_of s)) 0
  pub bytes : buf' ≡ cond (leb (length (lines_of s)) (length buf)) (over (lines_of s) buf) buf

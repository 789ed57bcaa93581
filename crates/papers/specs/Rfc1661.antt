-- RFC 1661, "The Point-to-Point Protocol", from the paper alone: how packets and options are laid out, and what the codes are.
use Rattle.std.specs.Prelude.{◌≡◌, List, [], ◌∷◌, ◌++◌, ℕ, ◌+◌, ◌/◌, ◌%◌, ◌<◌, length}

-- ---- packets

-- Section 2: a field of two octets has the most significant one first
abbrev pub two_octets : ℕ → List ℕ
two_octets n = n / 256 ∷ n % 256 ∷ []

-- Section 2: the protocol number stands in two octets before the information
pub record Encapsulated (bytes : List ℕ) (protocol : ℕ) (information : List ℕ) : Type 0 where
  pub small : protocol < 65536
  pub laid : bytes ≡ two_octets protocol ++ information

-- Section 5: LCP's number
abbrev pub lcp : ℕ
lcp = 0xC021

-- Section 5: Code and Identifier of one octet, Length of the whole, Data; octets past the Length are padding
pub record Packet (bytes : List ℕ) (code id : ℕ) (info : List ℕ) : Type 0 where
  pub padding : List ℕ
  pub code_octet : code < 256
  pub id_octet : id < 256
  pub short : length info + 4 < 65536
  pub laid : bytes ≡ code ∷ id ∷ (two_octets (length info + 4) ++ (info ++ padding))

-- Section 5: exactly one packet is encapsulated in the information
pub record Carried (bytes : List ℕ) (protocol code id : ℕ) (info : List ℕ) : Type 0 where
  pub information : List ℕ
  pub encapsulated : Encapsulated bytes protocol information
  pub packet : Packet information code id info

-- ---- codes

-- Section 5.1
abbrev pub configure_request : ℕ
configure_request = 1

-- Section 5.2
abbrev pub configure_ack : ℕ
configure_ack = 2

-- Section 5.3
abbrev pub configure_nak : ℕ
configure_nak = 3

-- Section 5.4
abbrev pub configure_reject : ℕ
configure_reject = 4

-- Section 5.5
abbrev pub terminate_request : ℕ
terminate_request = 5

-- Section 5.5
abbrev pub terminate_ack : ℕ
terminate_ack = 6

-- Section 5.6
abbrev pub code_reject : ℕ
code_reject = 7

-- Section 5.7
abbrev pub protocol_reject : ℕ
protocol_reject = 8

-- Section 5.7: Rejected-Protocol of two octets, then Rejected-Information
pub record Rejected (info : List ℕ) (protocol : ℕ) (information : List ℕ) : Type 0 where
  pub small : protocol < 65536
  pub laid : info ≡ two_octets protocol ++ information

-- Section 5.8
abbrev pub echo_request : ℕ
echo_request = 9

-- Section 5.8
abbrev pub echo_reply : ℕ
echo_reply = 10

-- Section 5.9
abbrev pub discard_request : ℕ
discard_request = 11

-- ---- options

-- an option: its Type and its Data
pub record Option : Type 0 where
  pub type : ℕ
  pub value : List ℕ

-- Section 6: options one behind the other, each with Type, Length of the whole option (an octet each), Data
pub data Options : List ℕ → List Option → Type 0 where
  none : Options [] []
  more : {bytes : List ℕ} {os : List Option} (o : Option) → o.type < 256 → length o.value + 2 < 256 → Options bytes os
      → Options (o.type ∷ (length o.value + 2) ∷ (o.value ++ bytes)) (o ∷ os)

-- Section 6.2: Authentication-Protocol, two octets that name the protocol, then what it needs; so its Length is 4 or more
pub record AuthenticationProtocol (o : Option) (protocol : ℕ) (needed : List ℕ) : Type 0 where
  pub small : protocol < 65536
  pub type : o.type ≡ 3
  pub value : o.value ≡ two_octets protocol ++ needed

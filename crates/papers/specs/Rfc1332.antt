-- RFC 1332 and RFC 1877, from the papers alone: IPCP's number, and its options that carry an address.
use Rattle.std.specs.Prelude.{◌≡◌, [], ◌∷◌, ℕ, ◌/◌, ◌%◌, ◌<◌}
use Rattle.papers.specs.Rfc1661.{Option}

-- RFC 1332, section 2
abbrev pub ipcp : ℕ
ipcp = 0x8021

-- an option of type t with an address of four octets, the most significant first, and so of length 6
pub record Address (t : ℕ) (o : Option) (address : ℕ) : Type 0 where
  pub small : address < 0x100000000
  pub type : o.type ≡ t
  pub value : o.value ≡ address / 0x1000000 ∷ address / 0x10000 % 256 ∷ address / 256 % 256 ∷ address % 256 ∷ []

-- RFC 1332, section 3.3: IP-Address
abbrev pub IpAddress : Option → ℕ → Type 0
IpAddress = Address 3

-- RFC 1877, section 1.1: Primary DNS Server Address
abbrev pub PrimaryDns : Option → ℕ → Type 0
PrimaryDns = Address 129

-- RFC 1877, section 1.3: Secondary DNS Server Address
abbrev pub SecondaryDns : Option → ℕ → Type 0
SecondaryDns = Address 131

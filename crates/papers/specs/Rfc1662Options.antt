-- RFC 1662, section 7.1, from the paper alone: the option of LCP that says which octets are to be escaped.
use Rattle.std.specs.Prelude.{◌≡◌, [], ◌∷◌, ℕ, ◌-◌, ◌/◌, ◌%◌, ◌^◌, ◌<◌, get_or}
use Rattle.papers.specs.Rfc1661.{Option}

-- Async-Control-Character-Map: four octets, the most significant first, and so of length 6
pub record AsyncMap (o : Option) (map : ℕ) : Type 0 where
  pub small : map < 0x100000000
  pub type : o.type ≡ 2
  pub value : o.value ≡ map / 0x1000000 ∷ map / 0x10000 % 256 ∷ map / 256 % 256 ∷ map % 256 ∷ []

-- the least significant bit of the final octet is numbered 0, and bit b stands for the octet b below 32
abbrev pub bit_for : Option → ℕ → ℕ
bit_for o b = get_or o.value (3 - b / 8) 0 / 2 ^ (b % 8) % 2

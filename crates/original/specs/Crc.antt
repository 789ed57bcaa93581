-- pppos/crc.rs.
use Rattle.std.specs.Prelude.{List, [], ◌∷◌, ℕ, ◌*◌, ◌/◌, ◌%◌, ◌^◌}
use Rattle.std.specs.Int.Bits.{bit_xor}

-- `e ^ (e << 4)`, of a u8
abbrev pub folded : ℕ → ℕ
folded e = bit_xor e (e * 2 ^ 4 % 2 ^ 8)

-- `(seed >> 8) ^ (f << 8) ^ (f << 3) ^ (f >> 4)`, of a u16
abbrev pub shifted : ℕ → ℕ → ℕ
shifted seed f = bit_xor (bit_xor (bit_xor (seed / 2 ^ 8) (f * 2 ^ 8 % 2 ^ 16)) (f * 2 ^ 3 % 2 ^ 16)) (f / 2 ^ 4)

-- crc16; `seed as u8 ^ b` is e
unfoldable pub crc16 : ℕ → List ℕ → ℕ
crc16 seed [] = seed
crc16 seed (b ∷ bs) = crc16 (shifted seed (folded (bit_xor (seed % 256) b))) bs

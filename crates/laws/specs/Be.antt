-- Big-endian fields of any width: the number that bytes say, and the bytes of a number.
use Rattle.std.specs.Prelude.{List, [], ◌∷◌, ℕ, zero, suc, ◌+◌, ◌*◌, ◌/◌, ◌%◌, ◌^◌}

-- the number that the bytes say behind a number v already read
unfoldable pub be_from : ℕ → List ℕ → ℕ
be_from v [] = v
be_from v (b ∷ bs) = be_from (v * 256 + b) bs

-- the first byte is the highest
abbrev pub be_of : List ℕ → ℕ
be_of bs = be_from 0 bs

-- the k bytes of v, the highest first
unfoldable pub be_bytes : ℕ → ℕ → List ℕ
be_bytes zero v = []
be_bytes (suc k) v = v / 256 ^ k % 256 ∷ be_bytes k v

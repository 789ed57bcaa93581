-- The reader as a transducer: a byte is fed, and where it completes a frame the packet is fetched at once.
use Rattle.std.specs.Prelude.{cond, List, [], ◌∷◌, ◌++◌, ℕ}
use Rattle.framing.specs.Reader.{Held, held, step, full, fed, fetched, packet_of}

-- a fetch: the packet, where a frame is complete, and what is left
abbrev pub packets_in : Held → List (List ℕ)
packets_in s = cond (full s) (packet_of s ∷ []) []

abbrev pub fetched_in : Held → Held
fetched_in s = cond (full s) (held (fetched s.reader) s.buf) s

-- what a run of bytes leaves, and the packets read, in order
pub record Heard : Type 0 where
  pub now : Held
  pub packets : List (List ℕ)

abbrev pub behind : List (List ℕ) → Heard → Heard
behind ps h = record { now = h.now; packets = ps ++ h.packets }

unfoldable pub heard : Held → List ℕ → Heard
heard s [] = record { now = s; packets = [] }
heard s (b ∷ bs) = behind (packets_in (step s b)) (heard (fetched_in (step s b)) bs)

-- calls, one for each cut: what the last one left is handed in again with the cut behind it, then a fetch
pub record Served : Type 0 where
  pub now : Held
  pub packets : List (List ℕ)
  pub left : List ℕ

abbrev pub served_behind : List (List ℕ) → Served → Served
served_behind ps r = record { now = r.now; packets = ps ++ r.packets; left = r.left }

unfoldable pub served : Held → List ℕ → List (List ℕ) → Served
served s rest [] = record { now = s; packets = []; left = rest }
served s rest (c ∷ cs) =
    served_behind (packets_in (fed s (rest ++ c)).now)
    (served (fetched_in (fed s (rest ++ c)).now) (fed s (rest ++ c)).left cs)

-- Options in a list of bytes: one at its front, and all of them up to the end or to the first that is cut.
use Rattle.std.specs.Prelude.{Bool, cond, List, [], ◌∷◌, ℕ, zero, suc, ◌+◌, ◌-◌, ◌*◌, ltb, length, get_or, take, drop, Option, None, Some}
use Rattle.laws.specs.Be.{be_bytes}
use Rattle.options.specs.declared.walk.Head.{Head}
use Rattle.options.specs.declared.proto.Verdict.{Verdict}
use Rattle.options.specs.declared.proto.Verdict.TheVariants.{Ack, Nack, Rej}

-- what a reply may list: so many options, so many data bytes in each, and so many bytes an option with its header
abbrev pub max_options : ℕ
max_options = 6

abbrev pub max_option_len : ℕ
max_option_len = 4

abbrev pub max_listed : ℕ
max_listed = max_option_len + 2

-- an own option of four data bytes, and the own options of a request: three such
abbrev pub field_size : ℕ
field_size = 6

abbrev pub max_own : ℕ
max_own = 3 * field_size

-- code and length, or None: no room for both, an option longer than the rest, or one under 2 bytes
abbrev pub option_of : List ℕ → Option Head
option_of s =
    cond (ltb (length s) 2) None
    (cond (ltb (length s) (get_or s 1 0)) None
    (cond (ltb (get_or s 1 0) 2) None (Some (record { code = get_or s 0 0; len = get_or s 1 0 }))))

-- the options in order; where one is cut, its offset from the first option byte
pub data Walk : Type 0 where
  done : Walk
  cut : ℕ → Walk
  opt : ℕ → List ℕ → Walk → Walk

abbrev pub walk_by : ℕ → List ℕ → Option Head → (ℕ → List ℕ → Walk) → Walk
walk_by at s None on = cut at
walk_by at s (Some h) on = opt h.code (take (h.len - 2) (drop 2 s)) (on (at + h.len) (drop h.len s))

-- at most k options
unfoldable pub walk_in : ℕ → ℕ → List ℕ → Walk
walk_in zero at s = done
walk_in (suc k) at [] = done
walk_in (suc k) at (b ∷ bs) = walk_by at (b ∷ bs) (option_of (b ∷ bs)) (walk_in k)

-- all of them, the first at offset at: a list has no more options than bytes
unfoldable pub walk_from : ℕ → List ℕ → Walk
walk_from at s = walk_in (length s) at s

abbrev pub walk_of : List ℕ → Walk
walk_of s = walk_from 0 s

-- an option as it is laid out
abbrev pub opt_bytes : ℕ → List ℕ → List ℕ
opt_bytes c d = c ∷ (length d + 2) ∷ d

-- an own option of four data bytes, unless it was dropped
abbrev pub own_field : Bool → ℕ → ℕ → List ℕ
own_field dropped c v = cond dropped [] (opt_bytes c (be_bytes 4 v))

-- the value sent back: the request's own, or the suggestion's
abbrev pub sent_back : Verdict → List ℕ → List ℕ → List ℕ
sent_back Ack d s = d
sent_back Nack d s = s
sent_back Rej d s = d

-- Document 01's refusal numbers, of the refusals that framing gives.
use Rattle.std.specs.Prelude.{ℕ, Result, Ok, Err}
use Rattle.framing.specs.declared.refusal.Refusal.{Refusal}
use Rattle.framing.specs.declared.refusal.Refusal.TheVariants.{BufferFull, BufferShort, FrameShort}

abbrev pub number_of : Refusal → ℕ
number_of BufferFull = 1
number_of BufferShort = 3
number_of FrameShort = 5

-- 0 where nothing was refused
abbrev pub outcome_number : {A : Type 0} → Result A Refusal → ℕ
outcome_number (Ok a) = 0
outcome_number (Err r) = number_of r

-- a refused call counts 0
abbrev pub count_of : {E : Type 0} → Result ℕ E → ℕ
count_of (Ok n) = n
count_of (Err r) = 0

-- The refusal numbers of documents 01 and 02, of all refusals that the link gives.
use Rattle.std.specs.Prelude.{Bool, ◌||◌, List, [], ℕ, eqb, Result, Ok, Err}
use Rattle.framing.specs.Refusal as framing
use Rattle.options.specs.Refusal as negotiation
use Rattle.link.specs.declared.refusal.Refusal.{Refusal}
use Rattle.link.specs.declared.refusal.Refusal.TheVariants.{Framing, Negotiation, FramesFull}

abbrev pub number_of : Refusal → ℕ
number_of (Framing r) = framing.number_of r
number_of (Negotiation r) = negotiation.number_of r
number_of FramesFull = 1

-- what a refusal tells beside its number
abbrev pub values_of : Refusal → List ℕ
values_of (Framing r) = []
values_of (Negotiation r) = negotiation.values_of r
values_of FramesFull = []

-- the numbers that two crates give, each for a cause of its own: 1 units or frames, 5 a packet or a frame that is short
abbrev pub is_shared : ℕ → Bool
is_shared n = eqb n 1 || eqb n 5

-- 0 where nothing was refused
abbrev pub outcome_number : {A : Type 0} → Result A Refusal → ℕ
outcome_number (Ok x) = 0
outcome_number (Err r) = number_of r

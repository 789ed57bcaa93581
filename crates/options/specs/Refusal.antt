-- The refusal numbers of documents 01 and 02, of the refusals that negotiation gives.
use Rattle.std.specs.Prelude.{Bool, true, false, List, [], ◌∷◌, ℕ, Result, Ok, Err}
use Rattle.options.specs.declared.refusal.Refusal.{Refusal}
use Rattle.options.specs.declared.refusal.Refusal.TheVariants.{NotDead, CredentialsLong, PacketShort, ConfigureShort, EchoEmpty, PapPast, OptionCut, OptionLong, OptionsMany, ReplyLong}

abbrev pub number_of : Refusal → ℕ
number_of NotDead = 2
number_of CredentialsLong = 4
number_of PacketShort = 5
number_of ConfigureShort = 11
number_of EchoEmpty = 12
number_of PapPast = 13
number_of (OptionCut at) = 7
number_of OptionLong = 8
number_of OptionsMany = 9
number_of ReplyLong = 10

-- what a refusal tells beside its number: 7 has the offset of the option
abbrev pub values_of : Refusal → List ℕ
values_of NotDead = []
values_of CredentialsLong = []
values_of PacketShort = []
values_of ConfigureShort = []
values_of EchoEmpty = []
values_of PapPast = []
values_of (OptionCut at) = at ∷ []
values_of OptionLong = []
values_of OptionsMany = []
values_of ReplyLong = []

-- 0 where nothing was refused
abbrev pub outcome_number : Result Unit Refusal → ℕ
outcome_number (Ok x) = 0
outcome_number (Err r) = number_of r

abbrev pub outcome_values : Result Unit Refusal → List ℕ
outcome_values (Ok x) = []
outcome_values (Err r) = values_of r

abbrev pub is_done : Result Unit Refusal → Bool
is_done (Ok x) = true
is_done (Err r) = false

-- What was chosen when the link was made, every call keeps.
-- Assumes nothing.
use mathlib.Core.Path.{◌≡◌, refl, ap, ◌∙◌}
use mathlib.Core.List.{List}
use Prim.Native.Nat.{ℕ}
use Rattle.std.specs.Prelude.{Result}
use Rattle.framing.specs.Reader.{consumed}
use Rattle.framing.specs.declared.frame_reader.Reading.{Reading}
use Rattle.framing.proofs.SameReading.{consumed_reading}
use Rattle.link.specs.Choices.{choices_of, Plain, plain_in}
use Rattle.link.specs.Link.{link_of, held_by, Makes, Opens, Consumes, poll_link, Polls}
use Rattle.link.specs.Reached.{Reached, by_new, by_open, by_consume, by_poll}
use Rattle.link.specs.declared.refusal.Refusal.{Refusal}
use Rattle.link.specs.declared.choices.Choices.{Choices}
use Rattle.link.specs.declared.pppos.PPPoS.{PPPoS}
use Rattle.link.specs.declared.pppos.PPPoSAction.{PPPoSAction}
use Rattle.link.proofs.Leaving.{poll-leaves}

pub plain_in_lem : (k : Reading) → Plain (plain_in k)
plain_in_lem k = record {}

consumed_choices : (l : PPPoS) (rx bs : List ℕ) → choices_of (link_of (consumed (held_by l rx) bs).now.reader l.ppp) ≡ choices_of l
consumed_choices l rx bs = ap (λ (k : Reading). record { reading = k }) (consumed_reading (held_by l rx) bs)

poll_choices : (l : PPPoS) (tx rx : List ℕ) → choices_of (poll_link l tx rx).link ≡ choices_of l
poll_choices l tx rx = poll-leaves (λ m. choices_of m ≡ choices_of l) l tx rx refl refl (λ _. refl) refl

-- each call as its contract has it, refusals included; send, status and choices leave the link
pub makes_chosen : (name password : List ℕ) (c : Choices) {o : Result Unit Refusal} {l : PPPoS} → Makes name password c o l → choices_of l ≡ c
makes_chosen name password c m = ap choices_of m.link

module _ (l : PPPoS) {l' : PPPoS} where
  pub opens_keeps : {o : Result Unit Refusal} → Opens l o l' → choices_of l' ≡ choices_of l
  opens_keeps c = ap choices_of c.link

  pub consumes_keeps : (rx bs : List ℕ) {t : Result ℕ Refusal} {rx' : List ℕ} → Consumes l rx bs t l' rx' → choices_of l' ≡ choices_of l
  consumes_keeps rx bs c = ap choices_of c.link ∙ consumed_choices l rx bs

  pub polls_keeps : (tx rx : List ℕ) {a : Result PPPoSAction Refusal} {tx' rx' : List ℕ} → Polls (poll_link l tx rx) a l' tx' rx' → choices_of l' ≡ choices_of l
  polls_keeps tx rx p = ap choices_of p.link ∙ poll_choices l tx rx

-- so a link that calls reach has the choices that it was made with
pub reached_chosen : {c : Choices} {l : PPPoS} → Reached c l → choices_of l ≡ c
reached_chosen (by_new name password) = refl
reached_chosen (by_open l r) = reached_chosen r
reached_chosen (by_consume l rx bs r) = consumed_choices l rx bs ∙ reached_chosen r
reached_chosen (by_poll l tx rx r) = poll_choices l tx rx ∙ reached_chosen r

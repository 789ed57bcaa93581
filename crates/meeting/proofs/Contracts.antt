-- The statement is about what a caller holds: by the contracts of the link's functions every call gives back a link that calls reach,
-- and `open` or `consume` with a poll behind it is the statement's call.
-- Assumes nothing.
use mathlib.Core.Path.{◌≡◌, refl}
use mathlib.Core.Bool.{Bool, true, false, cond}
use mathlib.Core.List.{List}
use Prim.Native.Nat.{ℕ}
use lib.ListN.{take}
use Rattle.std.specs.Prelude.{Result, Ok, Err}
use Rattle.framing.specs.Reader.{is_short}
use Rattle.framing.specs.Refusal.{count_of}
use Rattle.framing.specs.declared.refusal.Refusal.TheVariants as framing
use Rattle.link.specs.Refusal.{outcome_number}
use Rattle.link.specs.Link.{held_by, Makes, Opens, Consumes, Polls, poll_link, action_number, transmitted}
use Rattle.link.specs.Reached.{Reached, by_new, by_open, by_consume, by_poll}
use Rattle.link.specs.declared.refusal.Refusal.{Refusal}
use Rattle.link.specs.declared.refusal.Refusal.TheVariants.{Framing}
use Rattle.link.specs.declared.choices.Choices.{Choices}
use Rattle.link.specs.declared.pppos.PPPoS.{PPPoS}
use Rattle.link.specs.declared.pppos.PPPoSAction.{PPPoSAction}
use Rattle.meeting.specs.Calls.{end_of, Answer, opens, takes}

-- ---- reached, whatever is lent and whether or not it is refused

pub new_reaches : (name password : List ℕ) (c : Choices) {o : Result Unit Refusal} {l : PPPoS} → Makes name password c o l → Reached c l
new_reaches name password c m = rw m.link (by_new name password)

module _ {c : Choices} {l l' : PPPoS} (r : Reached c l) where
  pub open_reaches : {o : Result Unit Refusal} → Opens l o l' → Reached c l'
  open_reaches m = rw m.link (by_open l r)

  pub consume_reaches : (rx bs : List ℕ) {t : Result ℕ Refusal} {rx' : List ℕ} → Consumes l rx bs t l' rx' → Reached c l'
  consume_reaches rx bs m = rw m.link (by_consume l rx bs r)

  pub poll_reaches : (tx rx : List ℕ) {a : Result PPPoSAction Refusal} {tx' rx' : List ℕ} → Polls (poll_link l tx rx) a l' tx' rx' → Reached c l'
  poll_reaches tx rx p = rw p.link (by_poll l tx rx r)

-- ---- the statement's calls

-- an outcome and a count, then an action, the link and both buffers
abbrev pub answer_of : {A : Type 0} → Result A Refusal → ℕ → Result PPPoSAction Refusal → PPPoS → List ℕ → List ℕ → Answer
answer_of o n a l tx rx = record { now = end_of l rx; used = n; written = take (transmitted a) tx; first = outcome_number o; polled = action_number a }

-- a consume's refusal number
short_number : (t : Bool) → outcome_number {A = Unit} (cond t (Err (Framing framing.BufferShort)) (Ok tt)) ≡ cond t 3 0
short_number true = refl
short_number false = refl

module _ (l : PPPoS) {l' : PPPoS} {a : Result PPPoSAction Refusal} {l'' : PPPoS} {tx' rx'' : List ℕ} (tx rx : List ℕ) where
  pub opens_called : {o : Result Unit Refusal} → Opens l o l' → Polls (poll_link l' tx rx) a l'' tx' rx''
      → answer_of o 0 a l'' tx' rx'' ≡ opens (end_of l rx) tx
  unfolding opens
  opens_called c p = rw (p.action, p.link, p.transmit, p.receive, c.outcome, c.link) refl

  pub takes_called : {bs : List ℕ} {t : Result ℕ Refusal} {rx' : List ℕ} → Consumes l rx bs t l' rx' → Polls (poll_link l' tx rx') a l'' tx' rx''
      → answer_of t (count_of t) a l'' tx' rx'' ≡ takes (end_of l rx) tx bs
  unfolding takes
  takes_called c p = rw (p.action, p.link, p.transmit, p.receive, c.number, c.count, c.link, c.bytes, short_number (is_short (held_by l rx))) refl

-- Demand 2 over histories: any calls on a fresh link, plain and in crate reading, one after the other, answer, keep and write what the original's do.
use Rattle.std.specs.Prelude.{◌≡◌, Bool, true, false, cond, List, [], ◌∷◌, map, ℕ, ◌+◌, ◌≤◌, length, Result, Ok, Err}
use Rattle.laws.specs.Each.{Bytes}
use Rattle.framing.specs.declared.refusal.Refusal.TheVariants.{BufferFull}
use Rattle.framing.specs.declared.frame_reader.Reading.TheVariants.{Crate}
use Rattle.options.specs.declared.refusal.Refusal.TheVariants.{NotDead}
use Rattle.phases.specs.Phases.{status_of}
use Rattle.phases.specs.declared.ppp.Status as ours
use Rattle.link.specs.Choices.{Plain}
use Rattle.link.specs.Link.{Makes, Opens, Consumes, poll_link, Polls, Sends}
use Rattle.link.specs.declared.pppos.PPPoSAction.{PPPoSAction}
use Rattle.link.specs.declared.refusal.Refusal.TheVariants.{Framing, Negotiation}
use Rattle.link.specs.declared.refusal.Refusal.{Refusal}
use Rattle.link.specs.declared.choices.Choices.{Choices}
use Rattle.link.specs.declared.pppos.PPPoS.{PPPoS}
use Rattle.original.specs.Run as run
use Rattle.original.specs.Run.{Run, returns, ◌>>=◌, ok, err}
use Rattle.original.specs.Framing.{WriteResult}
use Rattle.original.specs.Ppp.{Status}
use Rattle.original.specs.Pppos as theirs
use Rattle.original.specs.View.{view_link, as_status, as_action}
use Rattle.original.specs.Domain.{Lent}

-- a call, with what it is handed and the buffers that it is lent
pub data Call : Type 0 where
  opens asks : Call
  consumes : (bs rx : List ℕ) → Call
  polls : (tx rx : List ℕ) → Call
  sends : (pkt tx : List ℕ) → Call

-- ---- the original's side

-- what a call answers, and the lent buffers afterwards
pub data Answer : Type 0 where
  opened : (is_ok : Bool) → Answer
  showed : Status → Answer
  took : (count : ℕ) (rx : List ℕ) → Answer
  acted : theirs.PPPoSAction → (tx rx : List ℕ) → Answer
  sent : run.Result ℕ → (tx : List ℕ) → Answer

-- an answer, and the link behind it
pub record Answered : Type 0 where
  pub answer : Answer
  pub link : theirs.PPPoS

abbrev pub opened_by : theirs.PPPoS → run.Result theirs.PPPoS → Answered
opened_by m (ok n) = record { answer = opened true; link = n }
opened_by m err = record { answer = opened false; link = m }

abbrev pub sent_by : WriteResult → Answer
sent_by w = sent (cond w.is_ok (ok w.writer.len) err) w.writer.buf

abbrev pub call_of : theirs.PPPoS → Call → Run Answered
call_of m opens = returns (opened_by m (theirs.open_link m))
call_of m asks = returns (record { answer = showed (theirs.status_link m); link = m })
call_of m (consumes bs rx) = theirs.consume_link m bs rx >>= λ c. returns (record { answer = took c.count c.rx; link = c.link })
call_of m (polls tx rx) = theirs.poll m tx rx >>= λ p. returns (record { answer = acted p.action p.tx p.rx; link = p.link })
call_of m (sends pkt tx) = returns (record { answer = sent_by (theirs.send m pkt tx); link = m })

-- all answers, in order, and the link behind the last
pub record Ran : Type 0 where
  pub answers : List Answer
  pub link : theirs.PPPoS

unfoldable pub calls_of : theirs.PPPoS → List Call → Run Ran
calls_of m [] = returns (record { answers = []; link = m })
calls_of m (c ∷ cs) = call_of m c >>= λ a. calls_of a.link cs >>= λ r. returns (record { answers = a.answer ∷ r.answers; link = r.link })

-- from new on
abbrev pub run_of : List ℕ → List ℕ → List Call → Run Ran
run_of name password cs = theirs.new_link name password >>= λ m. calls_of m cs

-- ---- our side

pub data OurAnswer : Type 0 where
  opened : Result Unit Refusal → OurAnswer
  showed : ours.Status → OurAnswer
  took : Result ℕ Refusal → (rx : List ℕ) → OurAnswer
  acted : Result PPPoSAction Refusal → (tx rx : List ℕ) → OurAnswer
  sent : Result ℕ Refusal → (tx : List ℕ) → OurAnswer

-- an answer of the original, as ours gives it
abbrev pub as_answer : Answer → OurAnswer
as_answer (opened is_ok) = opened (cond is_ok (Ok tt) (Err (Negotiation NotDead)))
as_answer (showed s) = showed (as_status s)
as_answer (took n rx) = took (Ok n) rx
as_answer (acted a tx rx) = acted (Ok (as_action a)) tx rx
as_answer (sent (ok n) tx) = sent (Ok n) tx
as_answer (sent err tx) = sent (Err (Framing BufferFull)) tx

-- one call by its contract, in the domain: what it is handed and lent are bytes, and the receive buffer has what the link keeps
pub data Called (l : PPPoS) : Call → OurAnswer → PPPoS → Type 0 where
  by_open : {o : Result Unit Refusal} {l' : PPPoS} → Opens l o l' → Called l opens (opened o) l'
  by_status : Called l asks (showed (status_of l.ppp)) l
  by_consume : {bs rx : List ℕ} {t : Result ℕ Refusal} {l' : PPPoS} {rx' : List ℕ} → Bytes bs → Lent l rx → Consumes l rx bs t l' rx' → Called l (consumes bs rx) (took t rx') l'
  by_poll : {tx rx : List ℕ} {a : Result PPPoSAction Refusal} {l' : PPPoS} {tx' rx' : List ℕ} → Lent l rx → Polls (poll_link l tx rx) a l' tx' rx' → Called l (polls tx rx) (acted a tx' rx') l'
  by_send : {pkt tx : List ℕ} {t : Result ℕ Refusal} {tx' : List ℕ} → Bytes pkt → Sends l pkt tx t tx' → Called l (sends pkt tx) (sent t tx') l

pub data Calls : PPPoS → List Call → List OurAnswer → PPPoS → Type 0 where
  none : {l : PPPoS} → Calls l [] [] l
  next : {l : PPPoS} {c : Call} {a : OurAnswer} {m : PPPoS} {cs : List Call} {xs : List OurAnswer} {n : PPPoS} → Called l c a m → Calls m cs xs n → Calls l (c ∷ cs) (a ∷ xs) n

-- from new on: name and password are at most 120 bytes together
pub record History (name password : List ℕ) (cs : List Call) (xs : List OurAnswer) (l : PPPoS) : Type 0 where
  pub name_bytes : Bytes name
  pub password_bytes : Bytes password
  pub fits : length name + length password ≤ 120
  pub choices : Choices
  pub plain : Plain choices
  pub crate_reading : choices.reading ≡ Crate
  pub fresh : PPPoS
  pub outcome : Result Unit Refusal
  pub new : Makes name password choices outcome fresh
  pub calls : Calls fresh cs xs l

-- ---- the claim

-- where the original's run of these calls returns, each answer and buffer of ours is its, and our link is its link
pub record SameHistory : Type 0 where
  pub same : {name password : List ℕ} {cs : List Call} {xs : List OurAnswer} {l : PPPoS} → (h : History name password cs xs l) → {r : Ran} → run_of name password cs ≡ returns r
      → (h.outcome ≡ Ok tt) × (xs ≡ map as_answer r.answers) × (view_link l ≡ r.link)

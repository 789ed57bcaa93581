-- Demand 2: in the domain of document 01, where the original returns, our call answers, keeps and writes what it does.
use Rattle.std.specs.Prelude.{◌≡◌, cond, List, ℕ, ◌+◌, ◌≤◌, length, Result, Ok, Err}
use Rattle.laws.specs.Each.{Bytes}
use Rattle.framing.specs.Refusal.{count_of}
use Rattle.framing.specs.declared.refusal.Refusal.TheVariants.{BufferFull}
use Rattle.framing.specs.declared.frame_reader.Reading.TheVariants.{Crate}
use Rattle.options.specs.declared.refusal.Refusal.TheVariants.{NotDead}
use Rattle.phases.specs.Phases.{status_of}
use Rattle.link.specs.Choices.{choices_of, Plain}
use Rattle.link.specs.Link.{Makes, Opens, Consumes, poll_link, Polls, Sends}
use Rattle.link.specs.declared.pppos.PPPoSAction.{PPPoSAction}
use Rattle.link.specs.declared.refusal.Refusal.TheVariants.{Framing, Negotiation}
use Rattle.link.specs.declared.refusal.Refusal.{Refusal}
use Rattle.link.specs.declared.choices.Choices.{Choices}
use Rattle.link.specs.declared.pppos.PPPoS.{PPPoS}
use Rattle.original.specs.Run as run
use Rattle.original.specs.Run.{returns, ok, err}
use Rattle.original.specs.Framing.{WriteResult}
use Rattle.original.specs.Pppos as theirs
use Rattle.original.specs.View.{view_link, as_status, as_action}
use Rattle.original.specs.Domain.{Lent, InDomain}

-- a call of send: Ok with its count where the original says Ok, refusal 1 where it says Err; and every byte of the buffer
pub record SameSend (r : WriteResult) (t : Result ℕ Refusal) (tx : List ℕ) : Type 0 where
  pub outcome : t ≡ cond r.is_ok (Ok r.writer.len) (Err (Framing BufferFull))
  pub count : count_of t ≡ cond r.is_ok r.writer.len 0
  pub bytes : tx ≡ r.writer.buf

-- a call of open: done where the original says Ok; refusal 2 where it says Err, and the link stays
abbrev pub SameOpen : run.Result theirs.PPPoS → PPPoS → Result Unit Refusal → PPPoS → Type 0
SameOpen (ok m) l o l' = (o ≡ Ok tt) × (view_link l' ≡ m) × (l'.frame_reader ≡ l.frame_reader)
SameOpen err l o l' = (o ≡ Err (Negotiation NotDead)) × (l' ≡ l)

-- a call of poll: the action, the link, still in crate reading, and every byte of both buffers
pub record SamePolled (o : theirs.Poll) (a : Result PPPoSAction Refusal) (l : PPPoS) (tx rx : List ℕ) : Type 0 where
  pub action : a ≡ Ok (as_action o.action)
  pub link : view_link l ≡ o.link
  pub crate_reading : l.frame_reader.reading ≡ Crate
  pub transmit : tx ≡ o.tx
  pub receive : rx ≡ o.rx

-- ---- all calls, each as its contract has it

pub record SameLink : Type 0 where
  pub new : (name password : List ℕ) (c : Choices) → Plain c → c.reading ≡ Crate → length name + length password ≤ 120 → {o : Result Unit Refusal} {l : PPPoS} → Makes name password c o l
      → (o ≡ Ok tt) × (theirs.new_link name password ≡ returns (view_link l)) × (l.frame_reader.reading ≡ Crate)
  pub «open» : (l : PPPoS) → Plain (choices_of l) → {o : Result Unit Refusal} {l' : PPPoS} → Opens l o l' → SameOpen (theirs.open_link (view_link l)) l o l'
  pub status : (l : PPPoS) → Plain (choices_of l) → status_of l.ppp ≡ as_status (theirs.status_link (view_link l))
  -- it always returns
  pub consume : (l : PPPoS) (rx bs : List ℕ) → Plain (choices_of l) → (choices_of l).reading ≡ Crate → Lent l rx → Bytes bs → {t : Result ℕ Refusal} {l' : PPPoS} {rx' : List ℕ} → Consumes l rx bs t l' rx'
      → (t ≡ Ok (count_of t)) × (theirs.consume_link (view_link l) bs rx ≡ returns (record { count = count_of t; link = view_link l'; rx = rx' })) × (l'.frame_reader.reading ≡ Crate)
  pub poll : (l : PPPoS) (tx rx : List ℕ) → InDomain l rx → {a : Result PPPoSAction Refusal} {l' : PPPoS} {tx' rx' : List ℕ} → Polls (poll_link l tx rx) a l' tx' rx'
      → {o : theirs.Poll} → theirs.poll (view_link l) tx rx ≡ returns o → SamePolled o a l' tx' rx'
  pub send : (l : PPPoS) (pkt tx : List ℕ) → Plain (choices_of l) → Bytes pkt → {t : Result ℕ Refusal} {tx' : List ℕ} → Sends l pkt tx t tx' → SameSend (theirs.send (view_link l) pkt tx) t tx'

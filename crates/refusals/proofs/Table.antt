-- The refusal table holds of every call of the link and of the status lines: each row is given exactly when it says, and leaves and tells what it says.
-- Assumes nothing.
use mathlib.Core.Path.{◌≡◌, refl, ap, ◌∙◌}
use mathlib.Core.List.{List, ◌++◌}
use Prim.Native.Nat.{ℕ}
use lib.ListN.{length, drop}
use Rattle.std.specs.Prelude.{Result}
use Rattle.framing.specs.Reader.{fresh_reader}
use Rattle.framing.specs.Drops.{dropped}
use Rattle.framing.specs.declared.drops.Drops.{Drops}
use Rattle.phases.specs.declared.ppp.Status.{Status}
use Rattle.framing.specs.Refusal as framing
use Rattle.framing.specs.declared.refusal.Refusal as framed
use Rattle.link.specs.Refusal.{outcome_number}
use Rattle.link.specs.Link.{link_of, held_by, Makes, Opens, Consumes, poll_link, Polls, action_number, action_values, Sends, transmitted}
use Rattle.status_lines.specs.Lines.{lines_of, Shows}
use Rattle.refusals.specs.Rows.{Exactly}
use Rattle.refusals.specs.Framing.{consume_rows}
use Rattle.refusals.specs.Table.{empty_link, new_rows, open_rows, send_rows, lines_rows, poll_rows}
use Rattle.link.specs.declared.refusal.Refusal.{Refusal}
use Rattle.link.specs.declared.choices.Choices.{Choices}
use Rattle.link.specs.declared.pppos.PPPoS.{PPPoS}
use Rattle.link.specs.declared.pppos.PPPoSAction.{PPPoSAction}
use Rattle.refusals.proofs.Rows.{first_exactly}
use Rattle.refusals.proofs.Calls.{new_first, open_first, consume-first, send-first, lines_first}
use Rattle.refusals.proofs.Polls.{out_of, poll-first, poll-sent}

-- a poll has some bytes to send, whatever its transmit buffer: the table holds with them, and they are sent where nothing is refused
pub record PollHolds (l : PPPoS) (rx : List ℕ) : Type 0 where
  pub out : List ℕ
  pub table : (tx : List ℕ) {a : Result PPPoSAction Refusal} {l' : PPPoS} {tx' rx' : List ℕ} → Polls (poll_link l tx rx) a l' tx' rx'
      → Exactly ⊥ (poll_rows l tx rx out) (action_number a) (record { told = action_values a; link = l'; tx = tx'; rx = rx' })
  pub sent : (tx : List ℕ) {a : Result PPPoSAction Refusal} {l' : PPPoS} {tx' rx' : List ℕ} → Polls (poll_link l tx rx) a l' tx' rx'
      → action_number a ≡ 0 → (transmitted a ≡ length out) × (tx' ≡ out ++ drop (length out) tx)

-- each call as its contract has it
pub record TableHolds : Type 0 where
  pub new : (name password : List ℕ) (c : Choices) {o : Result Unit Refusal} {l : PPPoS} → Makes name password c o l
      → Exactly ⊥ (new_rows name password (empty_link c)) (outcome_number o) l
  pub «open» : (l : PPPoS) {o : Result Unit Refusal} {l' : PPPoS} → Opens l o l'
      → Exactly ⊥ (open_rows l.ppp.phase l) (outcome_number o) l'
  pub consume : (l : PPPoS) (rx bs : List ℕ) {t : Result ℕ Refusal} {d : Drops} {l' : PPPoS} {rx' : List ℕ} → Consumes l rx bs t l' rx' → d ≡ dropped (held_by l rx) bs
      → Exactly ⊥ (consume_rows l.frame_reader.len l rx) (outcome_number t) (record { count = framing.count_of t; drops = d; kept = l'; rx = rx' })
  pub poll : (l : PPPoS) (rx : List ℕ) → PollHolds l rx
  -- `send`, and `send_parts` with the join of its parts
  pub send : (l : PPPoS) (pkt tx : List ℕ) {r : Result ℕ Refusal} {tx' : List ℕ} → Sends l pkt tx r tx'
      → Exactly ⊥ (send_rows l pkt tx) (outcome_number r) (record { count = framing.count_of r; bytes = tx' })
  pub lines : (s : Status) (buf : List ℕ) {r : Result ℕ framed.Refusal} {buf' : List ℕ} → Shows s buf r buf'
      → Exactly ⊥ (lines_rows (lines_of s) buf) (framing.outcome_number r) (record { count = framing.count_of r; bytes = buf' })

poll-holds : (l : PPPoS) (rx : List ℕ) → PollHolds l rx
poll-holds l rx =
    record {
      out = out_of l rx;
      table = λ tx c. first_exactly _ _ (poll_rows l tx rx (out_of l rx)) (poll-first l tx rx c) refl;
      sent = λ tx c. poll-sent l tx rx c;
    }

pub exactly : TableHolds
exactly =
    record {
      new = λ name password c m. first_exactly _ _ (new_rows name password (empty_link c)) (new_first name password (empty_link c) m.number (λ e. m.link ∙ ap (link_of (fresh_reader c.reading)) e)) refl;
      «open» = λ l c. first_exactly _ _ (open_rows l.ppp.phase l) (open_first l.ppp l c.number (λ e. c.link ∙ ap (link_of l.frame_reader) e)) refl;
      consume = λ l rx bs c d. first_exactly _ _ (consume_rows l.frame_reader.len l rx) (consume-first l rx bs c d) refl;
      poll = poll-holds;
      send = λ l pkt tx c. first_exactly _ _ (send_rows l pkt tx) (send-first l pkt tx c) refl;
      lines = λ s buf c. first_exactly _ _ (lines_rows (lines_of s) buf) (lines_first s buf c) refl;
    }

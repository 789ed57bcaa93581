-- The refusal table holds of the calls below the link: each row is given exactly when it says, and leaves and tells what it says.
-- Assumes nothing.
use mathlib.Core.Path.{◌≡◌, refl, ap, ◌∙◌}
use mathlib.Core.Bool.{Bool, false}
use mathlib.Core.List.{List}
use Prim.Native.Nat.{ℕ}
use Rattle.std.specs.Prelude.{Result}
use Rattle.options.specs.Refusal.{outcome_number, outcome_values}
use Rattle.options.specs.declared.refusal.Refusal.{Refusal}
use Rattle.negotiation.specs.Automaton.{handled, handle_of, protocol_reject_of}
use Rattle.negotiation.specs.Auth.{auth_handled, auth_handle_of}
use Rattle.negotiation.specs.declared.replies.Handled.{Handled}
use Rattle.options.specs.declared.proto.Proto.{Proto}
use Rattle.negotiation.specs.declared.option_fsm.OptionFsm.{OptionFsm}
use Rattle.negotiation.specs.declared.auth.Auth.{Auth}
use Rattle.negotiation.specs.declared.replies.Replies.{Replies}
use Rattle.phases.specs.Phases.{new_of, open_of, turn_of, Changes, Turns}
use Rattle.phases.specs.declared.ppp.Ppp.{Ppp}
use Rattle.refusals.specs.Rows.{Exactly}
use Rattle.refusals.specs.Packets.{Unchanged, turn_rows, reject_rows, pap_rows}
use Rattle.refusals.specs.Table.{empty_ppp, new_rows, open_rows}
use Rattle.refusals.proofs.Rows.{first_exactly}
use Rattle.refusals.proofs.Calls.{new_first, open_first}
use Rattle.refusals.proofs.Below.{turn_first, handle_left, reject_first, pap-first}

-- each call as its contract has it
pub record BelowHolds : Type 0 where
  -- `Ppp::new`, `Ppp::open`, `Ppp::turn`
  pub new : (name password : List ℕ) {o : Result Unit Refusal} {p : Ppp} → Changes (new_of name password) o p
      → Exactly ⊥ (new_rows name password empty_ppp) (outcome_number o) p
  pub «open» : (p : Ppp) {o : Result Unit Refusal} {p' : Ppp} → Changes (open_of p) o p'
      → Exactly ⊥ (open_rows p.phase p) (outcome_number o) p'
  pub turn : (p : Ppp) (pkt : List ℕ) {o : Result Unit Refusal} {e : Bool} {p' : Ppp} {rs : Replies} → Turns (turn_of p pkt) o e p' rs
      → Exactly ⊥ (turn_rows p pkt) (outcome_number o) (record { told = outcome_values o; kept = p'; echoed = e; count = rs.count })
  -- `OptionFsm::handle`, `OptionFsm::send_protocol_reject`, `Auth::handle_pap`
  pub handle : (f : OptionFsm Proto) (pkt : List ℕ) {h : Handled (OptionFsm Proto)} → h ≡ handled (handle_of f pkt) → (outcome_number h.outcome ≡ 0 → ⊥)
      → Unchanged f (record { told = outcome_values h.outcome; kept = h.left; echoed = h.echoed; count = h.replies.count })
  pub reject : (f : OptionFsm Proto) (pkt : List ℕ) {h : Handled (OptionFsm Proto)} → h ≡ handled (protocol_reject_of f pkt)
      → Exactly ⊥ (reject_rows f pkt) (outcome_number h.outcome) (record { told = outcome_values h.outcome; kept = h.left; echoed = h.echoed; count = h.replies.count })
  pub pap : (a : Auth) (pkt : List ℕ) {h : Handled Auth} → h ≡ auth_handled (auth_handle_of a pkt)
      → Exactly ⊥ (pap_rows a pkt) (outcome_number h.outcome) (record { told = outcome_values h.outcome; kept = h.left; echoed = h.echoed; count = h.replies.count })

pub exactly_below : BelowHolds
exactly_below =
    record {
      new = λ name password c. first_exactly _ _ (new_rows name password empty_ppp) (new_first name password empty_ppp (ap outcome_number c.outcome) (λ e. c.ppp ∙ e)) refl;
      «open» = λ p c. first_exactly _ _ (open_rows p.phase p) (open_first p p (ap outcome_number c.outcome) (λ e. c.ppp ∙ e)) refl;
      turn = λ p pkt c. first_exactly _ _ (turn_rows p pkt) (turn_first p pkt c) refl;
      handle = λ f pkt e z. handle_left f pkt e z;
      reject = λ f pkt e. first_exactly _ _ (reject_rows f pkt) (reject_first f pkt e) refl;
      pap = λ a pkt e. first_exactly _ _ (pap_rows a pkt) (pap-first a pkt e) refl;
    }

-- The refusal table of the calls below the link: the first row that holds.
-- Assumes nothing.
use mathlib.Core.Path.{◌≡◌, refl, ap, ◌∙◌}
use mathlib.Core.Bool.{Bool, false}
use mathlib.Core.List.{List, []}
use mathlib.Core.Logic.{inl, inr}
use Prim.Native.Nat.{ℕ}
use native.Mathlib.Omega.{arith}
use borrow.Author.Tests.{lt-ltb, le-ltb}
use lib.ListN.{length}
use Rattle.std.specs.Prelude.{Result, Ok, Err}
use Rattle.laws.proofs.Cases.{by_le}
use Rattle.options.specs.Refusal.{number_of, is_done, outcome_number, outcome_values}
use Rattle.options.specs.declared.refusal.Refusal.{Refusal}
use Rattle.negotiation.specs.Messages.{max_rejected}
use Rattle.negotiation.specs.Replies.{replies_of}
use Rattle.negotiation.specs.Automaton.{handled, handle_of, protocol_reject_of}
use Rattle.negotiation.specs.Auth.{auth_handled, auth_handle_of}
use Rattle.options.specs.declared.proto.Proto.{Proto}
use Rattle.negotiation.specs.declared.option_fsm.OptionFsm.{OptionFsm}
use Rattle.negotiation.specs.declared.replies.Handled.{Handled}
use Rattle.negotiation.specs.declared.auth.Auth.{Auth}
use Rattle.negotiation.specs.declared.replies.Replies.{Replies}
use Rattle.negotiation.proofs.Proper.{proper_handle}
use Rattle.phases.specs.Phases.{received_of, turn_of, Turns}
use Rattle.phases.specs.declared.ppp.Ppp.{Ppp}
use Rattle.phases.proofs.Phasing.{turn_refused_lem, turn_done}
use Rattle.refusals.specs.Packets.{Answered, Unchanged, turn_rows, reject_rows, pap_rows}
use Rattle.refusals.proofs.Rows.{First}
use Rattle.refusals.proofs.Causes.{PapBy, pap_by}
use Rattle.refusals.proofs.Packets.{refusal_some, packet_fine, packet_refused}

count_of : (ps : List (List ℕ)) → (replies_of ps).count ≡ length ps
unfolding replies_of
count_of ps = refl

module _ (p : Ppp) (pkt : List ℕ) {o : Result Unit Refusal} {e : Bool} {p' : Ppp} {rs : Replies} (c : Turns (turn_of p pkt) o e p' rs) where
  abbrev after : Answered Ppp
  after = record { told = outcome_values o; kept = p'; echoed = e; count = rs.count }

  pub turn_first : First (outcome_number o) after (turn_rows p pkt)
  turn_first = go (received_of p pkt).outcome refl
    where
      go : (x : Result Unit Refusal) → (received_of p pkt).outcome ≡ x → First (outcome_number o) after (turn_rows p pkt)
      go (Ok tt) d =
          let n : outcome_number o ≡ 0 = ap outcome_number c.outcome ∙ rw (turn_done p pkt d) refl in
          packet_fine (λ c. c) (λ t. t.told) (Unchanged p) p pkt [] after (λ _ x. (x, ap outcome_number d)) n
      go (Err why) d =
          let t = turn_refused_lem p pkt d in
          let n : outcome_number o ≡ number_of why = ap outcome_number c.outcome ∙ rw t refl in
          packet_refused (λ c. c) (λ t. t.told) (Unchanged p) p pkt [] after (λ _ x. x) (λ _ x. x)
          (c.ppp ∙ rw t refl, c.echoed ∙ rw t refl, ap (λ (r : Replies). r.count) c.replies ∙ count_of _ ∙ rw t refl)
          (ap outcome_values c.outcome ∙ rw (t, d) refl)
          (outcome_number o) (ap outcome_number d ∙ rw n refl) (λ z. refusal_some why (rw n at z))

-- an automaton that refuses leaves all
pub handle_left : (f : OptionFsm Proto) (pkt : List ℕ) {h : Handled (OptionFsm Proto)} → h ≡ handled (handle_of f pkt) → (outcome_number h.outcome ≡ 0 → ⊥)
    → Unchanged f (record { told = outcome_values h.outcome; kept = h.left; echoed = h.echoed; count = h.replies.count })
handle_left f pkt {h} e z =
    let t = handle_of f pkt in
    let k = (proper_handle f pkt).left (not_done t.outcome (rw (ap (λ (h : Handled (OptionFsm Proto)). h.outcome) e) at z)) in
    rw e (k.0, k.2, count_of t.sent ∙ ap length k.1)
  where
    not_done : (o : Result Unit Refusal) → (outcome_number o ≡ 0 → ⊥) → is_done o ≡ false
    not_done (Ok tt) n = absurd (n refl)
    not_done (Err why) n = refl

pub reject_first : (f : OptionFsm Proto) (pkt : List ℕ) {h : Handled (OptionFsm Proto)} → h ≡ handled (protocol_reject_of f pkt)
    → First (outcome_number h.outcome) (record { told = outcome_values h.outcome; kept = h.left; echoed = h.echoed; count = h.replies.count }) (reject_rows f pkt)
unfolding protocol_reject_of
reject_first f pkt {h} e =
    by_le (length pkt) max_rejected
    (λ l. rw (e, le-ltb _ _ l) (inr ((λ k. omega arith), refl)))
    (λ l. rw (e, lt-ltb _ _ l) (inl (refl, omega arith, ((refl, refl, count_of []), refl))))

pub pap-first : (a : Auth) (pkt : List ℕ) {h : Handled Auth} → h ≡ auth_handled (auth_handle_of a pkt)
    → First (outcome_number h.outcome) (record { told = outcome_values h.outcome; kept = h.left; echoed = h.echoed; count = h.replies.count }) (pap_rows a pkt)
pap-first a pkt {h} e = go (pap_by a pkt)
  where
    go : PapBy a pkt → First (outcome_number h.outcome) (record { told = outcome_values h.outcome; kept = h.left; echoed = h.echoed; count = h.replies.count }) (pap_rows a pkt)
    go (inl x) = rw (e, x.1) (inl (refl, x.0, ((refl, refl, count_of []), refl)))
    go (inr x) = inr (x.0, ap (λ (h : Handled Auth). outcome_number h.outcome) e ∙ ap outcome_number x.1)

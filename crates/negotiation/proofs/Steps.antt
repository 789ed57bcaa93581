-- Which states a step leads to: a packet closes an automaton only from Opened, and opens none that is Closed.
-- Assumes nothing.
use Rattle.std.proofs.Common.{◌≡◌, ℕ, ◌+◌, Bool, true, false, eqb, ltb, List, length, get_or, take, refl, ap, ◌∙◌, true≢false}
use mathlib.Core.Bool.{false≢true}
use Rattle.laws.proofs.Cases.{by_test, cond_by, cond_all}
use Rattle.options.specs.declared.proto.Verdict.{Verdict}
use Rattle.options.specs.declared.proto.Verdict.TheVariants.{Ack, Nack, Rej}
use Rattle.std.specs.Prelude.{Result, Ok, Err}
use Rattle.options.specs.declared.refusal.Refusal.{Refusal}
use Rattle.options.specs.Refusal.{is_done}
use Rattle.options.specs.Wire.{max_packet, length_field}
use Rattle.options.specs.declared.proto.Proto.{Proto}
use Rattle.negotiation.specs.declared.option_fsm.OptionFsm.{OptionFsm}
use Rattle.negotiation.specs.declared.states.State.{State}
use Rattle.negotiation.specs.declared.states.State.TheVariants.{Closed, ReqSent, AckReceived, AckSent, Opened}
use Rattle.negotiation.specs.Messages.{max_rejected}
use Rattle.negotiation.specs.Automaton.{after_acked, after_not_acked, after_req, after_ack, after_nack, after_term, is_closed, is_opened, Reaction, requested, term_ack_of, ack_of, req_of, nack_of, ignore_of, echo_of, act_of, handle_of, protocol_reject_of, opened_fsm}
use Rattle.negotiation.proofs.Proper.{proper_handle}
use Rattle.negotiation.proofs.StateTable.{answer, is_closed_lem, req_goes, ack_goes, nack_goes}

done_is : (o : Result Unit Refusal) → is_done o ≡ true → o ≡ Ok tt
done_is (Ok x) e = refl
done_is (Err why) e = absurd (false≢true e)

pub closed_shut : (s : State) → is_closed s ≡ true → is_opened s ≡ false
closed_shut s e = ap is_opened (is_closed_lem s e)

-- where s is not Opened, t is Closed exactly if s is: only a TerminateReq in Opened closes
abbrev pub Near : State → State → Type 0
Near s t = is_opened s ≡ false → is_closed t ≡ is_closed s

pub stays_closed : {s t : State} → s ≡ Closed → Near s t → t ≡ Closed
stays_closed {s} {t} e n = is_closed_lem t (n (ap is_opened e) ∙ ap is_closed e)

module _ (after : State → State) (closed : is_closed (after Closed) ≡ true) (sent : is_closed (after ReqSent) ≡ false)
    (received : is_closed (after AckReceived) ≡ false) (acked : is_closed (after AckSent) ≡ false) where
  after_near : (s : State) → Near s (after s)
  after_near Closed _ = closed
  after_near ReqSent _ = sent
  after_near AckReceived _ = received
  after_near AckSent _ = acked
  after_near Opened e = absurd (true≢false e)

req_near : (s : State) (v : Verdict) → Near s (after_req s v)
req_near s Ack = after_near after_acked refl refl refl refl s
req_near s Nack = after_near after_not_acked refl refl refl refl s
req_near s Rej = after_near after_not_acked refl refl refl refl s

module _ (f : OptionFsm Proto) where
  -- ---- a received packet

  abbrev NearStep : Reaction → Type 0
  NearStep t = t.outcome ≡ Ok tt → Near f.state t.fsm.state

  moved_near : (t : Reaction) {to : State} → Near f.state to → (t.outcome ≡ Ok tt → t.fsm.state ≡ to) → NearStep t
  moved_near t n m d = rw (m d) n

  stays : NearStep (ignore_of f)
  unfolding ignore_of
  stays _ _ = refl

  act_near : (c i : ℕ) (p : List ℕ) → NearStep (act_of f c i p)
  unfolding act_of echo_of term_ack_of
  act_near c i p =
      let nack : (rej : Bool) → is_closed f.state ≡ false → NearStep (nack_of f rej p)
      = λ rej k. moved_near (nack_of f rej p) (after_near after_nack refl refl refl refl f.state) (λ d. (nack_goes f i p rej k d).state) in
      cond_all NearStep (eqb c 9)
      (cond_all NearStep (is_opened f.state)
      (cond_all NearStep (ltb (length p) 3) (λ _ _. refl) (cond_all NearStep (ltb max_packet (length p)) (λ _ _. refl) (λ _ _. refl)))
      stays)
      (cond_all NearStep (eqb c 11) stays
      (cond_by NearStep (is_closed f.state) (λ _ _ _. refl)
      (λ k. cond_all NearStep (eqb c 1) (moved_near (req_of f i p) (req_near f.state (answer f p).verdict) (λ d. (req_goes f i p (answer f p).verdict refl d).state))
      (cond_all NearStep (eqb c 2) (moved_near (ack_of f) (after_near after_ack refl refl refl refl f.state) (λ d. (ack_goes f i p d).state))
      (cond_all NearStep (eqb c 3) (nack _ k)
      (cond_all NearStep (eqb c 4) (nack _ k)
      (cond_all NearStep (eqb c 5) (λ _. after_near after_term refl refl refl refl f.state) stays)))))))

  done_near : (pkt : List ℕ) → NearStep (handle_of f pkt)
  unfolding handle_of
  done_near pkt =
      cond_all NearStep (ltb (length pkt) 6) stays
      (cond_all NearStep (ltb (length pkt) (length_field pkt + 2)) stays (act_near (get_or pkt 2 0) (get_or pkt 3 0) (take (length_field pkt + 2) pkt)))

  -- a refused packet leaves the automaton
  pub handle_near : (pkt : List ℕ) → Near f.state (handle_of f pkt).fsm.state
  handle_near pkt =
      by_test (is_done (handle_of f pkt).outcome) (λ e. done_near pkt (done_is (handle_of f pkt).outcome e))
      (λ e. rw ((proper_handle f pkt).left e).0 (λ _. refl))

  -- ---- Protocol-Reject and opening

  pub reject_near : (pkt : List ℕ) → Near f.state (protocol_reject_of f pkt).fsm.state
  unfolding protocol_reject_of
  reject_near pkt = cond_all (λ (t : Reaction). Near f.state t.fsm.state) (ltb max_rejected (length pkt)) (λ _. refl) (λ _. refl)

  -- an automaton that is opened has asked, and waits
  pub opened_asks : (opened_fsm f).fsm.state ≡ ReqSent
  unfolding opened_fsm requested
  opened_asks = refl

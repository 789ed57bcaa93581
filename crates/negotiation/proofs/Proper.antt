-- What every step keeps: it sends few and short packets, stays with its protocol, and leaves all where it refuses.
-- Assumes nothing.
use Rattle.std.proofs.Common.{◌≡◌, ℕ, ◌+◌, ◌≤◌, Bool, true, false, eqb, ltb, List, [], ◌∷◌, ◌++◌, length, get_or, take, drop, refl, true≢false, arith, length-append, ltb-false}
use Rattle.laws.specs.Each.{Each}
use Rattle.laws.proofs.Cases.{cond_by, cond_all}
use Rattle.laws.proofs.Each.{each_append}
use Rattle.options.specs.declared.walk.Reply.{Reply}
use Rattle.options.specs.declared.proto.Nacked.{Nacked}
use Rattle.std.specs.Prelude.{Result, Ok, Err}
use Rattle.options.specs.declared.refusal.Refusal.{Refusal}
use Rattle.options.specs.declared.refusal.Refusal.TheVariants.{ConfigureShort, EchoEmpty, ReplyLong}
use Rattle.options.specs.Refusal.{is_done}
use Rattle.options.specs.Wire.{max_packet, length_field}
use Rattle.options.specs.Options.{walk_of}
use Rattle.options.specs.Proto.{protocol_of}
use Rattle.options.proofs.Fair.{Short, Fair, fair_answer, nacks_kind}
use Rattle.options.specs.declared.proto.Proto.{Proto}
use Rattle.negotiation.specs.declared.option_fsm.OptionFsm.{OptionFsm}
use Rattle.negotiation.specs.declared.states.State.TheVariants.{ReqSent}
use Rattle.negotiation.specs.Messages.{max_rejected, next_id, request_bytes, reply_bytes, term_ack_bytes, echo_bytes, reject_bytes}
use Rattle.negotiation.specs.Automaton.{ack_resends, after_ack, after_term, is_closed, is_opened, Reaction, reacts, refusal_of, with_state, requested, ack_of, after_reply, replied_of, unless, req_with, req_of, after_nacked, nack_with, nack_of, term_ack_of, ignore_of, echo_of, act_of, handle_of, stepped, protocol_reject_of, opened_fsm}
use Rattle.negotiation.proofs.Lengths.{request_length, reply_length, term_ack_length, echo_length, reject_length}

-- of a step from f that leaves t
pub record Proper (f : OptionFsm Proto) (t : Reaction) : Type 0 where
  pub few : length t.sent ≤ 2
  pub short : Each Short t.sent
  pub kind : protocol_of t.fsm.proto ≡ protocol_of f.proto
  pub left : is_done t.outcome ≡ false → (t.fsm ≡ f) × (t.sent ≡ []) × (t.echoed ≡ false)

module _ (f : OptionFsm Proto) where
  proper_done : (g : OptionFsm Proto) (ps : List (List ℕ)) → protocol_of g.proto ≡ protocol_of f.proto → length ps ≤ 2 → Each Short ps → Proper f (reacts g ps)
  proper_done g ps e h k = record { few = h; short = k; kind = e; left = λ x. absurd (true≢false x) }

  proper_refused : (why : Refusal) → Proper f (refusal_of f why)
  proper_refused why = record { few = omega arith; short = tt; kind = refl; left = λ x. (refl, refl, refl) }

  proper_ignored : Proper f (ignore_of f)
  unfolding ignore_of
  proper_ignored = proper_done f [] refl (omega arith) tt

  -- one packet
  proper_one : (g : OptionFsm Proto) (l : List ℕ) → protocol_of g.proto ≡ protocol_of f.proto → Short l → Proper f (reacts g (l ∷ []))
  proper_one g l e h = proper_done g (l ∷ []) e (omega arith) (h, tt)

  proper_requested : (g : OptionFsm Proto) (ps : List (List ℕ)) → protocol_of g.proto ≡ protocol_of f.proto → length ps ≤ 1 → Each Short ps → Proper f (requested g ps)
  unfolding requested
  proper_requested g ps e h k =
      let l = request_bytes g.proto (next_id g.id) in
      let s : length l ≤ max_packet = omega (arith, request_length g.proto (next_id g.id)) in
      proper_done _ (ps ++ l ∷ []) e (rw length-append (omega arith)) (each_append Short ps (l ∷ []) k (s, tt))

  proper_unless : (o : Result Unit Refusal) (t : Reaction) → Proper f t → Proper f (unless o f t)
  proper_unless (Ok x) t h = h
  proper_unless (Err why) t h = proper_refused why

  proper_req : (i : ℕ) (r : Reply) → Fair (protocol_of f.proto) r → Proper f (req_with f i r)
  unfolding req_with
  proper_req i r fair =
      let s : length (reply_bytes i r) ≤ max_packet = omega (arith, reply_length i r fair.ready) in
      proper_unless r.outcome (replied_of f i r)
      (cond_all (Proper f) (is_opened f.state)
      (proper_requested (after_reply f r) (reply_bytes i r ∷ []) fair.kind (omega arith) (s, tt))
      (proper_one (after_reply f r) (reply_bytes i r) fair.kind s))

  proper_nack : (n : Nacked) → protocol_of n.proto ≡ protocol_of f.proto → Proper f (nack_with f n)
  unfolding nack_with
  proper_nack n e = proper_unless n.outcome _ (proper_requested (after_nacked f n.proto) [] e (omega arith) tt)

  proper_term : (g : OptionFsm Proto) (i : ℕ) → protocol_of g.proto ≡ protocol_of f.proto → Proper f (term_ack_of g i)
  unfolding term_ack_of
  proper_term g i e = proper_one g (term_ack_bytes g.proto i) e (omega (arith, term_ack_length g.proto i))

  proper_ack : Proper f (ack_of f)
  unfolding ack_of
  proper_ack =
      cond_all (Proper f) (ack_resends f.state) (proper_requested (with_state f (after_ack f.state)) [] refl (omega arith) tt)
      (proper_done (with_state f (after_ack f.state)) [] refl (omega arith) tt)

  proper_echo : (p : List ℕ) → Proper f (echo_of f p)
  unfolding echo_of
  proper_echo p =
      cond_all (Proper f) (is_opened f.state)
      (cond_by (Proper f) (ltb (length p) 3) (λ _. proper_refused EchoEmpty)
      (λ h. cond_by (Proper f) (ltb max_packet (length p)) (λ _. proper_refused ReplyLong) (λ l. record { few = omega arith; short = (long h l, tt); kind = refl; left = λ x. absurd (true≢false x) })))
      proper_ignored
    where
      long : ltb (length p) 3 ≡ false → ltb max_packet (length p) ≡ false → length (echo_bytes f.proto p) ≤ max_packet
      long h l = omega (arith, echo_length f.proto p (ltb-false (length p) 3 h), ltb-false max_packet (length p) l)

  proper_act : (c i : ℕ) (p : List ℕ) → Proper f (act_of f c i p)
  unfolding act_of req_of nack_of
  proper_act c i p =
      cond_all (Proper f) (eqb c 9) (proper_echo p)
      (cond_all (Proper f) (eqb c 11) proper_ignored
      (cond_all (Proper f) (is_closed f.state) (proper_term f i refl)
      (cond_all (Proper f) (eqb c 1) (cond_all (Proper f) (ltb (length p) 6) (proper_refused ConfigureShort) (proper_req i _ (fair_answer f.proto (walk_of (drop 6 p)))))
      (cond_all (Proper f) (eqb c 2) proper_ack
      (cond_all (Proper f) (eqb c 3) (nack false)
      (cond_all (Proper f) (eqb c 4) (nack true)
      (cond_all (Proper f) (eqb c 5) (proper_term (with_state f (after_term f.state)) i refl) proper_ignored)))))))
    where
      nack : (rej : Bool) → Proper f (nack_of f rej p)
      nack rej = cond_all (Proper f) (ltb (length p) 6) (proper_refused ConfigureShort) (proper_nack _ (nacks_kind rej f.proto (walk_of (drop 6 p))))

  pub proper_handle : (p : List ℕ) → Proper f (handle_of f p)
  unfolding handle_of
  proper_handle p =
      cond_all (Proper f) (ltb (length p) 6) proper_ignored
      (cond_all (Proper f) (ltb (length p) (length_field p + 2)) proper_ignored (proper_act (get_or p 2 0) (get_or p 3 0) (take (length_field p + 2) p)))

  pub proper_reject : (p : List ℕ) → Proper f (protocol_reject_of f p)
  unfolding protocol_reject_of
  proper_reject p =
      cond_by (Proper f) (ltb max_rejected (length p)) (λ _. proper_refused ReplyLong)
      (λ e. proper_one (stepped f) (reject_bytes (next_id f.id) p) refl (omega (arith, reject_length (next_id f.id) p, ltb-false max_rejected (length p) e)))

  pub proper_opened : Proper f (opened_fsm f)
  unfolding opened_fsm
  proper_opened = proper_requested (with_state f ReqSent) [] refl (omega arith) tt

  pub opened_one : length (opened_fsm f).sent ≡ 1
  unfolding opened_fsm requested
  opened_one = refl

-- The table of states is what the definitions give, and what a step does.
-- Assumes nothing.
use Rattle.std.proofs.Common.{◌≡◌, ℕ, ◌-◌, Bool, true, false, cond, not, ltb, List, [], ◌∷◌, ◌++◌, map, length, get_or, drop, sym, refl, subst, arith, length-append}
use mathlib.Core.Bool.{false≢true}
use lib.Seq.{get_or_at}
use Rattle.laws.specs.Each.{Each}
use Rattle.laws.proofs.Cases.{cond_by, cond_all}
use Rattle.laws.proofs.Each.{each_append}
use Rattle.options.specs.declared.proto.Proto.{Proto}
use Rattle.negotiation.specs.declared.option_fsm.OptionFsm.{OptionFsm}
use Rattle.options.specs.declared.walk.Reply.{Reply}
use Rattle.options.specs.declared.proto.Verdict.{Verdict}
use Rattle.options.specs.declared.proto.Verdict.TheVariants.{Ack, Nack, Rej}
use Rattle.std.specs.Prelude.{Result, Ok, Err}
use Rattle.options.specs.declared.refusal.Refusal.{Refusal}
use Rattle.negotiation.specs.declared.states.State.{State}
use Rattle.negotiation.specs.declared.states.State.TheVariants.{Closed, ReqSent, AckReceived, AckSent, Opened}
use Rattle.options.specs.Options.{walk_of}
use Rattle.options.specs.Proto.{start_of, nacks_of}
use Rattle.options.specs.Reply.{fresh_reply, reply_of}
use Rattle.negotiation.specs.Automaton.{after_acked, after_not_acked, after_req, after_ack, ack_resends, after_nack, after_term, is_closed, is_opened, with_state, requested, ack_of, after_reply, unless, req_with, req_of, after_nacked, nack_with, nack_of, term_ack_of, act_of, Reaction, reacts, refusal_of, replied_of}
use Rattle.negotiation.specs.StateTable.{Event, req_acked, req_not_acked, ack, nack_or_rej, terminate, Transition, row, table}
use Rattle.negotiation.specs.Messages.{next_id, request_bytes, term_ack_bytes}

abbrev after_of : Event → State → State
after_of req_acked = after_acked
after_of req_not_acked = after_not_acked
after_of ack = after_ack
after_of nack_or_rej = after_nack
after_of terminate = after_term

abbrev asks_of : Event → State → Bool
asks_of req_acked s = is_opened s
asks_of req_not_acked s = is_opened s
asks_of ack s = ack_resends s
asks_of nack_or_rej s = not (is_closed s)
asks_of terminate s = false

-- the rows that the definitions give for an event
abbrev rows_of : Event → List Transition
rows_of e = map (λ s. row e s (after_of e s) (asks_of e s)) (Closed ∷ ReqSent ∷ AckReceived ∷ AckSent ∷ Opened ∷ [])

abbrev rows_for : List Event → List Transition
rows_for [] = []
rows_for (e ∷ es) = rows_of e ++ rows_for es

-- each event in each state, once
table_given : table ≡ rows_for (req_acked ∷ req_not_acked ∷ ack ∷ nack_or_rej ∷ terminate ∷ [])
table_given = refl

-- the reply to the options of a request
abbrev pub answer : OptionFsm Proto → List ℕ → Reply
answer f p = reply_of (fresh_reply (start_of f.proto)) (walk_of (drop 6 p))

-- what a packet of an event leaves
pub data Leaves (f : OptionFsm Proto) (i : ℕ) (p : List ℕ) : Event → Reaction → Type 0 where
  acked : (answer f p).verdict ≡ Ack → Leaves f i p req_acked (act_of f 1 i p)
  nacked : (answer f p).verdict ≡ Nack → Leaves f i p req_not_acked (act_of f 1 i p)
  rejected : (answer f p).verdict ≡ Rej → Leaves f i p req_not_acked (act_of f 1 i p)
  ack_in : Leaves f i p ack (act_of f 2 i p)
  nack_in : Leaves f i p nack_or_rej (act_of f 3 i p)
  rej_in : Leaves f i p nack_or_rej (act_of f 4 i p)
  terminate_in : Leaves f i p terminate (act_of f 5 i p)

-- the state that is left; where an own request follows it is the last packet, and the id steps
pub record Moved (f : OptionFsm Proto) (to : State) (asks : Bool) (t : Reaction) : Type 0 where
  pub state : t.fsm.state ≡ to
  pub id : t.fsm.id ≡ cond asks (next_id f.id) f.id
  pub request : asks ≡ true → get_or t.sent (length t.sent - 1) [] ≡ request_bytes t.fsm.proto t.fsm.id

closed_stays : (e : Event) → (after_of e Closed ≡ Closed) × (asks_of e Closed ≡ false)
closed_stays req_acked = (refl, refl)
closed_stays req_not_acked = (refl, refl)
closed_stays ack = (refl, refl)
closed_stays nack_or_rej = (refl, refl)
closed_stays terminate = (refl, refl)

pub is_closed_lem : (s : State) → is_closed s ≡ true → s ≡ Closed
is_closed_lem Closed e = refl
is_closed_lem ReqSent e = absurd (false≢true e)
is_closed_lem AckReceived e = absurd (false≢true e)
is_closed_lem AckSent e = absurd (false≢true e)
is_closed_lem Opened e = absurd (false≢true e)

pub is_opened_lem : (s : State) → is_opened s ≡ true → s ≡ Opened
is_opened_lem Closed e = absurd (false≢true e)
is_opened_lem ReqSent e = absurd (false≢true e)
is_opened_lem AckReceived e = absurd (false≢true e)
is_opened_lem AckSent e = absurd (false≢true e)
is_opened_lem Opened e = refl

module _ (f : OptionFsm Proto) (i : ℕ) (p : List ℕ) where
  -- what is to hold of a step that is not refused
  abbrev Goes : State → Bool → Reaction → Type 0
  Goes to asks t = t.outcome ≡ Ok tt → Moved f to asks t

  refused_goes : {to : State} {asks : Bool} (why : Refusal) → Goes to asks (refusal_of f why)
  refused_goes why e = absurd (let z : ◌≡◌ {A = ℕ} 0 1 = cc in omega arith)

  unless_goes : (to : State) (asks : Bool) (o : Result Unit Refusal) (t : Reaction) → Goes to asks t → Goes to asks (unless o f t)
  unless_goes to asks (Ok x) t h = h
  unless_goes to asks (Err why) t h = refused_goes why

  requested_goes : (g : OptionFsm Proto) (ps : List (List ℕ)) → g.id ≡ f.id → Goes g.state true (requested g ps)
  unfolding requested
  requested_goes g ps e _ =
      record { state = refl; id = rw e refl; request = λ _. get_or_at ps (request_bytes g.proto (next_id g.id)) [] [] _ (rw length-append (omega arith)) }

  reacts_goes : (g : OptionFsm Proto) (ps : List (List ℕ)) → g.id ≡ f.id → Goes g.state false (reacts g ps)
  reacts_goes g ps e _ = record { state = refl; id = e; request = λ x. absurd (false≢true x) }

  -- Closed answers by TerminateAck, the other states by t
  closed_goes : (e : Event) (t : Reaction) → (is_closed f.state ≡ false → Goes (after_of e f.state) (asks_of e f.state) t)
      → Goes (after_of e f.state) (asks_of e f.state) (cond (is_closed f.state) (term_ack_of f i) t)
  unfolding term_ack_of
  closed_goes e t h = cond_by (Goes (after_of e f.state) (asks_of e f.state)) (is_closed f.state) shut h
    where
      shut : is_closed f.state ≡ true → Goes (after_of e f.state) (asks_of e f.state) (term_ack_of f i)
      shut k =
          let s = is_closed_lem f.state k in
          rw (s, (closed_stays e).0, (closed_stays e).1) (rw s at (reacts_goes f (term_ack_bytes f.proto i ∷ []) refl))

  pub req_goes : (v : Verdict) → (answer f p).verdict ≡ v → Goes (after_req f.state v) (is_opened f.state) (req_of f i p)
  unfolding req_of req_with
  req_goes v e =
      cond_all (Goes (after_req f.state v) (is_opened f.state)) (ltb (length p) 6) (refused_goes _)
      (unless_goes _ _ (answer f p).outcome (replied_of f i (answer f p))
      (rw (← e) (cond_by (Goes (after_req f.state (answer f p).verdict) (is_opened f.state)) (is_opened f.state)
      (λ k. rw k (requested_goes (after_reply f (answer f p)) _ refl))
      (λ k. rw k (reacts_goes (after_reply f (answer f p)) _ refl)))))

  pub ack_goes : Goes (after_ack f.state) (ack_resends f.state) (ack_of f)
  unfolding ack_of
  ack_goes =
      cond_by (Goes (after_ack f.state) (ack_resends f.state)) (ack_resends f.state)
      (λ k. rw k (requested_goes (with_state f (after_ack f.state)) [] refl))
      (λ k. rw k (reacts_goes (with_state f (after_ack f.state)) [] refl))

  pub nack_goes : (rej : Bool) → is_closed f.state ≡ false → Goes (after_nack f.state) (not (is_closed f.state)) (nack_of f rej p)
  unfolding nack_of nack_with
  nack_goes rej k =
      let n = nacks_of rej f.proto (walk_of (drop 6 p)) in
      rw k
      (cond_all (Goes (after_nack f.state) true) (ltb (length p) 6) (refused_goes _)
      (unless_goes _ _ n.outcome _ (requested_goes (after_nacked f n.proto) [] refl)))

  term_goes : Goes (after_term f.state) false (term_ack_of (with_state f (after_term f.state)) i)
  unfolding term_ack_of
  term_goes = reacts_goes (with_state f (after_term f.state)) _ refl

  leaves_goes : (e : Event) (t : Reaction) → Leaves f i p e t → Goes (after_of e f.state) (asks_of e f.state) t
  unfolding act_of
  leaves_goes e t (acked v) = closed_goes req_acked _ (λ _. req_goes Ack v)
  leaves_goes e t (nacked v) = closed_goes req_not_acked _ (λ _. req_goes Nack v)
  leaves_goes e t (rejected v) = closed_goes req_not_acked _ (λ _. req_goes Rej v)
  leaves_goes e t ack_in = closed_goes ack _ (λ _. ack_goes)
  leaves_goes e t nack_in = closed_goes nack_or_rej _ (nack_goes false)
  leaves_goes e t rej_in = closed_goes nack_or_rej _ (nack_goes true)
  leaves_goes e t terminate_in = closed_goes terminate _ (λ _. term_goes)

-- a packet of the row's event, in the state it starts from and not refused, does what the row says
abbrev pub Holds : Transition → Type 0
Holds r =
    (f : OptionFsm Proto) (i : ℕ) (p : List ℕ) (t : Reaction) → f.state ≡ r.from → Leaves f i p r.event t → t.outcome ≡ Ok tt → Moved f r.to r.asks t

row-holds : (e : Event) (s : State) → Holds (row e s (after_of e s) (asks_of e s))
row-holds e s f i p t k l = rw (← k) (leaves_goes f i p e t l)

rows_hold : (es : List Event) → Each Holds (rows_for es)
rows_hold [] = tt
rows_hold (e ∷ es) =
    let hold = row-holds e in
    each_append Holds (rows_of e) (rows_for es) (hold Closed, (hold ReqSent, (hold AckReceived, (hold AckSent, (hold Opened, tt))))) (rows_hold es)

pub table-holds : Each Holds table
table-holds = subst (Each Holds) (sym table_given) (rows_hold (req_acked ∷ req_not_acked ∷ ack ∷ nack_or_rej ∷ terminate ∷ []))

-- Laws of the automaton's steps: what the callees say, put together.
-- Assumes nothing.
use Rattle.std.proofs.Common.{◌≡◌, ℕ, ◌+◌, ◌<◌, ◌≤◌, true, false, List, [], ◌∷◌, length, get_or, take, refl, ◌∙◌, lit<, le-ltb, lt-ltb}
use Rattle.options.specs.declared.walk.Reply.{Reply}
use Rattle.negotiation.specs.declared.replies.Handled.{Handled}
use Rattle.options.specs.declared.proto.Proto.{Proto}
use Rattle.negotiation.specs.declared.option_fsm.OptionFsm.{OptionFsm}
use Rattle.options.specs.declared.proto.Nacked.{Nacked}
use Rattle.std.specs.Prelude.{Ok, Err}
use Rattle.options.specs.declared.refusal.Refusal.{Refusal}
use Rattle.options.specs.declared.refusal.Refusal.TheVariants.{EchoEmpty, ReplyLong}
use Rattle.negotiation.specs.declared.states.State.{State}
use Rattle.options.specs.declared.wire.Packet.{Packet}
use Rattle.negotiation.specs.declared.replies.Replies.{Replies}
use Rattle.options.specs.Wire.{max_packet, pkt_of, length_field}
use Rattle.negotiation.specs.Replies.{replies_of, added, max_replies, sends_in}
use Rattle.negotiation.specs.Messages.{next_id, request_bytes, reply_bytes, term_ack_bytes, echo_bytes}
use Rattle.negotiation.specs.Automaton.{ack_resends, after_ack, after_nack, is_opened, handled, refusal_of, with_state, stepped, requested, requested_in, ack_of, after_reply, req_with, after_nacked, nack_with, term_ack_of, ignore_of, echo_of, act_of, handle_of}
use Rattle.negotiation.proofs.Joining.{add_replies}

-- the record of replies holds the packets sent
pub requested-behind : (f : OptionFsm Proto) (ps : List (List ℕ)) → length ps < max_replies → requested_in f (replies_of ps) ≡ handled (requested f ps)
unfolding requested
requested-behind f ps h = rw (add_replies ps (request_bytes f.proto (next_id f.id)) h) refl

-- one packet sent
pub one_reply : {r s : Replies} {q : Packet} (l : List ℕ) → r ≡ replies_of [] → q ≡ pkt_of l → s ≡ added r q → s ≡ replies_of (l ∷ [])
one_reply l er eq es = es ∙ rw (er, eq) (add_replies [] l (lit< tt))

module _ {g : OptionFsm Proto} {t : State} (f : OptionFsm Proto) (et : t ≡ after_ack f.state) (eg : g ≡ with_state f t) where
  pub ack_resent : {r : Replies} {h : Handled (OptionFsm Proto)} → r ≡ replies_of [] → ack_resends f.state ≡ true → h ≡ requested_in g r → h ≡ handled (ack_of f)
  unfolding ack_of
  ack_resent er k e = e ∙ rw (er, requested-behind g [] (lit< tt), eg, et, k) refl

  pub ack-taken : ack_resends f.state ≡ false → handled (ignore_of g) ≡ handled (ack_of f)
  unfolding ack_of ignore_of
  ack-taken k = rw (eg, et, k) refl

pub req_refused : {why : Refusal} {h : Handled (OptionFsm Proto)} (f : OptionFsm Proto) (i : ℕ) (r : Reply) → r.outcome ≡ Err why
    → h ≡ handled (refusal_of f why) → h ≡ handled (req_with f i r)
unfolding req_with
req_refused f i r e k = rw e k

module _ {g : OptionFsm Proto} {s : Replies} (f : OptionFsm Proto) (i : ℕ) (r : Reply) (e : r.outcome ≡ Ok tt) (eg : g ≡ after_reply f r) (es : s ≡ replies_of (reply_bytes i r ∷ [])) where
  pub req_resent : {h : Handled (OptionFsm Proto)} → is_opened f.state ≡ true → h ≡ requested_in g s → h ≡ handled (req_with f i r)
  unfolding req_with
  req_resent k eh = eh ∙ rw (es, requested-behind g (reply_bytes i r ∷ []) (lit< tt), eg, e, k) refl

  pub req_kept : is_opened f.state ≡ false
      → ◌≡◌ {A = Handled (OptionFsm Proto)} (sends_in g s) (handled (req_with f i r))
  unfolding req_with
  req_kept k = rw (es, eg, e, k) refl

pub nack_refused : {why : Refusal} {h : Handled (OptionFsm Proto)} (f : OptionFsm Proto) (n : Nacked) → n.outcome ≡ Err why
    → h ≡ handled (refusal_of f why) → h ≡ handled (nack_with f n)
unfolding nack_with
nack_refused f n e k = rw e k

pub nack_sent : {t : State} {r : Replies} {h : Handled (OptionFsm Proto)} (f : OptionFsm Proto) (n : Nacked) → n.outcome ≡ Ok tt → t ≡ after_nack f.state
    → r ≡ replies_of [] → h ≡ requested_in (record { id = f.id; state = t; proto = n.proto }) r → h ≡ handled (nack_with f n)
unfolding nack_with
nack_sent f n e et er eh = eh ∙ rw (er, et, requested-behind (after_nacked f n.proto) [] (lit< tt), e) refl

pub term_of : {q : Packet} {r s : Replies} (f : OptionFsm Proto) (i : ℕ) → r ≡ replies_of [] → q ≡ pkt_of (term_ack_bytes f.proto i) → s ≡ added r q
    → ◌≡◌ {A = Handled (OptionFsm Proto)} (sends_in f s) (handled (term_ack_of f i))
unfolding term_ack_of
term_of f i er eq es = rw (one_reply (term_ack_bytes f.proto i) er eq es) refl

module _ {n : ℕ} {h : Handled (OptionFsm Proto)} (f : OptionFsm Proto) (p : List ℕ) (l : 6 ≤ length p) (e : n ≡ length_field p + 2) where
  pub handle-over : length p < n → h ≡ handled (ignore_of f) → h ≡ handled (handle_of f p)
  unfolding handle_of
  handle-over k eh = rw (le-ltb _ _ l, ← e, lt-ltb _ _ k) eh

  pub handle_in : n ≤ length p → h ≡ handled (act_of f (get_or p 2 0) (get_or p 3 0) (take n p)) → h ≡ handled (handle_of f p)
  unfolding handle_of
  handle_in k eh = rw (le-ltb _ _ l, ← e, le-ltb _ _ k) eh

module _ (f : OptionFsm Proto) (p : List ℕ) where
  pub echo_not : is_opened f.state ≡ false → ignore_of f ≡ echo_of f p
  unfolding echo_of
  echo_not k = rw k refl

  pub echo_short : is_opened f.state ≡ true → length p < 3 → refusal_of f EchoEmpty ≡ echo_of f p
  unfolding echo_of
  echo_short k h = rw (k, lt-ltb _ _ h) refl

  pub echo-long : is_opened f.state ≡ true → 3 ≤ length p → max_packet < length p → refusal_of f ReplyLong ≡ echo_of f p
  unfolding echo_of
  echo-long k h l = rw (k, le-ltb _ _ h, lt-ltb _ _ l) refl

  pub echo-sent : {s : Replies} → is_opened f.state ≡ true → 3 ≤ length p → length p ≤ max_packet → s ≡ replies_of (echo_bytes f.proto p ∷ [])
      → ◌≡◌ {A = Handled (OptionFsm Proto)} (record { outcome = Ok tt; echoed = true; left = f; replies = s }) (handled (echo_of f p))
  unfolding echo_of
  echo-sent k h l es = rw (es, k, le-ltb _ _ h, le-ltb _ _ l) refl

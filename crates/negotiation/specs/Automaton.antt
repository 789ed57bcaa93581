-- One step of the automaton, for LCP and IPv4CP alike (document 01, 'Negotiation', in its order).
use Rattle.std.specs.Prelude.{ℕ, ◌+◌, Bool, true, false, cond, List, [], ◌∷◌, ◌++◌, length, take, drop, ◌==◌, nat_lt, slice_index}
use Rattle.options.specs.Wire.{max_packet, pkt_of, length_field}
use Rattle.negotiation.specs.Replies.{replies_of, added, sends_in}
use Rattle.negotiation.specs.Messages.{max_rejected, next_id, request_bytes, reply_bytes, term_ack_bytes, echo_bytes, reject_bytes}
use Rattle.options.specs.Options.{walk_of}
use Rattle.options.specs.Proto.{start_of, nacks_of}
use Rattle.options.specs.Reply.{fresh_reply, reply_of}
use Rattle.options.specs.declared.refusal.Refusal.{Refusal}
use Rattle.options.specs.declared.refusal.Refusal.TheVariants.{ConfigureShort, EchoEmpty, ReplyLong}
use Rattle.std.specs.Prelude.{Result, Ok, Err}
use Rattle.options.specs.declared.proto.Proto.{Proto}
use Rattle.options.specs.declared.proto.Nacked.{Nacked}
use Rattle.options.specs.declared.proto.Verdict.{Verdict}
use Rattle.options.specs.declared.proto.Verdict.TheVariants.{Ack, Nack, Rej}
use Rattle.options.specs.declared.walk.Reply.{Reply}
use Rattle.negotiation.specs.declared.replies.Replies.{Replies}
use Rattle.negotiation.specs.declared.states.State.{State}
use Rattle.negotiation.specs.declared.states.State.TheVariants.{Closed, ReqSent, AckReceived, AckSent, Opened}
use Rattle.negotiation.specs.declared.option_fsm.OptionFsm.{OptionFsm}
use Rattle.negotiation.specs.declared.replies.Handled.{Handled}

-- ---- the table of states

-- ConfigureReq that gets an Ack
abbrev pub after_acked : State → State
after_acked Closed = Closed
after_acked ReqSent = AckSent
after_acked AckReceived = Opened
after_acked AckSent = AckSent
after_acked Opened = AckSent

-- ConfigureReq that gets a Nack or a Rej
abbrev pub after_not_acked : State → State
after_not_acked Closed = Closed
after_not_acked ReqSent = ReqSent
after_not_acked AckReceived = AckReceived
after_not_acked AckSent = ReqSent
after_not_acked Opened = ReqSent

abbrev pub after_req : State → Verdict → State
after_req s Ack = after_acked s
after_req s Nack = after_not_acked s
after_req s Rej = after_not_acked s

-- ConfigureAck
abbrev pub after_ack : State → State
after_ack Closed = Closed
after_ack ReqSent = AckReceived
after_ack AckReceived = ReqSent
after_ack AckSent = Opened
after_ack Opened = ReqSent

abbrev pub ack_resends : State → Bool
ack_resends Closed = false
ack_resends ReqSent = false
ack_resends AckReceived = true
ack_resends AckSent = false
ack_resends Opened = true

-- ConfigureNack and ConfigureRej
abbrev pub after_nack : State → State
after_nack Closed = Closed
after_nack ReqSent = ReqSent
after_nack AckReceived = ReqSent
after_nack AckSent = AckSent
after_nack Opened = ReqSent

-- TerminateReq
abbrev pub after_term : State → State
after_term Closed = Closed
after_term ReqSent = ReqSent
after_term AckReceived = ReqSent
after_term AckSent = ReqSent
after_term Opened = Closed

abbrev pub is_closed : State → Bool
is_closed Closed = true
is_closed ReqSent = false
is_closed AckReceived = false
is_closed AckSent = false
is_closed Opened = false

abbrev pub is_opened : State → Bool
is_opened Closed = false
is_opened ReqSent = false
is_opened AckReceived = false
is_opened AckSent = false
is_opened Opened = true

-- ---- what a step leaves

-- the outcome, whether an echo was answered, the automaton, and the packets sent, in order
pub record Reaction : Type 0 where
  pub outcome : Result Unit Refusal
  pub echoed : Bool
  pub fsm : OptionFsm Proto
  pub sent : List (List ℕ)

abbrev pub handled : Reaction → Handled (OptionFsm Proto)
handled t = record { outcome = t.outcome; echoed = t.echoed; left = t.fsm; replies = replies_of t.sent }

abbrev pub reacts : OptionFsm Proto → List (List ℕ) → Reaction
reacts f ps = record { outcome = Ok tt; echoed = false; fsm = f; sent = ps }

-- a refusal leaves the automaton
abbrev pub refusal_of : OptionFsm Proto → Refusal → Reaction
refusal_of f why = record { outcome = Err why; echoed = false; fsm = f; sent = [] }

abbrev pub with_state : OptionFsm Proto → State → OptionFsm Proto
with_state f s = record { id = f.id; state = s; proto = f.proto }

-- the id steps before use
abbrev pub stepped : OptionFsm Proto → OptionFsm Proto
stepped f = record { id = next_id f.id; state = f.state; proto = f.proto }

-- an own request behind the packets ps
unfoldable pub requested : OptionFsm Proto → List (List ℕ) → Reaction
requested f ps = reacts (stepped f) (ps ++ (request_bytes f.proto (next_id f.id) ∷ []))

-- the same behind a record of replies
abbrev pub requested_in : OptionFsm Proto → Replies → Handled (OptionFsm Proto)
requested_in f rs = sends_in (stepped f) (added rs (pkt_of (request_bytes f.proto (next_id f.id))))

-- ---- one packet, by its code

unfoldable pub ack_of : OptionFsm Proto → Reaction
ack_of f = cond (ack_resends f.state) (requested (with_state f (after_ack f.state)) []) (reacts (with_state f (after_ack f.state)) [])

abbrev pub after_reply : OptionFsm Proto → Reply → OptionFsm Proto
after_reply f r = record { id = f.id; state = after_req f.state r.verdict; proto = r.proto }

-- the reply goes first, then an own request from Opened
abbrev pub replied_of : OptionFsm Proto → ℕ → Reply → Reaction
replied_of f i r =
    cond (is_opened f.state) (requested (after_reply f r) (reply_bytes i r ∷ [])) (reacts (after_reply f r) (reply_bytes i r ∷ []))

-- the refusal of an outcome, or nothing
abbrev pub unless : Result Unit Refusal → OptionFsm Proto → Reaction → Reaction
unless (Ok x) f t = t
unless (Err why) f t = refusal_of f why

unfoldable pub req_with : OptionFsm Proto → ℕ → Reply → Reaction
req_with f i r = unless r.outcome f (replied_of f i r)

-- a packet p whose options stand behind six bytes
unfoldable pub req_of : OptionFsm Proto → ℕ → List ℕ → Reaction
req_of f i p =
    cond (nat_lt (length p) 6) (refusal_of f ConfigureShort) (req_with f i (reply_of (fresh_reply (start_of f.proto)) (walk_of (drop 6 p))))

abbrev pub after_nacked : OptionFsm Proto → Proto → OptionFsm Proto
after_nacked f p = record { id = f.id; state = after_nack f.state; proto = p }

unfoldable pub nack_with : OptionFsm Proto → Nacked → Reaction
nack_with f n = unless n.outcome f (requested (after_nacked f n.proto) [])

unfoldable pub nack_of : OptionFsm Proto → Bool → List ℕ → Reaction
nack_of f rej p = cond (nat_lt (length p) 6) (refusal_of f ConfigureShort) (nack_with f (nacks_of rej f.proto (walk_of (drop 6 p))))

unfoldable pub term_ack_of : OptionFsm Proto → ℕ → Reaction
term_ack_of f i = reacts f (term_ack_bytes f.proto i ∷ [])

unfoldable pub ignore_of : OptionFsm Proto → Reaction
ignore_of f = reacts f []

unfoldable pub echo_of : OptionFsm Proto → List ℕ → Reaction
echo_of f p =
    cond (is_opened f.state)
    (cond (nat_lt (length p) 3)
    (refusal_of f EchoEmpty)
    (cond (nat_lt max_packet (length p))
    (refusal_of f ReplyLong)
    (record { outcome = Ok tt; echoed = true; fsm = f; sent = echo_bytes f.proto p ∷ [] })))
    (ignore_of f)

-- a packet p with code c and id i
unfoldable pub act_of : OptionFsm Proto → ℕ → ℕ → List ℕ → Reaction
act_of f c i p =
    cond (c == 9) (echo_of f p)
    (cond (c == 11) (ignore_of f)
    (cond (is_closed f.state) (term_ack_of f i)
    (cond (c == 1) (req_of f i p)
    (cond (c == 2) (ack_of f)
    (cond (c == 3) (nack_of f false p)
    (cond (c == 4) (nack_of f true p)
    (cond (c == 5) (term_ack_of (with_state f (after_term f.state)) i)
    (ignore_of f))))))))

-- a received packet: one that is too short is ignored, and so is what lies behind the Length
unfoldable pub handle_of : OptionFsm Proto → List ℕ → Reaction
handle_of f p =
    cond (nat_lt (length p) 6) (ignore_of f)
    (cond (nat_lt (length p) (length_field p + 2)) (ignore_of f)
    (act_of f (slice_index p 2) (slice_index p 3) (take (length_field p + 2) p)))

-- ---- Protocol-Reject, opening and closing

-- Protocol-Reject steps the id
unfoldable pub protocol_reject_of : OptionFsm Proto → List ℕ → Reaction
protocol_reject_of f pkt = cond (nat_lt max_rejected (length pkt)) (refusal_of f ReplyLong) (reacts (stepped f) (reject_bytes (next_id f.id) pkt ∷ []))

-- whatever the state was
unfoldable pub opened_fsm : OptionFsm Proto → Reaction
opened_fsm f = requested (with_state f ReqSent) []

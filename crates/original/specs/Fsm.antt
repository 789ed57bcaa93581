-- ppp/option_fsm.rs. What `tx` was called with is a list of packets, in order; a slice that is written to comes back.
use Rattle.std.specs.Prelude.{Bool, true, false, cond, ◌||◌, List, [], ◌∷◌, ◌++◌, ℕ, zero, suc, ◌+◌, ◌-◌, ◌%◌, ltb, eqb, length, get_or, take, drop, set}
use Rattle.laws.specs.Be.{be_of}
use Rattle.original.specs.Run.{Run, returns, panics, fsm_open, echo_code, not_closed, request_id, packet_short, options_cut, request_many, own_many, ◌>>=◌, Result, ok, err, unwrap}
use Rattle.original.specs.Wire.{ProtocolType, OptionVal, new_option, push, RawData, Options, Payload, Raw, PPP, Packet, code_from}

pub data Verdict : Type 0 where
  Ack Rej : Verdict
  Nack : List ℕ → Verdict

-- trait Protocol; `own_options` is the list of what its closure was called with
pub record Protocol (P : Type 0) : Type 0 where
  pub protocol : ProtocolType
  pub own_options : P → List (ℕ × List ℕ)
  pub own_option_nacked : P → ℕ → List ℕ → Bool → P
  pub peer_options_start : P → P
  pub peer_option_received : P → ℕ → List ℕ → Verdict × P

pub data State : Type 0 where
  Closed ReqSent AckReceived AckSent Opened : State

abbrev pub is_closed : State → Bool
is_closed = elim [ Closed ↦ true | ReqSent ↦ false | AckReceived ↦ false | AckSent ↦ false | Opened ↦ false ]

abbrev pub is_opened : State → Bool
is_opened = elim [ Closed ↦ false | ReqSent ↦ false | AckReceived ↦ false | AckSent ↦ false | Opened ↦ true ]

pub record OptionFsm (P : Type 0) : Type 0 where
  pub id : ℕ
  pub state : State
  pub proto : P

-- what a call of handle leaves
pub record Handled (P : Type 0) : Type 0 where
  pub fsm : OptionFsm P
  pub pkt : List ℕ
  pub tx : List Packet

-- an automaton, and the packet that it gave
pub record Sent (P : Type 0) : Type 0 where
  pub fsm : OptionFsm P
  pub packet : Packet

-- self.proto, code and opts of received_configure_req, which its closure changes
pub record Answer (P : Type 0) : Type 0 where
  pub proto : P
  pub code : ℕ
  pub opts : List OptionVal

-- parse_options, of at most k options: each takes two bytes or more
unfoldable pub parse_in : {S : Type 0} → (S → ℕ → List ℕ → Run S) → ℕ → S → List ℕ → Run (Result S)
parse_in f zero s pkt = returns (ok s)
parse_in f (suc k) s [] = returns (ok s)
parse_in f (suc k) s (b ∷ bs) =
    cond (ltb (length (b ∷ bs)) 2) (returns err)
    (cond (ltb (length (b ∷ bs)) (get_or bs 0 0)) (returns err)
    (cond (ltb (get_or bs 0 0) 2) (returns err)
    (f s b (take (get_or bs 0 0 - 2) (drop 2 (b ∷ bs))) >>= λ t. parse_in f k t (drop (get_or bs 0 0) (b ∷ bs)))))

-- parse_options, with its closure f
unfoldable pub parse_options : {S : Type 0} → (S → ℕ → List ℕ → Run S) → S → List ℕ → Run (Result S)
parse_options f s pkt = parse_in f (length pkt) s pkt

module _ {P : Type 0} (T : Protocol P) where
  -- OptionFsm::new
  abbrev pub new_fsm : P → OptionFsm P
  new_fsm p = record { id = 1; state = Closed; proto = p }

  abbrev pub with_state : OptionFsm P → State → OptionFsm P
  with_state f s = record { id = f.id; state = s; proto = f.proto }

  abbrev pub with_proto : OptionFsm P → P → OptionFsm P
  with_proto f p = record { id = f.id; state = f.state; proto = p }

  abbrev pub handled : OptionFsm P → List ℕ → List Packet → Run (Handled P)
  handled f pkt tx = returns (record { fsm = f; pkt = pkt; tx = tx })

  abbrev pub packet_of : Payload → Packet
  packet_of p = record { proto = T.protocol; payload = p }

  -- OptionFsm::next_id, as the automaton that it leaves
  abbrev pub next_id : OptionFsm P → OptionFsm P
  next_id f = record { id = (f.id + 1) % 256; state = f.state; proto = f.proto }

  -- ---- what is sent

  -- the closure of send_configure_request, over all that it is called with
  unfoldable pub push_own : List OptionVal → List (ℕ × List ℕ) → Run (List OptionVal)
  push_own opts [] = returns opts
  push_own opts (o ∷ os) = do
    new ← new_option o.0 o.1
    more ← push own_many opts new
    push_own more os

  -- OptionFsm::send_configure_request
  unfoldable pub send_configure_request : OptionFsm P → Run (Sent P)
  send_configure_request f = do
    opts ← push_own [] (T.own_options f.proto)
    returns (record { fsm = next_id f; packet = packet_of (PPP 1 (next_id f).id (Options opts)) })

  -- OptionFsm::send_terminate_ack
  abbrev pub send_terminate_ack : ℕ → Packet
  send_terminate_ack i = packet_of (PPP 6 i (RawData []))

  -- OptionFsm::send_protocol_reject
  abbrev pub send_protocol_reject : OptionFsm P → List ℕ → Sent P
  send_protocol_reject f pkt = record { fsm = next_id f; packet = packet_of (PPP 8 (next_id f).id (RawData pkt)) }

  -- OptionFsm::open
  unfoldable pub open_fsm : OptionFsm P → Run (Sent P)
  open_fsm f = cond (is_closed f.state) (send_configure_request (with_state f ReqSent)) (panics fsm_open)

  -- OptionFsm::close
  abbrev pub close_fsm : OptionFsm P → OptionFsm P
  close_fsm f = with_state f Closed

  -- ---- received_configure_req

  -- `let (ret_code, data) = match ..`
  abbrev pub ret_of : Verdict → List ℕ → ℕ × List ℕ
  ret_of Ack odata = (2, odata)
  ret_of (Nack bs) odata = (3, bs)
  ret_of Rej odata = (4, odata)

  -- `opts.push(OptionVal::new(ocode, data))`
  abbrev pub list_option : Answer P → ℕ → List ℕ → Run (Answer P)
  list_option a c d = do
    new ← new_option c d
    more ← push request_many a.opts new
    returns (record { proto = a.proto; code = a.code; opts = more })

  -- `if code < ret_code { .. } if code == ret_code { .. }`
  abbrev pub rank_option : Answer P → ℕ → ℕ × List ℕ → Run (Answer P)
  rank_option a c ret =
      cond (ltb a.code ret.0) (list_option (record { proto = a.proto; code = ret.0; opts = [] }) c ret.1)
      (cond (eqb a.code ret.0) (list_option a c ret.1) (returns a))

  -- its closure
  unfoldable pub peer_option : Answer P → ℕ → List ℕ → Run (Answer P)
  peer_option a c d =
      let v = T.peer_option_received a.proto c d in
      rank_option (record { proto = v.1; code = a.code; opts = a.opts }) c (ret_of v.0 d)

  -- OptionFsm::received_configure_req
  unfoldable pub received_configure_req : OptionFsm P → List ℕ → Run (Sent P)
  received_configure_req f pkt =
      cond (ltb (length pkt) 4) (panics request_id)
      (cond (ltb (length pkt) 6) (panics packet_short)
      (parse_options peer_option (record { proto = T.peer_options_start f.proto; code = 2; opts = [] }) (drop 6 pkt) >>= unwrap options_cut >>= λ a.
      returns (record { fsm = with_proto f a.proto; packet = packet_of (PPP a.code (get_or pkt 3 0) (Options a.opts)) })))

  -- ---- handle, by its arms

  -- `tx(self.send_configure_request())` behind what was sent
  unfoldable pub request_behind : OptionFsm P → State → List ℕ → List Packet → Run (Handled P)
  request_behind f s pkt tx = do
    r ← send_configure_request f
    handled (with_state r.fsm s) pkt (tx ++ (r.packet ∷ []))

  -- `match (acked, self.state)`, behind `tx(resp)`
  abbrev pub after_resp : State → Bool → OptionFsm P → List ℕ → List Packet → Run (Handled P)
  after_resp Closed acked f pkt tx = panics not_closed
  after_resp ReqSent true f pkt tx = handled (with_state f AckSent) pkt tx
  after_resp ReqSent false f pkt tx = handled f pkt tx
  after_resp AckReceived true f pkt tx = handled (with_state f Opened) pkt tx
  after_resp AckReceived false f pkt tx = handled f pkt tx
  after_resp AckSent true f pkt tx = handled (with_state f AckSent) pkt tx
  after_resp AckSent false f pkt tx = handled (with_state f ReqSent) pkt tx
  after_resp Opened true f pkt tx = request_behind f AckSent pkt tx
  after_resp Opened false f pkt tx = request_behind f ReqSent pkt tx

  -- `matches!(resp.payload, Payload::PPP(Code::ConfigureAck, _, _))`
  abbrev pub is_ack : Payload → Bool
  is_ack (Raw bs) = false
  is_ack (PPP code i p) = eqb code 2

  unfoldable pub on_configure_req : OptionFsm P → List ℕ → Run (Handled P)
  on_configure_req f pkt = do
    r ← received_configure_req f pkt
    after_resp f.state (is_ack r.packet.payload) r.fsm pkt (r.packet ∷ [])

  abbrev pub on_configure_ack : State → OptionFsm P → List ℕ → Run (Handled P)
  on_configure_ack Closed f pkt = handled f pkt []
  on_configure_ack ReqSent f pkt = handled (with_state f AckReceived) pkt []
  on_configure_ack AckSent f pkt = handled (with_state f Opened) pkt []
  on_configure_ack AckReceived f pkt = request_behind (with_state f ReqSent) ReqSent pkt []
  on_configure_ack Opened f pkt = request_behind (with_state f ReqSent) ReqSent pkt []

  -- `match self.state` of a Nack or a Rej
  abbrev pub after_nack : State → OptionFsm P → List ℕ → Run (Handled P)
  after_nack Closed f pkt = panics not_closed
  after_nack ReqSent f pkt = request_behind f ReqSent pkt []
  after_nack AckReceived f pkt = request_behind f ReqSent pkt []
  after_nack AckSent f pkt = request_behind f AckSent pkt []
  after_nack Opened f pkt = request_behind f ReqSent pkt []

  abbrev pub nack_option : Bool → P → ℕ → List ℕ → Run P
  nack_option is_rej p c d = returns (T.own_option_nacked p c d is_rej)

  unfoldable pub on_configure_nack : OptionFsm P → Bool → List ℕ → Run (Handled P)
  on_configure_nack f is_rej pkt =
      cond (ltb (length pkt) 6) (panics packet_short)
      (parse_options (nack_option is_rej) f.proto (drop 6 pkt) >>= unwrap options_cut >>= λ p. after_nack f.state (with_proto f p) pkt)

  abbrev pub on_terminate_req : OptionFsm P → ℕ → List ℕ → Run (Handled P)
  on_terminate_req f i pkt = handled (with_state f (cond (is_opened f.state) Closed ReqSent)) pkt (send_terminate_ack i ∷ [])

  -- OptionFsm::send_echo_response: `pkt[2] = ..`, then `&mut pkt[2..]`
  abbrev pub send_echo_response : OptionFsm P → List ℕ → Run (Handled P)
  send_echo_response f pkt = cond (ltb (length pkt) 3) (panics echo_code) (handled f (set pkt 2 10) (packet_of (Raw (drop 2 (set pkt 2 10))) ∷ []))

  -- `match (code, self.state)`, its arms in their order
  unfoldable pub act_on : OptionFsm P → ℕ → ℕ → List ℕ → Run (Handled P)
  act_on f code i pkt =
      cond (eqb code 9) (cond (is_opened f.state) (send_echo_response f pkt) (handled f pkt []))
      (cond (eqb code 11) (handled f pkt [])
      (cond (is_closed f.state) (handled f pkt (send_terminate_ack i ∷ []))
      (cond (eqb code 1) (on_configure_req f pkt)
      (cond (eqb code 2) (on_configure_ack f.state f pkt)
      (cond (eqb code 3 || eqb code 4) (on_configure_nack f (eqb code 4) pkt)
      (cond (eqb code 5) (on_terminate_req f i pkt)
      (handled f pkt [])))))))

  -- OptionFsm::handle; what lies behind `pkt[..len + 2]` stays
  unfoldable pub handle : OptionFsm P → List ℕ → Run (Handled P)
  handle f pkt =
      let len = be_of (take 2 (drop 4 pkt)) in
      cond (ltb (length pkt) 6) (handled f pkt [])
      (cond (ltb (length pkt) (len + 2)) (handled f pkt [])
      (act_on f (code_from (get_or pkt 2 0)) (get_or pkt 3 0) (take (len + 2) pkt) >>= λ h.
      handled h.fsm (h.pkt ++ drop (len + 2) pkt) h.tx))

-- handle of option_fsm.rs is our automaton's step, for any protocol that stands for one of ours.
-- Assumes nothing.
use mathlib.Core.Path.{◌≡◌, refl}
use mathlib.Core.Bool.{Bool, true, false, cond, true≢false, false≢true}
use mathlib.Core.List.{List, [], ◌∷◌}
use Prim.Native.Nat.{ℕ, ◌+◌, ◌%◌, ◌≤◌, ◌<◌}
use native.Mathlib.Nat.{mod-lt}
use native.Mathlib.Omega.{arith}
use borrow.Author.Tests.{lt-ltb, le-ltb}
use lib.Dec.{ltb, eqb, lit<}
use lib.ListN.{length, drop, get_or, set}
use Rattle.std.specs.Prelude.{Ok, Err}
use Rattle.laws.specs.Each.{Bytes}
use Rattle.laws.proofs.Cases.{by_le, by_test, cond_both}
use Rattle.options.specs.Wire.{max_packet, packet_of, content_of}
use Rattle.options.specs.Options.{walk_of}
use Rattle.options.specs.Proto.{protocol_of}
use Rattle.options.specs.Reply.{fresh_reply}
use Rattle.negotiation.specs.Messages.{next_id, request_bytes, code_of, term_ack_bytes}
use Rattle.negotiation.specs.Automaton as ours
use Rattle.options.specs.declared.refusal.Refusal.TheVariants.{ConfigureShort, ReplyLong}
use Rattle.options.specs.declared.proto.Proto.{Proto}
use Rattle.options.specs.declared.proto.Verdict as verdict
use Rattle.options.specs.declared.proto.Nacked.{Nacked}
use Rattle.options.specs.declared.walk.Reply.{Reply}
use Rattle.negotiation.specs.declared.option_fsm.OptionFsm as fsm
use Rattle.negotiation.specs.declared.states.State.{State}
use Rattle.negotiation.specs.declared.states.State.TheVariants.{Closed, ReqSent, AckReceived, AckSent, Opened}
use Rattle.options.proofs.Wires.{content_pkt}
use Rattle.options.proofs.Fair.{own_short}
use Rattle.original.specs.Run.{Place, Run, returns, panics, ◌>>=◌}
use Rattle.original.specs.Wire.{RawData, Options, PPP, Packet, packet_len}
use Rattle.original.specs.Fsm as theirs
use Rattle.original.specs.View.{view_state}
use Rattle.original.specs.Panics.{RefusedAt}
use Rattle.original.proofs.Bytes.{each_drop}
use Rattle.original.proofs.Frames.{Carries, Carried, none, more, carried_append}
use Rattle.original.proofs.Walk.{parse_is, walk_bytes}
use Rattle.original.proofs.Packets.{lists_none, carries_ppp}
use Rattle.original.proofs.Refused.{refused_at, refused_so}
use Rattle.original.proofs.Replies.{Stands, SameReply, SameAnswer, reply_same, SameNacks, nacks_same}
use Rattle.original.proofs.Replies as replies

module _ {X P : Type 0} (T : theirs.Protocol P) (inj : X → Proto) (view : X → P) (stands : Stands T inj view) where
  -- the automaton with id i, in state s, over x: ours and the original's
  abbrev pub here : ℕ → State → X → fsm.OptionFsm Proto
  here i s x = record { id = i; state = s; proto = inj x }

  abbrev pub there : ℕ → State → X → theirs.OptionFsm P
  there i s x = record { id = i; state = view_state s; proto = view x }

  -- both leave the same and send the same; or the original gives a packet above 128 bytes, or panics, where ours refuses
  pub data SameTurn (pkt : List ℕ) : Run (theirs.Handled P) → ours.Reaction → Type 0 where
    same : {h : theirs.Handled P} {t : ours.Reaction} (i : ℕ) (s : State) (x : X) → i < 256 → h.fsm ≡ there i s x → t.fsm ≡ here i s x → t.outcome ≡ Ok tt
        → h.pkt ≡ cond t.echoed (set pkt 2 10) pkt → (t.echoed ≡ true → 2 < length pkt) → Carried h.tx t.sent → SameTurn pkt (returns h) t
    long : {h : theirs.Handled P} {t : ours.Reaction} (q : Packet) → h.tx ≡ q ∷ [] → max_packet < packet_len q → t.outcome ≡ Err ReplyLong → SameTurn pkt (returns h) t
    stops : {p : Place} {t : ours.Reaction} → RefusedAt p t.outcome → SameTurn pkt (panics p) t

  -- ---- what is sent

  pub request_carries : (i : ℕ) (x : X)
      → Carries (theirs.packet_of T (PPP 1 ((i + 1) % 256) (Options (stands.own x).opts))) (request_bytes (inj x) (next_id i))
  request_carries i x =
      let own = stands.own x in
      carries_ppp T.protocol _ 1 _ (Options own.opts) _ (stands.number x) (lit< tt) (mod-lt (i + 1) {m = 256} (lit< tt)) own.lists.is own.lists.len own.lists.bytes (omega (arith, own_short (inj x)))

  -- an own request
  pub request-sent : (i : ℕ) (s : State) (x : X)
      → theirs.send_configure_request T (there i s x) ≡ returns (record { fsm = there (next_id i) s x; packet = theirs.packet_of T (PPP 1 (next_id i) (Options (stands.own x).opts)) })
  unfolding theirs.send_configure_request
  request-sent i s x = rw (stands.own x).pushed refl

  module _ (pkt : List ℕ) where
    -- no echo
    pub plain : (i : ℕ) (s : State) (x : X) → i < 256 → {tx : List Packet} {ps : List (List ℕ)} → Carried tx ps
        → SameTurn pkt (theirs.handled T (there i s x) pkt tx) (ours.reacts (here i s x) ps)
    plain i s x small c = same i s x small refl refl refl refl (λ e. absurd (false≢true e)) c

    request-same : (i : ℕ) (s s' : State) (x : X) {tx : List Packet} {ps : List (List ℕ)} → Carried tx ps
        → SameTurn pkt (theirs.request_behind T (there i s x) (view_state s') pkt tx) (ours.requested (here i s' x) ps)
    unfolding theirs.request_behind ours.requested
    request-same i s s' x c =
        rw (request-sent i s x)
        (plain ((i + 1) % 256) s' x (mod-lt (i + 1) {m = 256} (lit< tt)) (carried_append c (more (request_carries i x) none)))

    ack_carries : (i : ℕ) (x : X) → i < 256 → Carries (theirs.send_terminate_ack T i) (term_ack_bytes (inj x) i)
    ack_carries i x small = carries_ppp T.protocol _ 6 i (RawData []) [] (stands.number x) (lit< tt) small refl refl tt (lit< tt)

    pub term_same : (i j : ℕ) (s : State) (x : X) → i < 256 → j < 256
        → SameTurn pkt (theirs.handled T (there i s x) pkt (theirs.send_terminate_ack T j ∷ [])) (ours.term_ack_of (here i s x) j)
    unfolding ours.term_ack_of
    term_same i j s x small small' = plain i s x small (more (ack_carries j x small') none)

    -- ---- by the code

    pub on_ack : (i : ℕ) (s : State) (x : X) → i < 256 → SameTurn pkt (theirs.on_configure_ack T (view_state s) (there i s x) pkt) (ours.ack_of (here i s x))
    unfolding ours.ack_of
    on_ack i Closed x small = plain i Closed x small none
    on_ack i ReqSent x small = plain i AckReceived x small none
    on_ack i AckReceived x small = request-same i ReqSent ReqSent x none
    on_ack i AckSent x small = plain i Opened x small none
    on_ack i Opened x small = request-same i ReqSent ReqSent x none

    pub on_term : (i j : ℕ) (s : State) (x : X) → i < 256 → j < 256 → ours.is_closed s ≡ false
        → SameTurn pkt (theirs.on_terminate_req T (there i s x) j pkt) (ours.term_ack_of (here i (ours.after_term s) x) j)
    on_term i j Closed x small small' e = absurd (true≢false e)
    on_term i j ReqSent x small small' e = term_same i j ReqSent x small small'
    on_term i j AckReceived x small small' e = term_same i j ReqSent x small small'
    on_term i j AckSent x small small' e = term_same i j ReqSent x small small'
    on_term i j Opened x small small' e = term_same i j Closed x small small'

    after_nack_lem : (i : ℕ) (s : State) (x : X) → ours.is_closed s ≡ false
        → SameTurn pkt (theirs.after_nack T (view_state s) (there i s x) pkt) (ours.requested (here i (ours.after_nack s) x) [])
    after_nack_lem i Closed x e = absurd (true≢false e)
    after_nack_lem i ReqSent x e = request-same i ReqSent ReqSent x none
    after_nack_lem i AckReceived x e = request-same i AckReceived ReqSent x none
    after_nack_lem i AckSent x e = request-same i AckSent AckSent x none
    after_nack_lem i Opened x e = request-same i Opened ReqSent x none

    pub on_nack : (i : ℕ) (s : State) (x : X) (rej : Bool) → ours.is_closed s ≡ false
        → SameTurn pkt (theirs.on_configure_nack T (there i s x) rej pkt) (ours.nack_of (here i s x) rej pkt)
    unfolding theirs.on_configure_nack ours.nack_of ours.nack_with
    on_nack i s x rej live =
        cond_both (SameTurn pkt) {t = ltb (length pkt) 6} refl (λ _. stops (refused_at ConfigureShort refl))
        (λ _. rw (parse_is (theirs.nack_option T rej) (view x) (drop 6 pkt)) (go _ _ (nacks_same T inj view stands rej x (walk_of (drop 6 pkt)))))
      where
        go : (r : Run P) (n : Nacked) → SameNacks T inj view stands r n
            → SameTurn pkt (r >>= λ p. theirs.after_nack T (view_state s) (theirs.with_proto T (there i s x) p) pkt) (ours.unless n.outcome (here i s x) (ours.requested (ours.after_nacked (here i s x) n.proto) []))
        go r n (replies.nacked y e) = rw e (after_nack_lem i s y live)
        go r n (replies.refused f) = rw f.outcome (stops (refused_so f))

    after_req_lem : (i : ℕ) (s : State) (v : verdict.Verdict) (x : X) {tx : List Packet} {ps : List (List ℕ)} → i < 256 → ours.is_closed s ≡ false → Carried tx ps
        → SameTurn pkt (theirs.after_resp T (view_state s) (eqb (code_of v) 2) (there i s x) pkt tx) (cond (ours.is_opened s) (ours.requested (here i (ours.after_req s v) x) ps) (ours.reacts (here i (ours.after_req s v) x) ps))
    after_req_lem i Closed v x small e c = absurd (true≢false e)
    after_req_lem i ReqSent verdict.TheVariants.Ack x small e c = plain i AckSent x small c
    after_req_lem i ReqSent verdict.TheVariants.Nack x small e c = plain i ReqSent x small c
    after_req_lem i ReqSent verdict.TheVariants.Rej x small e c = plain i ReqSent x small c
    after_req_lem i AckReceived verdict.TheVariants.Ack x small e c = plain i Opened x small c
    after_req_lem i AckReceived verdict.TheVariants.Nack x small e c = plain i AckReceived x small c
    after_req_lem i AckReceived verdict.TheVariants.Rej x small e c = plain i AckReceived x small c
    after_req_lem i AckSent verdict.TheVariants.Ack x small e c = plain i AckSent x small c
    after_req_lem i AckSent verdict.TheVariants.Nack x small e c = plain i ReqSent x small c
    after_req_lem i AckSent verdict.TheVariants.Rej x small e c = plain i ReqSent x small c
    after_req_lem i Opened verdict.TheVariants.Ack x small e c = request-same i Opened AckSent x c
    after_req_lem i Opened verdict.TheVariants.Nack x small e c = request-same i Opened ReqSent x c
    after_req_lem i Opened verdict.TheVariants.Rej x small e c = request-same i Opened ReqSent x c

    code_small : (v : verdict.Verdict) → code_of v < 256
    code_small verdict.TheVariants.Ack = lit< tt
    code_small verdict.TheVariants.Nack = lit< tt
    code_small verdict.TheVariants.Rej = lit< tt

    -- the reply's packet
    reply_carries : (j : ℕ) (a : theirs.Answer P) (r : Reply) → j < 256 → (k : SameReply T inj view stands a r)
        → Carries (theirs.packet_of T (PPP (code_of r.verdict) j (Options a.opts))) (packet_of (protocol_of (inj k.x)) (code_of r.verdict) j (content_of r.packet))
    reply_carries j a r small k =
        carries_ppp T.protocol _ _ j (Options a.opts) _ (stands.number k.x) (code_small r.verdict) small k.lists.is k.lists.len k.lists.bytes (omega (arith, k.room, k.most))

    fresh-same : (x : X) → SameReply T inj view stands (record { proto = view x; code = 2; opts = [] }) (fresh_reply (inj x))
    fresh-same x =
        record { x = x; proto = refl; case = refl; code = refl; count = refl; lists = rw content_pkt lists_none; going = refl; most = omega arith; room = rw content_pkt (omega arith) }

    -- the reply with id j, and the automaton behind it
    abbrev reply : ℕ → ℕ → State → X → theirs.Answer P → theirs.Sent P
    reply i j s x a = record { fsm = theirs.with_proto T (there i s x) a.proto; packet = theirs.packet_of T (PPP a.code j (Options a.opts)) }

    pub on_req : (i j : ℕ) (s : State) (x : X) → i < 256 → j < 256 → ours.is_closed s ≡ false → Bytes pkt → (6 ≤ length pkt → get_or pkt 3 0 ≡ j)
        → SameTurn pkt (theirs.on_configure_req T (there i s x) pkt) (ours.req_of (here i s x) j pkt)
    unfolding theirs.on_configure_req theirs.received_configure_req ours.req_of ours.req_with
    on_req i j s x small small' live bytes third =
        by_le 6 (length pkt)
        (λ h. rw (le-ltb (length pkt) 6 h, le-ltb (length pkt) 4 (omega arith), parse_is (theirs.peer_option T) (record { proto = T.peer_options_start (view x); code = 2; opts = [] }) (drop 6 pkt), stands.start_theirs x, stands.start_ours x, third h)
        (go _ _ (reply_same T inj view stands _ _ (walk_of (drop 6 pkt)) (fresh-same (stands.started x)) (walk_bytes (drop 6 pkt) (each_drop (λ b. b < 256) 6 pkt bytes)))))
        (λ h. rw (lt-ltb (length pkt) 6 h) (by_test (ltb (length pkt) 4) (λ t. rw t (stops (refused_at ConfigureShort refl))) (λ t. rw t (stops (refused_at ConfigureShort refl)))))
      where
        go : (t : Run (theirs.Answer P)) (r : Reply) → SameAnswer T inj view stands t r
            → SameTurn pkt
            (t >>= (λ a. returns (reply i j s x a)) >>= λ r. theirs.after_resp T (view_state s) (theirs.is_ack T r.packet.payload) r.fsm pkt (r.packet ∷ []))
            (ours.unless r.outcome (here i s x) (ours.replied_of (here i s x) j r))
        go (returns a) r (replies.on k) =
            rw (k.going, k.proto, k.case, k.code)
            (after_req_lem i s r.verdict k.x small live (more (reply_carries j a r small' k) none))
        go (panics p) r (replies.off f) = rw f.outcome (stops (refused_so f))

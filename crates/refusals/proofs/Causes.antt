-- A received packet is refused exactly for the causes that the table gives, and tells the offset that it says.
-- Assumes nothing.
use mathlib.Core.Path.{◌≡◌, refl, ap, sym, ◌∙◌}
use mathlib.Core.Bool.{Bool, true, false, ◌&&◌, true≢false}
use mathlib.Core.List.{List, []}
use mathlib.Core.Logic.{◌⊎◌, inl, inr}
use Prim.Native.Nat.{ℕ, ◌+◌, ◌≤◌, ◌<◌}
use native.Mathlib.Omega.{arith}
use borrow.Author.Tests.{ltb-true, ltb-false, eqb-true, eqb-false, lt-ltb, le-ltb, ne_eqb}
use lib.Dec.{eqb, ltb}
use lib.ListN.{length, take, drop, get_or, length-drop}
use lib.Seq.{length-take-le}
use Rattle.std.specs.Prelude.{Result, Ok, Err}
use Rattle.laws.proofs.Cases.{by_test, by_le, cond_all, cond_by}
use Rattle.options.specs.Wire.{max_packet}
use Rattle.options.specs.Refusal.{outcome_number, outcome_values}
use Rattle.options.specs.Options.{walk_of}
use Rattle.options.specs.Proto.{start_of, nacks_of}
use Rattle.options.specs.Reply.{fresh_reply, reply_of}
use Rattle.negotiation.proofs.StateTable.{is_opened_lem}
use Rattle.negotiation.specs.Automaton.{is_closed, is_opened, ack_resends, Reaction, unless, requested, ack_of, replied_of, req_with, req_of, nack_with, nack_of, term_ack_of, ignore_of, echo_of, act_of, handle_of, protocol_reject_of}
use Rattle.negotiation.specs.Pap.{is_pap_sent, PapReaction, pap_requested, pap_act_of, pap_handle_of}
use Rattle.negotiation.specs.Auth.{auth_handle_of}
use Rattle.phases.specs.Phases.{lcp_in, ipv4cp_in, Turn, reject_of, received_of}
use Rattle.options.specs.declared.proto.Proto.{Proto}
use Rattle.negotiation.specs.declared.option_fsm.OptionFsm.{OptionFsm}
use Rattle.negotiation.specs.declared.auth.Auth.{Auth}
use Rattle.phases.specs.declared.ppp.Ppp.{Ppp}
use Rattle.options.specs.declared.refusal.Refusal.{Refusal}
use Rattle.options.specs.declared.refusal.Refusal.TheVariants.{ConfigureShort as ShortConfigure, EchoEmpty as EmptyEcho, PapPast as LengthPast, OptionCut, ReplyLong as LongReply}
use Rattle.negotiation.specs.Messages.{max_rejected}
use Rattle.negotiation.specs.declared.states.State.{State}
use Rattle.negotiation.specs.declared.states.State.TheVariants.{Closed, ReqSent, AckReceived, AckSent, Opened}
use Rattle.refusals.specs.Packets.{Which, lcp, ipv4cp, protocol_at, code_at, length_at, data_at, number_for, state_for, Heeded, Fault, Broken, Points, ConfigureShort, EchoEmpty, PapPast, OptionFault, ReplyLong}
use Rattle.refusals.proofs.Faults.{kind_of, Told, request_refused, request_tells, request_found, Ended, taken, cut_at, answer_refused, answer_found, broken_one, fault_some, broken_some}

-- ---- states

not_closed : (s : State) → (s ≡ Closed → ⊥) → is_closed s ≡ false
not_closed Closed h = absurd (h refl)
not_closed ReqSent h = refl
not_closed AckReceived h = refl
not_closed AckSent h = refl
not_closed Opened h = refl

abbrev fsm_for : Which → Ppp → OptionFsm Proto
fsm_for lcp p = lcp_in p.lcp
fsm_for ipv4cp p = ipv4cp_in p.ipv4cp

fsm_state : (w : Which) (p : Ppp) → (fsm_for w p).state ≡ state_for w p
fsm_state lcp p = refl
fsm_state ipv4cp p = refl

fsm_kind : (w : Which) (p : Ppp) → kind_of (fsm_for w p).proto ≡ w
fsm_kind lcp p = refl
fsm_kind ipv4cp p = refl

-- ---- the outcome of a step

unless_outcome : (o : Result Unit Refusal) (f : OptionFsm Proto) (t : Reaction) → t.outcome ≡ (Ok tt) → (unless o f t).outcome ≡ o
unless_outcome (Ok tt) f t e = e
unless_outcome (Err why) f t e = refl

module _ (f : OptionFsm Proto) where
  module _ (i : ℕ) (q : List ℕ) where
    req_short : length q < 6 → (req_of f i q).outcome ≡ Err ShortConfigure
    unfolding req_of
    req_short h = rw (lt-ltb _ _ h) refl

    req_outcome : 6 ≤ length q → (req_of f i q).outcome ≡ (reply_of (fresh_reply (start_of f.proto)) (walk_of (drop 6 q))).outcome
    unfolding req_of req_with requested
    req_outcome h =
        let r = reply_of (fresh_reply (start_of f.proto)) (walk_of (drop 6 q)) in
        rw (le-ltb _ _ h)
        (unless_outcome r.outcome f (replied_of f i r) (cond_all (λ (t : Reaction). t.outcome ≡ (Ok tt)) (is_opened f.state) refl refl))

  module _ (rej : Bool) (q : List ℕ) where
    nack_short : length q < 6 → (nack_of f rej q).outcome ≡ Err ShortConfigure
    unfolding nack_of
    nack_short h = rw (lt-ltb _ _ h) refl

    nack_outcome : 6 ≤ length q → (nack_of f rej q).outcome ≡ (nacks_of rej f.proto (walk_of (drop 6 q))).outcome
    unfolding nack_of nack_with requested
    nack_outcome h = rw (le-ltb _ _ h) (unless_outcome (nacks_of rej f.proto (walk_of (drop 6 q))).outcome f _ refl)

  module _ (i : ℕ) (q : List ℕ) (h : is_closed f.state ≡ false) where
    act_req : act_of f 1 i q ≡ req_of f i q
    unfolding act_of
    act_req = rw h refl

    act_nack : act_of f 3 i q ≡ nack_of f false q
    unfolding act_of
    act_nack = rw h refl

    act_rej : act_of f 4 i q ≡ nack_of f true q
    unfolding act_of
    act_rej = rw h refl

  act_echo : (i : ℕ) (q : List ℕ) → act_of f 9 i q ≡ echo_of f q
  unfolding act_of
  act_echo i q = refl

  module _ (q : List ℕ) (h : is_opened f.state ≡ true) where
    echo_empty_lem : length q < 3 → (echo_of f q).outcome ≡ Err EmptyEcho
    unfolding echo_of
    echo_empty_lem l = rw (h, lt-ltb _ _ l) refl

    echo-long : 3 ≤ length q → max_packet < length q → (echo_of f q).outcome ≡ Err LongReply
    unfolding echo_of
    echo-long l m = rw (h, le-ltb _ _ l, lt-ltb _ _ m) refl

    echo_fine : 3 ≤ length q → length q ≤ max_packet → (echo_of f q).outcome ≡ (Ok tt)
    unfolding echo_of
    echo_fine l m = rw (h, le-ltb _ _ l, le-ltb _ _ m) refl

  echo_elsewhere : (q : List ℕ) → is_opened f.state ≡ false → (echo_of f q).outcome ≡ (Ok tt)
  unfolding echo_of ignore_of
  echo_elsewhere q h = rw h refl

-- ---- PAP

-- refused past the packet, and nowhere else
abbrev pub PapBy : Auth → List ℕ → Type 0
PapBy a pkt =
    (PapPast pkt × (auth_handle_of a pkt ≡ record { outcome = Err LengthPast; auth = a; sent = [] }))
    ⊎ ((PapPast pkt → ⊥) × ((auth_handle_of a pkt).outcome ≡ (Ok tt)))

pub pap_by : (a : Auth) (pkt : List ℕ) → PapBy a pkt
unfolding auth_handle_of pap_handle_of pap_act_of pap_requested
pap_by a pkt =
    let s = is_pap_sent a.pap.state in
    let c = code_at pkt in
    let P : PapReaction → Type 0 = λ t. t.outcome ≡ (Ok tt) in
    by_le 6 (length pkt)
    (λ h. by_le (length_at pkt) (length pkt)
    (λ l. by_le (length_at pkt + 2) (length pkt)
    (λ m. inr ((λ x. omega (arith, x.past)), rw (le-ltb _ _ h, le-ltb _ _ l, le-ltb _ _ m) (cond_all P (s && eqb c 2) refl (cond_all P (s && eqb c 3) refl refl))))
    (λ m. inl (record { header = h; within = l; past = m }, rw (le-ltb _ _ h, le-ltb _ _ l, lt-ltb _ _ m) refl)))
    (λ l. inr ((λ x. omega (arith, x.within)), rw (le-ltb _ _ h, lt-ltb _ _ l) refl)))
    (λ h. inr ((λ x. omega (arith, x.header)), rw (lt-ltb _ _ h) refl))

-- ---- a packet that is not ignored

heeded : {w : Which} {c : ℕ} {pkt : List ℕ} → Heeded w c pkt → (p : Ppp)
    → (received_of p pkt).outcome ≡ (act_of (fsm_for w p) c (get_or pkt 3 0) (take (length_at pkt + 2) pkt)).outcome
unfolding received_of handle_of
heeded {w = lcp} {pkt = pkt} k p =
    let h : 2 ≤ length pkt = omega (arith, k.header) in
    rw (le-ltb _ _ h, k.protocol, le-ltb _ _ k.header, le-ltb _ _ k.whole, k.code) refl
heeded {w = ipv4cp} {pkt = pkt} k p =
    let h : 2 ≤ length pkt = omega (arith, k.header) in
    rw (le-ltb _ _ h, k.protocol, le-ltb _ _ k.header, le-ltb _ _ k.whole, k.code) refl

abbrev body_of : List ℕ → List ℕ
body_of pkt = take (length_at pkt + 2) pkt

length_body : {w : Which} {c : ℕ} {pkt : List ℕ} → Heeded w c pkt → length (body_of pkt) ≡ length_at pkt + 2
length_body {pkt = pkt} k = length-take-le (length_at pkt + 2) pkt k.whole

-- what negotiation refuses a packet with
abbrev pub number_from : Ppp → List ℕ → ℕ
number_from p pkt = outcome_number (received_of p pkt).outcome

module _ (p : Ppp) (pkt : List ℕ) where
  closed_not : (w : Which) → (state_for w p ≡ Closed → ⊥) → is_closed (fsm_for w p).state ≡ false
  closed_not w h = rw (fsm_state w p) (not_closed (state_for w p) h)

  opened : (w : Which) → state_for w p ≡ Opened → is_opened (fsm_for w p).state ≡ true
  opened w h = rw (fsm_state w p, h) refl

  -- ---- a cause refuses

  pub short_refused : length pkt < 2 → number_from p pkt ≡ 5
  unfolding received_of
  short_refused h = rw (lt-ltb _ _ h) refl

  pub pap_refused : protocol_at pkt ≡ 0xC023 → PapPast pkt → number_from p pkt ≡ 13
  unfolding received_of
  pap_refused e h =
      let two : 2 ≤ length pkt = omega (arith, h.header) in
      rw (le-ltb _ _ two, e) (go (pap_by p.auth pkt))
    where
      go : PapBy p.auth pkt → outcome_number (auth_handle_of p.auth pkt).outcome ≡ 13
      go (inl x) = rw x.1 refl
      go (inr x) = absurd (x.0 h)

  pub configure_refused : ConfigureShort p pkt → number_from p pkt ≡ 11
  configure_refused (ConfigureShort.configure w c k (inl e) n h) =
      let f = fsm_for w p in
      let l : length (body_of pkt) < 6 = omega (arith, length_body k) in
      rw (heeded k p, e, act_req f _ (body_of pkt) (closed_not w n), req_short f _ (body_of pkt) l) refl
  configure_refused (ConfigureShort.configure w c k (inr (inl e)) n h) =
      let f = fsm_for w p in
      let l : length (body_of pkt) < 6 = omega (arith, length_body k) in
      rw (heeded k p, e, act_nack f _ (body_of pkt) (closed_not w n), nack_short f false (body_of pkt) l) refl
  configure_refused (ConfigureShort.configure w c k (inr (inr e)) n h) =
      let f = fsm_for w p in
      let l : length (body_of pkt) < 6 = omega (arith, length_body k) in
      rw (heeded k p, e, act_rej f _ (body_of pkt) (closed_not w n), nack_short f true (body_of pkt) l) refl

  pub echo_refused : EchoEmpty p pkt → number_from p pkt ≡ 12
  echo_refused (EchoEmpty.echo w k s h) =
      let f = fsm_for w p in
      rw (heeded k p, act_echo f _ (body_of pkt), echo_empty_lem f (body_of pkt) (opened w s) (omega (arith, length_body k))) refl

  -- the options of a request, of a Nack and of a Rej decide alone
  request_outcome : (w : Which) → Heeded w 1 pkt → (state_for w p ≡ Closed → ⊥) → 0 < length (data_at pkt)
      → (received_of p pkt).outcome ≡ (reply_of (fresh_reply (start_of (fsm_for w p).proto)) (walk_of (data_at pkt))).outcome
  request_outcome w k n some =
      let f = fsm_for w p in
      let l : 6 ≤ length (body_of pkt) = omega (arith, length-drop 6 (body_of pkt)) in
      rw (heeded k p, act_req f _ (body_of pkt) (closed_not w n)) (req_outcome f (get_or pkt 3 0) (body_of pkt) l)

  answer_outcome : (w : Which) (c : ℕ) → Heeded w c pkt → (c ≡ 3) ⊎ (c ≡ 4) → (state_for w p ≡ Closed → ⊥) → {at : ℕ} → Broken (data_at pkt) at
      → (received_of p pkt).outcome ≡ Err (OptionCut at)
  answer_outcome w c k (inl e) n x =
      let f = fsm_for w p in
      let l : 6 ≤ length (body_of pkt) = omega (arith, broken_some x, length-drop 6 (body_of pkt)) in
      rw (heeded k p, e, act_nack f _ (body_of pkt) (closed_not w n), nack_outcome f false (body_of pkt) l) (answer_refused false f.proto (data_at pkt) x)
  answer_outcome w c k (inr e) n x =
      let f = fsm_for w p in
      let l : 6 ≤ length (body_of pkt) = omega (arith, broken_some x, length-drop 6 (body_of pkt)) in
      rw (heeded k p, e, act_rej f _ (body_of pkt) (closed_not w n), nack_outcome f true (body_of pkt) l) (answer_refused true f.proto (data_at pkt) x)

  pub option_refused : {n : ℕ} → OptionFault p pkt n → number_from p pkt ≡ n
  option_refused (OptionFault.request w k n x) =
      ap outcome_number (request_outcome w k n (fault_some x)) ∙ request_refused (fsm_for w p).proto (data_at pkt) (rw (fsm_kind w p) x)
  option_refused (OptionFault.answer w c k e n x) = ap outcome_number (answer_outcome w c k e n x)

  points : {o : Result Unit Refusal} → (received_of p pkt).outcome ≡ o → Told (data_at pkt) o → Points (data_at pkt) (outcome_values (received_of p pkt).outcome)
  points e t =
      record {
        offset = t.offset;
        first = t.first;
        only = λ b. broken_one false (fsm_for lcp p).proto (data_at pkt) b t.first;
        values = ap outcome_values e ∙ t.values;
      }

  -- 7 tells where the option is
  pub option_points : OptionFault p pkt 7 → Points (data_at pkt) (outcome_values (received_of p pkt).outcome)
  option_points x = go x refl
    where
      go : {n : ℕ} → OptionFault p pkt n → n ≡ 7 → Points (data_at pkt) (outcome_values (received_of p pkt).outcome)
      go (OptionFault.request w k n x) e =
          points (request_outcome w k n (fault_some x)) (request_tells (fsm_for w p).proto (data_at pkt) (rw (fsm_kind w p, ← e) x))
      go (OptionFault.answer w c k e n x) z = points (answer_outcome w c k e n x) (record { offset = _; first = x; values = refl })

  reject_refused : (protocol_at pkt ≡ 0xC021 → ⊥) → (protocol_at pkt ≡ 0xC023 → ⊥) → (protocol_at pkt ≡ 0x0021 → ⊥) → (protocol_at pkt ≡ 0x8021 → ⊥)
      → max_packet < length pkt + 6 → number_from p pkt ≡ 10
  unfolding received_of reject_of protocol_reject_of
  reject_refused a b c d h =
      let two : 2 ≤ length pkt = omega arith in
      let long : max_rejected < length pkt = omega arith in
      rw (le-ltb _ _ two, ne_eqb _ _ a, ne_eqb _ _ b, ne_eqb _ _ c, ne_eqb _ _ d, lt-ltb _ _ long) refl

  pub reply_refused : ReplyLong p pkt → number_from p pkt ≡ 10
  reply_refused (ReplyLong.echo w k s h) =
      let f = fsm_for w p in
      let e = length_body k in
      rw (heeded k p, act_echo f _ (body_of pkt), echo-long f (body_of pkt) (opened w s) (omega arith) (omega arith)) refl
  reply_refused (ReplyLong.reject a b c d h) = reject_refused a b c d h

-- ---- a refusal has its cause

pub data Cause (p : Ppp) (pkt : List ℕ) : ℕ → Type 0 where
  fine : Cause p pkt 0
  short : length pkt < 2 → Cause p pkt 5
  configure_short : ConfigureShort p pkt → Cause p pkt 11
  echo_empty : EchoEmpty p pkt → Cause p pkt 12
  pap_past : protocol_at pkt ≡ 0xC023 → PapPast pkt → Cause p pkt 13
  option : {n : ℕ} → OptionFault p pkt n → Cause p pkt n
  reply_long : ReplyLong p pkt → Cause p pkt 10

-- of what a step comes to
abbrev Caused : Ppp → List ℕ → Reaction → Type 0
Caused p pkt t = Cause p pkt (outcome_number t.outcome)

module _ (p : Ppp) (pkt : List ℕ) (w : Which) where
  module _ (n : state_for w p ≡ Closed → ⊥) where
    req_cause : Heeded w 1 pkt → Caused p pkt (req_of (fsm_for w p) (get_or pkt 3 0) (body_of pkt))
    req_cause k =
        by_le 6 (length (body_of pkt))
        (λ h. rw (req_outcome (fsm_for w p) (get_or pkt 3 0) (body_of pkt) h) (go _ (request_found (fsm_for w p).proto (data_at pkt))))
        (λ h. rw (req_short (fsm_for w p) (get_or pkt 3 0) (body_of pkt) h) (configure_short (ConfigureShort.configure w 1 k (inl refl) n (omega (arith, length_body k)))))
      where
        go : (m : ℕ) → (m ≡ 0) ⊎ Fault (kind_of (fsm_for w p).proto) 0 0 (data_at pkt) m → Cause p pkt m
        go m (inl e) = rw e fine
        go m (inr x) = option (OptionFault.request w k n (rw (fsm_kind w p) at x))

    nack_cause : (rej : Bool) (c : ℕ) → (c ≡ 3) ⊎ (c ≡ 4) → Heeded w c pkt → Caused p pkt (nack_of (fsm_for w p) rej (body_of pkt))
    nack_cause rej c e k =
        by_le 6 (length (body_of pkt))
        (λ h. rw (nack_outcome (fsm_for w p) rej (body_of pkt) h) (go _ refl (answer_found rej (fsm_for w p).proto (data_at pkt))))
        (λ h. rw (nack_short (fsm_for w p) rej (body_of pkt) h) (configure_short (ConfigureShort.configure w c k (inr e) n (omega (arith, length_body k)))))
      where
        go : (o : Result Unit Refusal) → o ≡ (nacks_of rej (fsm_for w p).proto (walk_of (data_at pkt))).outcome → Ended (data_at pkt) o → Cause p pkt (outcome_number o)
        go o z (taken e) = rw e fine
        go o z (cut_at b) = rw (z, answer_refused rej (fsm_for w p).proto (data_at pkt) b) (option (OptionFault.answer w c k e n b))

  echo_cause : Heeded w 9 pkt → Caused p pkt (echo_of (fsm_for w p) (body_of pkt))
  echo_cause k =
      let f = fsm_for w p in
      let q = body_of pkt in
      by_test (is_opened f.state)
      (λ s. let o = sym (fsm_state w p) ∙ is_opened_lem f.state s in
      by_le 3 (length q)
      (λ h. by_le (length q) max_packet (λ l. rw (echo_fine f q s h l) fine)
      (λ l. rw (echo-long f q s h l) (reply_long (ReplyLong.echo w k o (omega (arith, length_body k))))))
      (λ h. rw (echo_empty_lem f q s h) (echo_empty (EchoEmpty.echo w k o (omega (arith, length_body k))))))
      (λ s. rw (echo_elsewhere f q s) fine)

  act_cause : ((c : ℕ) → code_at pkt ≡ c → Heeded w c pkt) → Caused p pkt (act_of (fsm_for w p) (code_at pkt) (get_or pkt 3 0) (body_of pkt))
  unfolding act_of ack_of requested term_ack_of ignore_of
  act_cause k =
      let P = Caused p pkt in
      let c = code_at pkt in
      let f = fsm_for w p in
      cond_by P (eqb c 9) (λ e. echo_cause (k 9 (eqb-true c 9 e)))
      (λ _. cond_all P (eqb c 11) fine
      (cond_by P (is_closed f.state) (λ _. fine)
      (λ s. let n : state_for w p ≡ Closed → ⊥ = λ z. true≢false (sym (ap is_closed (fsm_state w p ∙ z)) ∙ s) in
      cond_by P (eqb c 1) (λ e. req_cause n (k 1 (eqb-true c 1 e)))
      (λ _. cond_all P (eqb c 2) (cond_all P (ack_resends f.state) fine fine)
      (cond_by P (eqb c 3) (λ e. nack_cause n false 3 (inl refl) (k 3 (eqb-true c 3 e)))
      (λ _. cond_by P (eqb c 4) (λ e. nack_cause n true 4 (inr refl) (k 4 (eqb-true c 4 e)))
      (λ _. cond_all P (eqb c 5) fine fine)))))))

  handle_cause : protocol_at pkt ≡ number_for w → Caused p pkt (handle_of (fsm_for w p) pkt)
  unfolding handle_of ignore_of
  handle_cause e =
      let P = Caused p pkt in
      cond_by P (ltb (length pkt) 6) (λ _. fine)
      (λ h. cond_by P (ltb (length pkt) (length_at pkt + 2)) (λ _. fine)
      (λ l. act_cause (λ c z. record { protocol = e; header = ltb-false _ _ h; whole = ltb-false _ _ l; code = z })))

module _ (p : Ppp) (pkt : List ℕ) where
  pap_cause : protocol_at pkt ≡ 0xC023 → Cause p pkt (outcome_number (auth_handle_of p.auth pkt).outcome)
  pap_cause e = go (pap_by p.auth pkt)
    where
      go : PapBy p.auth pkt → Cause p pkt (outcome_number (auth_handle_of p.auth pkt).outcome)
      go (inl x) = rw x.1 (pap_past e x.0)
      go (inr x) = rw x.1 fine

  pub cause : Cause p pkt (number_from p pkt)
  unfolding received_of reject_of protocol_reject_of
  cause =
      let P : Turn → Type 0 = λ t. Cause p pkt (outcome_number t.outcome) in
      let n = protocol_at pkt in
      cond_by P (ltb (length pkt) 2) (λ e. short (ltb-true _ _ e))
      (λ _. cond_by P (eqb n 0xC021) (λ e. handle_cause p pkt lcp (eqb-true n 0xC021 e))
      (λ a. cond_by P (eqb n 0xC023) (λ e. pap_cause (eqb-true n 0xC023 e))
      (λ b. cond_by P (eqb n 0x0021) (λ _. fine)
      (λ c. cond_by P (eqb n 0x8021) (λ e. handle_cause p pkt ipv4cp (eqb-true n 0x8021 e))
      (λ d. cond_by (λ (t : Reaction). Cause p pkt (outcome_number t.outcome)) (ltb max_rejected (length pkt))
      (λ l. reply_long (ReplyLong.reject (eqb-false _ _ a) (eqb-false _ _ b) (eqb-false _ _ c) (eqb-false _ _ d) (omega (arith, ltb-true max_rejected (length pkt) l))))
      (λ _. fine))))))

-- The refusal table of poll: the first row that holds, and what is sent where none does.
-- Assumes nothing.
use mathlib.Core.Path.{◌≡◌, refl, ap, sym, ◌∙◌}
use mathlib.Core.Bool.{true, cond, true≢false}
use mathlib.Core.List.{List, []}
use mathlib.Core.Logic.{◌⊎◌, inl, inr}
use Prim.Native.Nat.{ℕ, ◌-◌, ◌<◌}
use native.Mathlib.Omega.{arith}
use borrow.Author.Tests.{ltb-true, ltb-false, leb-true, leb-false}
use lib.Dec.{ltb, leb}
use lib.ListN.{length, drop, length-take}
use Rattle.std.specs.Prelude.{Result, Ok, Err}
use Rattle.laws.proofs.Cases.{by_test, cond_by}
use Rattle.framing.specs.Writer.{over}
use Rattle.framing.specs.Reader.{is_short, is_complete, fetched}
use Rattle.framing.specs.declared.frame_reader.FrameReader.{FrameReader}
use Rattle.framing.specs.declared.frame_reader.State.TheVariants.{Complete}
use Rattle.options.specs.Refusal.{number_of, outcome_number, outcome_values}
use Rattle.phases.specs.Phases.{Turn, received_of, poll_of, turn_of}
use Rattle.options.specs.declared.refusal.Refusal.{Refusal}
use Rattle.phases.proofs.Phasing.{turn_refused_lem, turn_done}
use Rattle.link.specs.Frames.{frames}
use Rattle.link.specs.Link.{held_by, link_of, Poll, declined, written, answered_poll, is_ip, packet_poll, poll_link, Polls, action_number, action_values, transmitted}
use Rattle.refusals.specs.Table.{packet_in, Kept, link_moved_on, poll_rows}
use Rattle.link.specs.declared.refusal.Refusal as link
use Rattle.link.specs.declared.refusal.Refusal.TheVariants.{Negotiation}
use Rattle.link.specs.declared.pppos.PPPoS.{PPPoS}
use Rattle.link.specs.declared.pppos.PPPoSAction.{PPPoSAction}
use Rattle.link.specs.declared.pppos.PPPoSAction.TheVariants.{Received}
use Rattle.link.proofs.Polling.{answered-done, answered_refused}
use Rattle.link.proofs.Hearing.{sent_count, ip_received}
use Rattle.refusals.proofs.Rows.{First}
use Rattle.refusals.proofs.FramingCalls.{complete_is}
use Rattle.refusals.proofs.Causes.{number_from}
use Rattle.refusals.proofs.Packets.{refusal_some, packet_fine, packet_refused}

-- ---- what a poll comes to

abbrev kept_of : Poll → Kept
kept_of q = record { told = action_values q.action; link = q.link; tx = q.tx; rx = q.rx }

-- the frames that a poll has to send
abbrev pub out_of : PPPoS → List ℕ → List ℕ
out_of l rx =
    cond (is_complete l.frame_reader.state)
    (cond (is_ip (packet_in l rx)) [] (frames (turn_of l.ppp (packet_in l rx)).sent))
    (frames (poll_of l.ppp).sent)

-- where nothing is refused, out is at the front of the transmit buffer and counted
abbrev Sent : List ℕ → List ℕ → Poll → Type 0
Sent tx out q = action_number q.action ≡ 0 → (transmitted q.action ≡ length out) × (q.tx ≡ over out tx)

record Right (l : PPPoS) (tx rx out : List ℕ) (q : Poll) : Type 0 where
  first : First (action_number q.action) (kept_of q) (poll_rows l tx rx out)
  sent : Sent tx out q

module _ (l : PPPoS) (tx rx : List ℕ) where
  -- the last row
  Last : List ℕ → Poll → Type 0
  Last out q =
      ((action_number q.action ≡ 1) × (length tx < length out) × ((action_values q.action ≡ []) × (q.link ≡ l) × (q.tx ≡ tx) × (q.rx ≡ rx)))
      ⊎ ((length tx < length out → ⊥) × (action_number q.action ≡ 0))

  written_last : (r : FrameReader) (t : Turn) → Last (frames t.sent) (written l r t tx rx) × Sent tx (frames t.sent) (written l r t tx rx)
  unfolding Last
  written_last r t =
      let out = frames t.sent in
      cond_by (λ (q : Poll). Last out q × Sent tx out q) (leb (length out) (length tx))
      (λ e. (inr ((λ h. omega (arith, leb-true (length out) (length tx) e)), (sent_count (length out)).0), (λ _. ((sent_count (length out)).1, refl))))
      (λ e. (inl (refl, leb-false (length out) (length tx) e, (refl, refl, refl, refl)), (λ z. absurd (omega arith))))

  -- what was received
  abbrev Got : Type 0
  Got = l.frame_reader.state ≡ Complete

  abbrev pkt : List ℕ
  pkt = packet_in l rx

  abbrev Dropped : Kept → Type 0
  Dropped k = (k.link ≡ link_moved_on l) × (k.tx ≡ tx) × (k.rx ≡ rx)

  module _ (out : List ℕ) (q : Poll) (held : length rx < l.frame_reader.len → ⊥) where
    -- a packet that is not refused
    first_last : (Got → number_from l.ppp pkt ≡ 0) → Last out q → First (action_number q.action) (kept_of q) (poll_rows l tx rx out)
    unfolding Last
    first_last z last = inr (held, packet_fine (λ c. Got × c) (λ k. k.told) Dropped l.ppp pkt (drop 9 (poll_rows l tx rx out)) (kept_of q) (λ c h. (h.1, z h.0)) last)

    -- one that is
    first_refused : (m : ℕ) → Got → number_from l.ppp pkt ≡ m → (m ≡ 0 → ⊥) → Dropped (kept_of q) → action_values q.action ≡ outcome_values (received_of l.ppp pkt).outcome
        → First m (kept_of q) (poll_rows l tx rx out)
    first_refused m g e z d t =
        inr (held, packet_refused (λ c. Got × c) (λ k. k.told) Dropped l.ppp pkt (drop 9 (poll_rows l tx rx out)) (kept_of q) (λ c h. h.1) (λ c x. (g, x)) d t m e z)

  module _ (held : length rx < l.frame_reader.len → ⊥) where
    -- a turn of negotiation that refuses nothing
    right_written : (r : FrameReader) (t : Turn) → (Got → number_from l.ppp pkt ≡ 0) → Right l tx rx (frames t.sent) (written l r t tx rx)
    right_written r t z =
        let w = written_last r t in
        record { first = first_last (frames t.sent) (written l r t tx rx) held z w.0; sent = w.1 }

    -- the packet, by what negotiation says of it
    right_turn : Got → (o : Result Unit Refusal) → (received_of l.ppp pkt).outcome ≡ o
        → Right l tx rx (frames (turn_of l.ppp pkt).sent) (answered_poll l (fetched l.frame_reader) (turn_of l.ppp pkt) tx rx)
    right_turn g (Ok tt) e =
        let r = fetched l.frame_reader in
        let t = turn_of l.ppp pkt in
        rw (answered-done l r t tx rx (ap (λ (t : Turn). t.outcome) (turn_done l.ppp pkt e))) (right_written r t (λ _. ap outcome_number e))
    right_turn g (Err why) e =
        let r = fetched l.frame_reader in
        let t = turn_of l.ppp pkt in
        let n = ap outcome_number e in
        rw (answered_refused l r t tx rx (ap (λ (t : Turn). t.outcome) (turn_refused_lem l.ppp pkt e)))
        (record {
          first =
              first_refused (frames t.sent) (declined (Negotiation why) (link_of r l.ppp) tx rx) held (number_of why) g n (refusal_some why)
              (refl, refl, refl) (sym (ap outcome_values e));
          sent = λ z. absurd (refusal_some why z);
        })

    -- an IPv4 packet is refused for nothing
    ip_fine : is_ip pkt ≡ true → number_from l.ppp pkt ≡ 0
    ip_fine e = rw (ip_received l.ppp pkt e) refl

    right_packet : Got → Right l tx rx (cond (is_ip pkt) [] (frames (turn_of l.ppp pkt).sent))
        (packet_poll l (fetched l.frame_reader) (l.frame_reader.len - 2) tx rx pkt)
    unfolding packet_poll Last
    right_packet g =
        by_test (is_ip pkt)
        (λ e. rw e (record { first = first_last [] (record { action = Ok (Received 3 (l.frame_reader.len - 2)); link = link_of (fetched l.frame_reader) l.ppp; tx = tx; rx = rx }) held (λ _. ip_fine e) (inr ((λ h. omega arith), refl)); sent = λ _. (refl, refl) }))
        (λ e. rw e (right_turn g (received_of l.ppp pkt).outcome refl))

  right : Right l tx rx (out_of l rx) (poll_link l tx rx)
  unfolding poll_link answered_poll
  right =
      let r = l.frame_reader in
      let P = Right l tx rx (out_of l rx) in
      cond_by P (is_short (held_by l rx))
      (λ e. record { first = inl (refl, ltb-true _ _ e, (refl, refl, refl, refl)); sent = λ z. absurd (omega arith) })
      (λ e. let held : length rx < r.len → ⊥ = λ h. omega (arith, ltb-false (length rx) r.len e) in
      cond_by P (is_complete r.state)
      (λ s. let g = complete_is r.state s in
      cond_by P (ltb r.len 3)
      (λ h. record {
        first = inr (held, inl (refl, (g, omega (arith, length-take (r.len - 3) (drop 1 rx), ltb-true r.len 3 h)), ((refl, refl, refl), refl)));
        sent = λ z. absurd (omega arith);
      })
      (λ h. let m : r.len - 2 - 1 ≡ r.len - 3 = omega arith in
      rw (s, m) (right_packet held g)))
      (λ s. rw s (right_written held r (poll_of l.ppp) (λ g. absurd (true≢false (sym (ap is_complete g) ∙ s))))))

-- ---- as the contract has it

module _ (l : PPPoS) (tx rx : List ℕ) {a : Result PPPoSAction link.Refusal} {l' : PPPoS} {tx' rx' : List ℕ} (c : Polls (poll_link l tx rx) a l' tx' rx') where
  pub poll-first : First (action_number a) (record { told = action_values a; link = l'; tx = tx'; rx = rx' }) (poll_rows l tx rx (out_of l rx))
  poll-first = rw (c.action, c.link, c.transmit, c.receive) (right l tx rx).first

  pub poll-sent : action_number a ≡ 0 → (transmitted a ≡ length (out_of l rx)) × (tx' ≡ over (out_of l rx) tx)
  poll-sent = rw (c.action, c.transmit) (right l tx rx).sent

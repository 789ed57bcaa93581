-- What a poll comes to, case by case; and the code's turn stands for negotiation's.
-- Assumes nothing.
use mathlib.Core.Path.{◌≡◌, refl, sym, ap, ◌∙◌}
use mathlib.Core.Bool.{Bool, true, false, cond, ◌&&◌}
use mathlib.Core.List.{List, [], ◌∷◌}
use Prim.Native.Nat.{ℕ, ◌-◌, ◌≤◌, ◌<◌}
use native.Mathlib.Omega.{arith}
use borrow.Author.Tests.{leb-true, lt-ltb, le-ltb, le-leb, lt-leb}
use lib.Dec.{ltb, leb, eqb}
use lib.ListN.{length, take, drop}
use lib.Seq.{sets}
use Rattle.std.specs.Prelude.{None, Some, Result, Ok, Err}
use Rattle.laws.proofs.Cases.{apart, by_test, by_le, both, cond_all, cond_ap}
use Rattle.laws.proofs.Stores.{sets_front}
use Rattle.framing.specs.Reader.{is_complete, is_short, fetched, packet_of, Got, got_range, Receives}
use Rattle.framing.specs.Refusal as framing_refusal
use Rattle.framing.specs.declared.frame_reader.Span.{Span}
use Rattle.framing.specs.declared.refusal.Refusal.TheVariants.{BufferShort, FrameShort}
use Rattle.framing.specs.declared.refusal.Refusal as framing
use Rattle.framing.specs.declared.frame_reader.FrameReader.{FrameReader}
use Rattle.framing.proofs.OneAnswer.{gots_differ}
use Rattle.phases.specs.Phases.{Turn, rests_of, poll_of, turn_of, Turns}
use Rattle.options.specs.declared.refusal.Refusal as negotiation
use Rattle.negotiation.specs.declared.replies.Replies.{Replies}
use Rattle.phases.specs.declared.ppp.Ppp.{Ppp}
use Rattle.phases.specs.declared.ppp.Turned.{Turned}
use Rattle.negotiation.specs.Replies.{max_replies, Short}
use Rattle.negotiation.proofs.Joining.{contents_made, short_made}
use Rattle.negotiation.proofs.Sends as sending
use Rattle.phases.proofs.Resting.{rests_still}
use Rattle.link.specs.declared.refusal.Refusal.{Refusal}
use Rattle.link.specs.declared.refusal.Refusal.TheVariants.{Framing, Negotiation, FramesFull}
use Rattle.link.specs.declared.pppos.PPPoS.{PPPoS}
use Rattle.link.specs.declared.pppos.PPPoSAction.{PPPoSAction}
use Rattle.link.specs.declared.pppos.PPPoSAction.TheVariants.{Idle, Received}
use Rattle.link.specs.Frames.{frames, always_enough}
use Rattle.link.specs.Link.{link_of, held_by, Poll, declined, sent, echoed_in, written, by_outcome, answered_poll, as_turn, is_ip, packet_poll, poll_link, action_number, action_values, Polls}
use Rattle.link.proofs.Sending.{turn_narrow, poll_narrow}

abbrev pub polled : Result PPPoSAction Refusal → PPPoS → List ℕ → List ℕ → Poll
polled a l tx rx = record { action = a; link = l; tx = tx; rx = rx }

polled_as : {a a' : Result PPPoSAction Refusal} {l l' : PPPoS} {tx tx' rx rx' : List ℕ} → a ≡ a' → l ≡ l' → tx ≡ tx' → rx ≡ rx' → polled a l tx rx ≡ polled a' l' tx' rx'
polled_as p q r s = cc

pub polls_of : {a : Result PPPoSAction Refusal} {l : PPPoS} {tx rx : List ℕ} {p : Poll} → polled a l tx rx ≡ p → Polls p a l tx rx
polls_of e =
    record {
      number = ap (λ (x : Poll). action_number x.action) e;
      values = ap (λ (x : Poll). action_values x.action) e;
      action = ap (λ (x : Poll). x.action) e;
      link = ap (λ (x : Poll). x.link) e;
      transmit = ap (λ (x : Poll). x.tx) e;
      receive = ap (λ (x : Poll). x.rx) e;
    }

-- ---- a turn

module _ (l : PPPoS) (r : FrameReader) (t : Turn) (tx rx : List ℕ) where
  pub written_none : {a : Result PPPoSAction Refusal} {k : PPPoS} → leb (length (frames t.sent)) (length tx) ≡ false → a ≡ Err FramesFull → k ≡ l
      → polled a k tx rx ≡ written l r t tx rx
  written_none h ea ek = rw h (polled_as ea ek refl refl)

  pub written_all : {a : Result PPPoSAction Refusal} {n : ℕ} {tx' rx' : List ℕ} → leb (length (frames t.sent)) (length tx) ≡ true → n ≡ length (frames t.sent) → a ≡ Ok (sent n)
      → tx' ≡ sets tx 0 (frames t.sent) → rx' ≡ echoed_in t.echoed rx → polled a (link_of r t.ppp) tx' rx' ≡ written l r t tx rx
  written_all h e ea et er = rw h (polled_as (ea ∙ ap (λ (n : ℕ). Ok (sent n)) e) refl (et ∙ sets_front (frames t.sent) tx (leb-true (length (frames t.sent)) (length tx) h)) er)

  pub answered_refused : {why : negotiation.Refusal} → t.outcome ≡ Err why
      → answered_poll l r t tx rx ≡ declined (Negotiation why) (link_of r l.ppp) tx rx
  unfolding answered_poll
  answered_refused e = ap (λ (o : Result Unit negotiation.Refusal). by_outcome o l r t tx rx) e

  pub answered-done : t.outcome ≡ Ok tt → answered_poll l r t tx rx ≡ written l r t tx rx
  unfolding answered_poll
  answered-done e = ap (λ (o : Result Unit negotiation.Refusal). by_outcome o l r t tx rx) e

-- the code's turn is the one that phases promises
pub turned_is : {turn : Turn} {t : Turned} → Turns turn t.outcome t.echoed t.ppp t.replies → as_turn t ≡ turn
turned_is {turn} h = rw (h.outcome, h.echoed, h.ppp, h.replies, contents_made turn.sent) refl

-- where the phase step would do nothing, there is nothing to write
pub answered_rested : (l : PPPoS) (tx rx : List ℕ) → rests_of l.ppp ≡ true → polled (Ok Idle) l tx rx ≡ answered_poll l l.frame_reader (poll_of l.ppp) tx rx
unfolding answered_poll frames
answered_rested l tx rx e = rw (rests_still l.ppp e, le-leb 0 (length tx) (omega arith)) refl

pub turns_short : {turn : Turn} {o : Result Unit negotiation.Refusal} {e : Bool} {p : Ppp} {rs : Replies} {n : ℕ}
    → Turns turn o e p rs → sending.Sends n turn.sent → n ≤ max_replies → Short rs
turns_short {turn} h s few = rw h.replies (short_made turn.sent (omega (arith, s.few)) s.short)

-- ---- what is received

module _ (l : PPPoS) (r : FrameReader) (to : ℕ) (tx rx pkt : List ℕ) where
  pub packet_ip : is_ip pkt ≡ true → packet_poll l r to tx rx pkt ≡ polled (Ok (Received 3 to)) (link_of r l.ppp) tx rx
  unfolding packet_poll
  packet_ip e = rw e refl

  pub packet_turn : is_ip pkt ≡ false → packet_poll l r to tx rx pkt ≡ answered_poll l r (turn_of l.ppp pkt) tx rx
  unfolding packet_poll
  packet_turn e = rw e refl

-- what a fetch gives
abbrev packet_to : ℕ → Got
packet_to n = Ok (Some (record { start = 1; end = n }))

abbrev got_of : FrameReader → Got
got_of r = cond (is_complete r.state) (cond (ltb r.len 3) (Err FrameShort) (packet_to (r.len - 2))) (Ok None)

got_number_lem : (c s : Bool) (n : ℕ) → framing_refusal.outcome_number (cond c (cond s (Err FrameShort) (packet_to n)) (Ok None)) ≡ cond (c && s) 5 0
got_number_lem true true n = refl
got_number_lem true false n = refl
got_number_lem false s n = refl

got_range_lem : (c : Bool) (r : FrameReader) → got_range (cond c (cond (ltb r.len 3) (Err FrameShort) (packet_to (r.len - 2))) (Ok None)) ≡ cond (c && leb 3 r.len) (1 ∷ (r.len - 2) ∷ []) []
got_range_lem true r =
    by_le 3 r.len
    (λ h. rw (le-ltb r.len 3 h, le-leb 3 r.len h) refl)
    (λ h. rw (lt-ltb r.len 3 h, lt-leb 3 r.len h) refl)
got_range_lem false r = refl

got_is : {r r' : FrameReader} {g : Got} → Receives r g r' → g ≡ got_of r
got_is {r} {r'} {g} h =
    gots_differ g (got_of r) (h.number ∙ sym (got_number_lem (is_complete r.state) (ltb r.len 3) (r.len - 2)))
    (h.range ∙ sym (got_range_lem (is_complete r.state) r))

-- a poll by what the fetch gave, with the reader that it left
abbrev by_got : PPPoS → List ℕ → List ℕ → FrameReader → Got → Poll
by_got l tx rx r (Ok (Some p)) = packet_poll l r p.end tx rx (take (p.end - 1) (drop 1 rx))
by_got l tx rx r (Err why) = declined (Framing why) (link_of r l.ppp) tx rx
by_got l tx rx r (Ok None) = answered_poll l l.frame_reader (poll_of l.ppp) tx rx

module _ (l : PPPoS) (tx rx : List ℕ) where
  pub poll_short : length rx < l.frame_reader.len → poll_link l tx rx ≡ declined (Framing BufferShort) l tx rx
  unfolding poll_link
  poll_short h = rw (lt-ltb (length rx) l.frame_reader.len h) refl

  module _ (room : l.frame_reader.len ≤ length rx) {g : Got} {next : FrameReader} (h : Receives l.frame_reader g next) where
    poll_got : poll_link l tx rx ≡ by_got l tx rx next g
    unfolding poll_link
    poll_got =
        let r = l.frame_reader in
        by_test (is_complete r.state)
        (λ t.
        let e : next ≡ fetched r = h.reader ∙ rw t refl in
        let k : g ≡ cond (ltb r.len 3) (Err FrameShort) (packet_to (r.len - 2)) = got_is h ∙ rw t refl in
        rw (le-ltb (length rx) r.len room, t, k, e)
        (sym (cond_ap (by_got l tx rx (fetched r)) (ltb r.len 3) (Err FrameShort) (packet_to (r.len - 2)))))
        (λ t.
        let k : g ≡ Ok None = got_is h ∙ rw t refl in
        rw (le-ltb (length rx) r.len room, t, k) refl)

    pub poll-nothing : g ≡ Ok None → poll_link l tx rx ≡ answered_poll l l.frame_reader (poll_of l.ppp) tx rx
    poll-nothing e = poll_got ∙ ap (by_got l tx rx next) e

    pub poll_refused : {why : framing.Refusal} → g ≡ Err why → poll_link l tx rx ≡ declined (Framing why) (link_of next l.ppp) tx rx
    poll_refused e = poll_got ∙ ap (by_got l tx rx next) e

    pub poll_packet_lem : {p : Span} → g ≡ Ok (Some p) → poll_link l tx rx ≡ packet_poll l next p.end tx rx (take (p.end - 1) (drop 1 rx))
    poll_packet_lem e = poll_got ∙ ap (by_got l tx rx next) e

-- ---- a transmit buffer that always suffices

abbrev NotFull : Poll → Type 0
NotFull p = p.action ≡ Err FramesFull → ⊥

answered_room : (l : PPPoS) (r : FrameReader) (t : Turn) (tx rx : List ℕ) → length (frames t.sent) ≤ length tx → NotFull (answered_poll l r t tx rx)
unfolding answered_poll
answered_room l r t tx rx h = go t.outcome
  where
    go : (o : Result Unit negotiation.Refusal) → NotFull (by_outcome o l r t tx rx)
    go (Ok tt) =
        rw (le-leb (length (frames t.sent)) (length tx) h)
        (cond_all (λ (a : PPPoSAction). ◌≡◌ {A = Result PPPoSAction Refusal} (Ok a) (Err FramesFull) → ⊥) (eqb (length (frames t.sent)) 0) (λ e. apart (cc)) (λ e. apart (cc)))
    go (Err why) = λ e. apart (cc)

pub poll_room : (l : PPPoS) (tx rx : List ℕ) → always_enough ≤ length tx → NotFull (poll_link l tx rx)
unfolding poll_link packet_poll
poll_room l tx rx h =
    let r = l.frame_reader in
    let pkt = packet_of (held_by l rx) in
    cond_all NotFull (is_short (held_by l rx)) (λ e. apart (cc))
    (cond_all NotFull (is_complete r.state)
    (cond_all NotFull (ltb r.len 3) (λ e. apart (cc))
    (cond_all NotFull (is_ip pkt) (λ e. apart (cc))
    (answered_room l (fetched r) (turn_of l.ppp pkt) tx rx (omega (arith, turn_narrow l.ppp pkt)))))
    (answered_room l r (poll_of l.ppp) tx rx (omega (arith, poll_narrow l.ppp))))

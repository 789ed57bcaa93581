-- One consume and one poll over framing's transducer, for links that meet: a consume feeds, a poll with room for its frames fetches.
-- Assumes nothing.
use mathlib.Core.Path.{◌≡◌, refl, sym}
use mathlib.Core.Bool.{Bool, true, false, false≢true}
use mathlib.Core.List.{List, []}
use Prim.Native.Nat.{ℕ, ◌≤◌}
use native.Mathlib.Omega.{arith}
use borrow.Author.Tests.{leb-true, eqb-true, le-leb, le-ltb}
use lib.Dec.{ltb, leb, eqb}
use lib.ListN.{length, drop, length-set}
use Rattle.std.specs.Prelude.{Result, Ok, Err}
use Rattle.laws.proofs.Cases.{by_test, both, cond_by}
use Rattle.framing.specs.Reader.{held, is_complete, fed, fetched, packet_of}
use Rattle.framing.specs.Refusal.{count_of}
use Rattle.framing.specs.Writer.{over}
use Rattle.framing.specs.Heard.{fetched_in}
use Rattle.framing.specs.declared.frame_reader.FrameReader.{FrameReader}
use Rattle.framing.proofs.Reader.{consumed-fed, fed_left, Alike, alike_refl}
use Rattle.phases.specs.Phases.{Turn, turn_to, received_of, poll_of, turn_of}
use Rattle.phases.specs.declared.ppp.Ppp.{Ppp}
use Rattle.phases.proofs.Phasing.{received_ip_lem, turn_ip}
use Rattle.options.specs.Wire.{protocol_in}
use Rattle.options.specs.declared.refusal.Refusal as negotiation
use Rattle.link.specs.Frames.{frames, always_enough}
use Rattle.link.specs.Link.{held_by, Consumes, link_of, sent, Poll, echoed_in, by_outcome, answered_poll, is_ip, packet_poll, poll_link, action_number, transmitted}
use Rattle.link.specs.declared.refusal.Refusal.{Refusal}
use Rattle.link.specs.declared.pppos.PPPoS.{PPPoS}
use Rattle.link.specs.declared.pppos.PPPoSAction.{PPPoSAction}
use Rattle.link.proofs.Sending.{turn_narrow, poll_narrow}

-- the action of so many bytes written
pub sent_count : (n : ℕ) → (action_number (Ok (sent n)) ≡ 0) × (transmitted (Ok (sent n)) ≡ n)
sent_count n = cond_by (λ (a : PPPoSAction). (action_number (Ok a) ≡ 0) × (transmitted (Ok a) ≡ n)) (eqb n 0) (λ e. (refl, sym (eqb-true n 0 e))) (λ _. (refl, refl))

-- an IPv4 packet changes nothing in negotiation, and a turn with it would be a phase step alone
is_ip_lem : (x : List ℕ) → is_ip x ≡ true → (2 ≤ length x) × (protocol_in x ≡ 0x0021)
is_ip_lem x e =
    let k = both (leb 2 (length x)) (eqb (protocol_in x) 0x0021) e in
    (leb-true 2 (length x) k.0, eqb-true (protocol_in x) 0x0021 k.1)

pub ip_received : (p : Ppp) (x : List ℕ) → is_ip x ≡ true → received_of p x ≡ turn_to p []
ip_received p x e = received_ip_lem p x (is_ip_lem x e).0 (is_ip_lem x e).1

pub ip_turn : (p : Ppp) (x : List ℕ) → is_ip x ≡ true → turn_of p x ≡ poll_of p
ip_turn p x e = turn_ip p x (is_ip_lem x e).0 (is_ip_lem x e).1

-- a consume: framing's run on the kept bytes; what it left stands behind the bytes that are counted
pub consume_feeds : {l : PPPoS} {rx bs : List ℕ} {t : Result ℕ Refusal} {l' : PPPoS} {rx' : List ℕ} → Consumes l rx bs t l' rx'
    → l.frame_reader.len ≤ length rx
    → (held_by l' rx' ≡ (fed (held_by l rx) bs).now) × (l'.ppp ≡ l.ppp) × (drop (count_of t) bs ≡ (fed (held_by l rx) bs).left)
consume_feeds {l} {rx} {bs} c h =
    let e = consumed-fed (held_by l rx) bs h in
    (rw (c.link, c.bytes, e) refl, rw c.link refl, rw (c.count, e) (sym (fed_left (held_by l rx) bs)))

-- the echo's code stands where nothing is kept
echo_alike : (e : Bool) (r : FrameReader) (rx : List ℕ) → (e ≡ true → r.len ≡ 0) → Alike (held r (echoed_in e rx)) (held r rx)
echo_alike true r rx k = record { same_reader = refl; same_room = length-set rx 3 10; same_kept = rw (k refl) refl }
echo_alike false r rx k = alike_refl (held r rx)

module _ (l : PPPoS) (r : FrameReader) (t : Turn) (tx rx : List ℕ) (room : length (frames t.sent) ≤ length tx) (k : t.echoed ≡ true → r.len ≡ 0) where
  by_outcome_lem : (o : Result Unit negotiation.Refusal) → Alike (held_by (by_outcome o l r t tx rx).link (by_outcome o l r t tx rx).rx) (held r rx)
  by_outcome_lem (Ok tt) = rw (le-leb (length (frames t.sent)) (length tx) room) (echo_alike t.echoed r rx k)
  by_outcome_lem (Err why) = alike_refl (held r rx)

  answered_alike : Alike (held_by (answered_poll l r t tx rx).link (answered_poll l r t tx rx).rx) (held r rx)
  unfolding answered_poll
  answered_alike = by_outcome_lem t.outcome

-- a poll that is lent enough leaves what a fetch does, but for bytes behind the kept ones
pub poll-fetches : (l : PPPoS) (tx rx : List ℕ) → l.frame_reader.len ≤ length rx → always_enough ≤ length tx
    → Alike (held_by (poll_link l tx rx).link (poll_link l tx rx).rx) (fetched_in (held_by l rx))
unfolding poll_link packet_poll
poll-fetches l tx rx h room =
    let r = l.frame_reader in
    let pkt = packet_of (held_by l rx) in
    by_test (is_complete r.state)
    (λ e. by_test (ltb r.len 3)
    (λ s. rw (le-ltb (length rx) r.len h, e, s) (alike_refl (held (fetched r) rx)))
    (λ s. by_test (is_ip pkt)
    (λ i. rw (le-ltb (length rx) r.len h, e, s, i) (alike_refl (held (fetched r) rx)))
    (λ i. rw (le-ltb (length rx) r.len h, e, s, i)
    (answered_alike l (fetched r) (turn_of l.ppp pkt) tx rx (omega (arith, turn_narrow l.ppp pkt)) (λ _. refl)))))
    (λ e. rw (le-ltb (length rx) r.len h, e)
    (answered_alike l r (poll_of l.ppp) tx rx (omega (arith, poll_narrow l.ppp)) (λ (x : false ≡ true). absurd (false≢true x))))

-- what such a poll comes to, where negotiation refuses nothing: its turn, and its frames behind one another
module _ (l : PPPoS) (tx rx : List ℕ) (h : l.frame_reader.len ≤ length rx) (room : always_enough ≤ length tx) where
  abbrev pub written_poll : FrameReader → Turn → Poll
  written_poll r t =
      record { action = Ok (sent (length (frames t.sent))); link = link_of r t.ppp; tx = over (frames t.sent) tx; rx = echoed_in t.echoed rx }

  answered-written : (r : FrameReader) (t : Turn) → length (frames t.sent) ≤ always_enough → t.outcome ≡ Ok tt → answered_poll l r t tx rx ≡ written_poll r t
  unfolding answered_poll
  answered-written r t n e = rw (e, le-leb (length (frames t.sent)) (length tx) (omega arith)) refl

  pub poll-turns : is_complete l.frame_reader.state ≡ true → 3 ≤ l.frame_reader.len → is_ip (packet_of (held_by l rx)) ≡ false
      → (turn_of l.ppp (packet_of (held_by l rx))).outcome ≡ Ok tt
      → poll_link l tx rx ≡ written_poll (fetched l.frame_reader) (turn_of l.ppp (packet_of (held_by l rx)))
  unfolding poll_link packet_poll
  poll-turns f n i e =
      let r = l.frame_reader in
      rw (le-ltb (length rx) r.len h, f, le-ltb r.len 3 n, i)
      (answered-written (fetched r) (turn_of l.ppp (packet_of (held_by l rx))) (turn_narrow l.ppp (packet_of (held_by l rx))) e)

  pub poll_waits : is_complete l.frame_reader.state ≡ false → poll_link l tx rx ≡ written_poll l.frame_reader (poll_of l.ppp)
  unfolding poll_link
  poll_waits f =
      rw (le-ltb (length rx) l.frame_reader.len h, f)
      (answered-written l.frame_reader (poll_of l.ppp) (poll_narrow l.ppp) refl)

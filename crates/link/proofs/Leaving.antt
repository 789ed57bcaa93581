-- What a poll leaves is one of four links: whatever holds of those holds of it. Its transmit buffer is as long as before.
-- Assumes nothing.
use mathlib.Core.Path.{◌≡◌, refl}
use mathlib.Core.Bool.{false}
use mathlib.Core.List.{List}
use Prim.Native.Nat.{ℕ}
use native.Mathlib.Omega.{arith}
use borrow.Author.Tests.{leb-true}
use lib.Dec.{ltb, leb}
use lib.ListN.{length, drop, length-append, length-drop}
use Rattle.std.specs.Prelude.{Result, Ok, Err}
use Rattle.laws.proofs.Cases.{cond_all, cond_by}
use Rattle.framing.specs.Reader.{is_complete, is_short, fetched, packet_of}
use Rattle.framing.specs.declared.frame_reader.FrameReader.{FrameReader}
use Rattle.phases.specs.Phases.{Turn, poll_of, turn_of}
use Rattle.options.specs.declared.refusal.Refusal.{Refusal}
use Rattle.link.specs.Frames.{frames}
use Rattle.link.specs.Link.{link_of, held_by, Poll, by_outcome, answered_poll, is_ip, packet_poll, poll_link}
use Rattle.link.specs.declared.pppos.PPPoS.{PPPoS}

module _ (P : PPPoS → Type 0) (l : PPPoS) (tx rx : List ℕ) (stays : P l) where
  abbrev Leaves : Poll → Type 0
  Leaves q = P q.link

  answered-leaves : (r : FrameReader) (t : Turn) → P (link_of r l.ppp) → P (link_of r t.ppp) → Leaves (answered_poll l r t tx rx)
  unfolding answered_poll
  answered-leaves r t old new = by_outcome_lem t.outcome
    where
      by_outcome_lem : (o : Result Unit Refusal) → Leaves (by_outcome o l r t tx rx)
      by_outcome_lem (Ok tt) = cond_all Leaves (leb (length (frames t.sent)) (length tx)) new stays
      by_outcome_lem (Err why) = old

  -- as it was, with its frame fetched, with a packet taken that is not IPv4's, with a phase step taken
  pub poll-leaves : P (link_of (fetched l.frame_reader) l.ppp)
      → (is_ip (packet_of (held_by l rx)) ≡ false → P (link_of (fetched l.frame_reader) (turn_of l.ppp (packet_of (held_by l rx))).ppp))
      → P (link_of l.frame_reader (poll_of l.ppp).ppp) → P (poll_link l tx rx).link
  unfolding poll_link packet_poll
  poll-leaves fetches turns steps =
      let r = l.frame_reader in
      let pkt = packet_of (held_by l rx) in
      cond_all Leaves (is_short (held_by l rx)) stays
      (cond_all Leaves (is_complete r.state)
      (cond_all Leaves (ltb r.len 3) fetches
      (cond_by Leaves (is_ip pkt) (λ _. fetches) (λ other. answered-leaves (fetched r) (turn_of l.ppp pkt) fetches (turns other))))
      (answered-leaves r (poll_of l.ppp) stays steps))

-- a poll leaves a transmit buffer as long as the one it was lent
module _ (l : PPPoS) (tx rx : List ℕ) where
  abbrev AsLong : Poll → Type 0
  AsLong q = length q.tx ≡ length tx

  answered-long : (r : FrameReader) (t : Turn) → AsLong (answered_poll l r t tx rx)
  unfolding answered_poll
  answered-long r t = by_outcome_lem t.outcome
    where
      by_outcome_lem : (o : Result Unit Refusal) → AsLong (by_outcome o l r t tx rx)
      by_outcome_lem (Ok tt) =
          cond_by AsLong (leb (length (frames t.sent)) (length tx))
          (λ e. omega (arith, length-append (frames t.sent) (drop (length (frames t.sent)) tx), length-drop (length (frames t.sent)) tx, leb-true (length (frames t.sent)) (length tx) e))
          (λ _. refl)
      by_outcome_lem (Err why) = refl

  pub poll-long : AsLong (poll_link l tx rx)
  unfolding poll_link packet_poll
  poll-long =
      let r = l.frame_reader in
      let pkt = packet_of (held_by l rx) in
      cond_all AsLong (is_short (held_by l rx)) refl
      (cond_all AsLong (is_complete r.state)
      (cond_all AsLong (ltb r.len 3) refl (cond_all AsLong (is_ip pkt) refl (answered-long (fetched r) (turn_of l.ppp pkt))))
      (answered-long r (poll_of l.ppp)))

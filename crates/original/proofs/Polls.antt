-- poll of pppos/mod.rs is our poll: what is fetched, the packet received, and the rest.
-- Assumes nothing.
use mathlib.Core.Path.{◌≡◌, refl, ap, sym, ◌∙◌}
use mathlib.Core.Bool.{Bool, true, false, cond}
use mathlib.Core.List.{List, [], ◌∷◌, ◌++◌}
use Prim.Native.Nat.{ℕ, suc, ◌+◌, ◌-◌, ◌≤◌, ◌<◌}
use native.Mathlib.Nat.{zero-add}
use native.Mathlib.Omega.{arith}
use borrow.Author.Tests.{le-leb, lt-leb, lt-ltb}
use lib.Dec.{eqb}
use lib.ListN.{length, take, drop, set, length-append, take-append-drop}
use lib.Seq.{sets, set-append_left}
use Rattle.std.specs.Prelude.{Ok, Err}
use Rattle.laws.specs.Each.{Bytes}
use Rattle.laws.proofs.Cases.{by_le, by_test}
use Rattle.framing.specs.Reader.{fetched}
use Rattle.framing.specs.declared.frame_reader.Reading.TheVariants.{Crate}
use Rattle.framing.specs.declared.frame_reader.FrameReader.{FrameReader}
use Rattle.options.specs.Wire.{max_packet, protocol_in}
use Rattle.phases.specs.Phases.{Turn, phase_of, turn_of, received_of}
use Rattle.options.specs.declared.refusal.Refusal.{Refusal}
use Rattle.options.specs.declared.refusal.Refusal.TheVariants.{ReplyLong}
use Rattle.phases.proofs.Phasing.{turn_refused_lem, turn_done, received_sends}
use Rattle.phases.proofs.Sounds.{ready_received}
use Rattle.link.specs.Frames.{frames}
use Rattle.link.specs.Link as ours
use Rattle.link.proofs.Reached.{reached_sound}
use Rattle.link.specs.declared.refusal.Refusal.TheVariants.{Negotiation}
use Rattle.link.specs.declared.pppos.PPPoS.{PPPoS}
use Rattle.link.proofs.Sending.{frames-append}
use Rattle.original.specs.Run.{Place, Run, returns, panics, reply_long, reply_full}
use Rattle.original.specs.Framing.{FrameWriter, new_writer}
use Rattle.original.specs.Wire.{Packet, packet_len, protocol_from}
use Rattle.original.specs.Ppp as ppp
use Rattle.original.specs.Pppos as theirs
use Rattle.original.specs.View.{view_ppp, view_link}
use Rattle.original.specs.Panics.{full, dropped, SamePoll, refuses}
use Rattle.original.proofs.Bytes.{each_take, each_drop}
use Rattle.original.proofs.Frames.{Carried, poll_writer, crc_after, transmit_all_lem}
use Rattle.original.proofs.Refused.{refused_at, refused_so}
use Rattle.original.proofs.Received as received
use Rattle.original.proofs.Poll.{poll_is, rest_same}

-- the receive buffer, once the packet is back
back_is : (rx : List ℕ) (to : ℕ) (o : Bool) → 1 ≤ to → to ≤ length rx → (o ≡ true → 2 < length (take (to - 1) (drop 1 rx)))
    → take 1 rx ++ (cond o (set (take (to - 1) (drop 1 rx)) 2 10) (take (to - 1) (drop 1 rx)) ++ drop to rx) ≡ ours.echoed_in o rx
back_is [] to o h k e = absurd (omega arith)
back_is (x ∷ rx) to o h k e =
    let n = to - 1 in
    let t : to ≡ suc n = omega arith in
    let d : drop to (x ∷ rx) ≡ drop n rx = ap (λ (m : ℕ). drop m (x ∷ rx)) t in
    rw d (go n o e)
  where
    go : (n : ℕ) (o : Bool) → (o ≡ true → 2 < length (take n rx)) → x ∷ (cond o (set (take n rx) 2 10) (take n rx) ++ drop n rx) ≡ ours.echoed_in o (x ∷ rx)
    go n true e = ap (λ (l : List ℕ). x ∷ l) (sym (set-append_left (take n rx) (drop n rx) 2 10 (e refl)) ∙ ap (λ (l : List ℕ). set l 2 10) (take-append-drop n rx))
    go n false e = ap (λ (l : List ℕ). x ∷ l) (take-append-drop n rx)

-- an IPv4 packet apart, every protocol goes the same way
pub other_protocols : (l : theirs.PPPoS) (w : FrameWriter) (from to : ℕ) (rx pkt : List ℕ) (n : ℕ) → eqb n 0x0021 ≡ false
    → theirs.poll_by (protocol_from n) l w from to rx pkt ≡ theirs.poll_received l w from to rx pkt
other_protocols l w from to rx pkt n other =
    by_test (eqb n 0xC021) (λ t. rw t refl)
    (λ t. rw t (by_test (eqb n 0xC023) (λ u. rw u refl) (λ u. rw (u, other) (by_test (eqb n 0x8021) (λ v. rw v refl) (λ v. rw v refl)))))

-- what our packet's poll comes to where the packet is refused
pub refused_is : (l : PPPoS) (r : FrameReader) (tx rx pkt : List ℕ) {why : Refusal} → (received_of l.ppp pkt).outcome ≡ Err why
    → ours.answered_poll l r (turn_of l.ppp pkt) tx rx ≡ ours.declined (Negotiation why) (ours.link_of r l.ppp) tx rx
unfolding ours.answered_poll
refused_is l r tx rx pkt e = rw (turn_refused_lem l.ppp pkt e) refl

module _ (l : PPPoS) (tx rx : List ℕ) (held : received.Held l.ppp) (bytes : Bytes rx) (crate : l.frame_reader.reading ≡ Crate) where
  abbrev pub next : FrameReader
  next = fetched l.frame_reader

  abbrev pub mid : theirs.PPPoS
  mid = view_link (ours.link_of next l.ppp)

  -- a packet of the receive buffer, up to index to, that is no IPv4 packet
  module _ (to : ℕ) (least : 1 ≤ to) (most : to ≤ length rx) (two : 2 ≤ length (take (to - 1) (drop 1 rx))) (other : eqb (protocol_in (take (to - 1) (drop 1 rx))) 0x0021 ≡ false)
      (come : theirs.handle_input (view_link l) tx rx ≡ theirs.poll_received mid (new_writer tx) 1 to rx (take (to - 1) (drop 1 rx))) where
    abbrev pkt : List ℕ
    pkt = take (to - 1) (drop 1 rx)

    abbrev t : Turn
    t = received_of l.ppp pkt

    abbrev Goal : Type 0
    Goal = SamePoll l tx rx (theirs.poll (view_link l) tx rx) (ours.answered_poll l next (turn_of l.ppp pkt) tx rx)

    abbrev f : List ℕ
    f = frames t.sent

    -- the packet's replies are written, or do not fit
    module _ {r : ppp.Received} (run : ppp.received (view_ppp l.ppp) pkt ≡ returns r) where
      wrote : (v : FrameWriter) → theirs.transmit_all (new_writer tx) r.tx ≡ returns v
          → theirs.handle_input (view_link l) tx rx ≡ returns (theirs.goes_on (theirs.with_ppp mid r.ppp) v (take 1 rx ++ (r.pkt ++ drop to rx)))
      wrote v e = come ∙ rw (run, e) refl

      stopped : (place : Place) → theirs.transmit_all (new_writer tx) r.tx ≡ panics place → theirs.poll (view_link l) tx rx ≡ panics place
      stopped place e = poll_is (view_link l) tx rx {x = panics place} (come ∙ rw (run, e) refl)

      -- the replies, then the rest
      replies : r.ppp ≡ view_ppp t.ppp → received.Held t.ppp → t.outcome ≡ Ok tt
          → r.pkt ≡ cond t.echoed (set pkt 2 10) pkt → (t.echoed ≡ true → 2 < length pkt) → Carried r.tx t.sent → Goal
      unfolding ours.answered_poll
      replies a h o d k c =
          let wrote-all = rw zero-add at (transmit_all_lem tx 0 0 c (received_sends l.ppp pkt).short (omega arith)) in
          by_le (length f) (length tx)
          (λ fits.
          let v = poll_writer (sets tx 0 f) (length f) (crc_after 0 t.sent) in
          let all : theirs.transmit_all (new_writer tx) r.tx ≡ returns v = wrote-all ∙ rw (le-leb (length f) (length tx) fits) refl in
          let back = ap (λ (x : List ℕ). take 1 rx ++ (x ++ drop to rx)) d ∙ back_is rx to t.echoed least most k in
          let here =
          wrote v all
          ∙ ap (λ (x : ppp.Ppp). returns (theirs.goes_on (theirs.with_ppp mid x) v (take 1 rx ++ (r.pkt ++ drop to rx)))) a
          ∙ ap (λ (x : List ℕ). returns (theirs.goes_on (theirs.with_ppp mid (view_ppp t.ppp)) v x)) back in
          rw (poll_is (view_link l) tx rx here, turn_done l.ppp pkt o) (rest_same l tx rx next t.ppp h (λ _ z. ready_received pkt (reached_sound z)) t.sent t.echoed (crc_after 0 t.sent) fits crate here))
          (λ over.
          let g = frames (phase_of t.ppp).sent in
          let none : theirs.transmit_all (new_writer tx) r.tx ≡ panics reply_full = wrote-all ∙ rw (lt-leb (length f) (length tx) over) refl in
          rw (stopped reply_full none, turn_done l.ppp pkt o, frames-append t.sent (phase_of t.ppp).sent, length-append f g, lt-leb (length f + length g) (length tx) (omega arith)) (refuses (full refl refl)))

      -- a packet above 128 bytes
      too_long : (q : Packet) → r.tx ≡ q ∷ [] → max_packet < packet_len q → t.outcome ≡ Err ReplyLong → Goal
      unfolding theirs.transmit_all theirs.transmit
      too_long q e h o =
          let long : theirs.transmit_all (new_writer tx) r.tx ≡ panics reply_long = rw (e, lt-ltb max_packet (packet_len q) h) refl in
          rw (stopped reply_long long, refused_is l next tx rx pkt o) (refuses (dropped ReplyLong (refused_at ReplyLong refl) refl))

    pub received-same : Goal
    received-same = go (ppp.received (view_ppp l.ppp) pkt) refl (received.received-same l.ppp held pkt two (each_take (λ b. b < 256) (to - 1) (drop 1 rx) (each_drop (λ b. b < 256) 1 rx bytes)) other)
      where
        go : (x : Run ppp.Received) → ppp.received (view_ppp l.ppp) pkt ≡ x → received.SameReceived pkt x t → Goal
        go x run (received.same a h o d k c) = replies run a h o d k c
        go x run (received.long q e h o) = too_long run q e h o
        go x run (received.stops {p = place} f) =
            let stop : theirs.poll (view_link l) tx rx ≡ panics place = poll_is (view_link l) tx rx {x = panics place} (come ∙ rw run refl) in
            rw (stop, refused_is l next tx rx pkt f.outcome) (refuses (dropped f.why (refused_so f) refl))

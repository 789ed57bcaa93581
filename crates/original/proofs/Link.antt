-- Each call of the link in pppos/mod.rs is ours.
-- Assumes nothing.
use mathlib.Core.Path.{◌≡◌, refl, ◌∙◌}
use mathlib.Core.Bool.{true, false}
use mathlib.Core.List.{List, []}
use Prim.Native.Nat.{ℕ, ◌-◌, ◌≤◌}
use native.Mathlib.Omega.{arith}
use borrow.Author.Tests.{le-leb, lt-leb, lt-ltb, le-ltb, eqb-true}
use lib.Dec.{eqb}
use lib.ListN.{length, take, drop}
use Rattle.std.specs.Prelude.{Err}
use Rattle.laws.proofs.Cases.{by_le, by_test}
use Rattle.framing.specs.Reader.{is_complete, fetched, Framed}
use Rattle.options.specs.Wire.{protocol_in}
use Rattle.phases.specs.Phases.{received_of}
use Rattle.phases.proofs.Sounds.{ready}
use Rattle.options.specs.declared.refusal.Refusal.TheVariants.{PacketShort}
use Rattle.link.specs.Frames.{frames}
use Rattle.link.specs.Link as ours
use Rattle.link.specs.declared.pppos.PPPoS.{PPPoS}
use Rattle.link.proofs.Reached.{reached_sound}
use Rattle.original.specs.Run.{returns, panics, poll_slice}
use Rattle.original.specs.Framing.{new_writer}
use Rattle.original.specs.Pppos as theirs
use Rattle.original.specs.View.{view_link}
use Rattle.original.specs.Domain.{Lasting, InDomain}
use Rattle.original.specs.Panics.{dropped, SamePoll, same, refuses}
use Rattle.original.proofs.Reader.{receive_is}
use Rattle.original.proofs.Received as received
use Rattle.original.proofs.Poll.{poll_is, rest_same}
use Rattle.original.proofs.Refused.{refused_at}
use Rattle.original.proofs.Polls.{mid, other_protocols, refused_is, received-same}

pub lasting_held : {l : PPPoS} → Lasting l → received.Held l.ppp
lasting_held p = record { lcp_id = p.lcp_id; ipv4cp_id = p.ipv4cp_id; auth = record { id = p.pap_id; bytes = p.credentials } }

module _ (l : PPPoS) (tx rx : List ℕ) (d : InDomain l rx) (framed : Framed l.frame_reader) where
  abbrev to : ℕ
  to = l.frame_reader.len - 2

  abbrev pkt : List ℕ
  pkt = take (to - 1) (drop 1 rx)

  abbrev m : theirs.PPPoS
  m = mid l tx rx (lasting_held d.lasting) d.lent.bytes d.lasting.crate_reading

  abbrev Goal : Type 0
  Goal = SamePoll l tx rx (theirs.poll (view_link l) tx rx) (ours.poll_link l tx rx)

  -- nothing is fetched
  between : is_complete l.frame_reader.state ≡ false → Goal
  unfolding theirs.handle_input ours.poll_link frames
  between e =
      let come : theirs.handle_input (view_link l) tx rx ≡ returns (theirs.goes_on (view_link l) (new_writer tx) rx) = rw (receive_is l.frame_reader framed, e) refl in
      rw (poll_is (view_link l) tx rx come, e, le-ltb (length rx) l.frame_reader.len d.lent.room)
      (rest_same l tx rx l.frame_reader l.ppp (lasting_held d.lasting) (λ _ h. ready (reached_sound h)) [] false 0 (omega arith) d.lasting.crate_reading come)

  -- a packet is fetched
  module _ (e : is_complete l.frame_reader.state ≡ true) where
    come : theirs.handle_input (view_link l) tx rx ≡ theirs.poll_packet m (new_writer tx) 1 to rx pkt
    unfolding theirs.handle_input
    come =
        let h = framed e in
        let k = d.lent.room in
        rw (receive_is l.frame_reader framed, e, le-ltb to 1 (omega arith), le-ltb (length rx) to (omega arith)) refl

    mine : ours.poll_link l tx rx ≡ ours.packet_poll l (fetched l.frame_reader) to tx rx pkt
    unfolding ours.poll_link
    mine = rw (le-ltb (length rx) l.frame_reader.len d.lent.room, e, le-ltb l.frame_reader.len 3 (framed e)) refl

    fetches : Goal
    unfolding ours.packet_poll received_of
    fetches =
        by_le 2 (length pkt)
        (λ h. by_test (eqb (protocol_in pkt) 0x0021)
        (λ t.
        let ip : theirs.poll (view_link l) tx rx ≡ returns (record { action = theirs.Received 3 to; link = m; tx = tx; rx = rx }) = poll_is (view_link l) tx rx {x = returns (theirs.handed_out (record { action = theirs.Received 3 to; link = m; tx = tx; rx = rx }))} (come ∙ rw (le-ltb (length pkt) 2 h, eqb-true (protocol_in pkt) 0x0021 t) refl) in
        rw (ip, mine, le-leb 2 (length pkt) h, t) (same (record { action = refl; link = refl; crate_reading = d.lasting.crate_reading; transmit = refl; receive = refl })))
        (λ t.
        let least : 1 ≤ to = omega (arith, framed e) in
        let most : to ≤ length rx = omega (arith, d.lent.room) in
        let other : theirs.handle_input (view_link l) tx rx ≡ theirs.poll_received m (new_writer tx) 1 to rx pkt = come ∙ rw (le-ltb (length pkt) 2 h) (other_protocols m (new_writer tx) 1 to rx pkt (protocol_in pkt) t) in
        rw (mine, le-leb 2 (length pkt) h, t)
        (received-same l tx rx (lasting_held d.lasting) d.lent.bytes d.lasting.crate_reading to least most h t other)))
        (λ h.
        let short : theirs.poll (view_link l) tx rx ≡ panics poll_slice = poll_is (view_link l) tx rx {x = panics poll_slice} (come ∙ rw (lt-ltb (length pkt) 2 h) refl) in
        let no : (received_of l.ppp pkt).outcome ≡ Err PacketShort = rw (lt-ltb (length pkt) 2 h) refl in
        rw (short, mine, lt-leb 2 (length pkt) h, refused_is l (fetched l.frame_reader) tx rx pkt no) (refuses (dropped PacketShort (refused_at PacketShort refl) refl)))

  pub same-poll : Goal
  same-poll = by_test (is_complete l.frame_reader.state) fetches between

-- The same link as before: every call of ours is the original's where that returns.
-- Assumes nothing.
use mathlib.Core.Path.{◌≡◌, refl, sym, ◌∙◌}
use mathlib.Core.Bool.{true, true≢false}
use mathlib.Core.List.{List}
use Prim.Native.Nat.{ℕ, ◌-◌, ◌≤◌, ◌<◌}
use native.Mathlib.Omega.{arith}
use borrow.Author.Tests.{lt-ltb, le-ltb}
use lib.Dec.{ltb}
use lib.ListN.{length}
use Rattle.std.specs.Prelude.{Result}
use Rattle.framing.specs.Reader.{is_complete, fetched, Framed}
use Rattle.framing.specs.declared.frame_reader.FrameReader.{FrameReader}
use Rattle.framing.specs.declared.refusal.Refusal.TheVariants.{FrameShort}
use Rattle.link.specs.Link.{link_of, declined, poll_link, Polls}
use Rattle.link.specs.declared.refusal.Refusal.{Refusal}
use Rattle.link.specs.declared.refusal.Refusal.TheVariants.{Framing}
use Rattle.link.specs.declared.pppos.PPPoS.{PPPoS}
use Rattle.link.specs.declared.pppos.PPPoSAction.{PPPoSAction}
use Rattle.laws.proofs.Cases.{apart, by_le, by_test, cond_all}
use Rattle.original.specs.Run.{Place, Run, returns, panics}
use Rattle.original.specs.Framing.{receive}
use Rattle.original.specs.Pppos as theirs
use Rattle.original.specs.View.{view_link}
use Rattle.original.specs.Domain.{InDomain}
use Rattle.original.specs.SameFraming.{SameFraming}
use Rattle.original.specs.Same.{SamePolled, SameLink}
use Rattle.original.specs.Panics.{number_at, SamePoll, same, refuses, opens, unframed_at}
use Rattle.original.proofs.Crc.{same-crc16}
use Rattle.original.proofs.Writer.{same_start, same-append, same-finish}
use Rattle.original.proofs.Reader.{complete_is, same-consume, same-receive}
use Rattle.original.proofs.Calls.{new_fits, same_open, same-status, same_consume_link}
use Rattle.original.proofs.Link.{same-poll}
use Rattle.original.proofs.Send.{same-send}

pub polls_same : (l : PPPoS) (tx rx : List ℕ) → InDomain l rx → Framed l.frame_reader → {a : Result PPPoSAction Refusal} {l' : PPPoS} {tx' rx' : List ℕ} → Polls (poll_link l tx rx) a l' tx' rx'
    → SamePoll l tx rx (theirs.poll (view_link l) tx rx) (record { action = a; link = l'; tx = tx'; rx = rx' })
polls_same l tx rx d framed c = rw (c.action, c.link, c.transmit, c.receive) (same-poll l tx rx d framed)

pub poll_unframed : (l : PPPoS) (tx rx : List ℕ) → l.frame_reader.len ≤ length rx → is_complete l.frame_reader.state ≡ true → l.frame_reader.len < 3
    → (poll_link l tx rx ≡ declined (Framing FrameShort) (link_of (fetched l.frame_reader) l.ppp) tx rx)
    × (theirs.poll (view_link l) tx rx ≡ panics (unframed_at l.frame_reader.len)) × (number_at (unframed_at l.frame_reader.len) ≡ 5)
unfolding poll_link theirs.poll theirs.handle_input receive
poll_unframed l tx rx room e h =
    let n = l.frame_reader.len in
    let whole = complete_is l.frame_reader.state ∙ e in (
      rw (le-ltb (length rx) n room, e, lt-ltb n 3 h) refl,
      by_le 2 n (λ k. rw (whole, le-ltb n 2 k, lt-ltb (n - 2) 1 (omega arith)) refl) (λ k. rw (whole, lt-ltb n 2 k) refl),
      cond_all (λ (p : Place). number_at p ≡ 5) (ltb n 2) refl refl,
    )

-- a complete frame has three bytes or more kept, or not
pub by_framed : {P : Type 0} (r : FrameReader) → (Framed r → P) → (is_complete r.state ≡ true → r.len < 3 → P) → P
by_framed r f g = by_le 3 r.len (λ h. f (λ _. h)) (λ h. by_test (is_complete r.state) (λ t. g t h) (λ t. f (λ u. absurd (true≢false (sym u ∙ t)))))

-- with under three bytes of a complete frame kept the original does not return
polls_domain : (l : PPPoS) (tx rx : List ℕ) → InDomain l rx → {a : Result PPPoSAction Refusal} {l' : PPPoS} {tx' rx' : List ℕ} → Polls (poll_link l tx rx) a l' tx' rx'
    → {o : theirs.Poll} → theirs.poll (view_link l) tx rx ≡ returns o → SamePolled o a l' tx' rx'
polls_domain l tx rx d {a} {l'} {tx'} {rx'} c {o} e =
    by_framed l.frame_reader (λ framed. go (theirs.poll (view_link l) tx rx) e (polls_same l tx rx d framed c))
    (λ t h. let z = (poll_unframed l tx rx d.lent.room t h).1 in apart cc)
  where
    go : (x : Run theirs.Poll) → x ≡ returns o → SamePoll l tx rx x (record { action = a; link = l'; tx = tx'; rx = rx' }) → SamePolled o a l' tx' rx'
    go x k (same {o = q} h) = let z : q ≡ o = cc in rw z at h
    go x k (refuses h) = apart cc
    go x k (opens unreached b m w f h i) = apart cc

pub same_framing : SameFraming
same_framing =
    record {
      check_value = same-crc16;
      new_writer = λ m buf. refl;
      start_frame = same_start;
      append_bytes = same-append;
      finish_frame = same-finish;
      new_reader = refl;
      consume_bytes = same-consume;
      receive_packet = same-receive;
    }

pub same_link : SameLink
same_link =
    record {
      new = λ name password k _ crate h c. new_fits name password k c crate h;
      «open» = same_open;
      status = same-status;
      consume = same_consume_link;
      poll = polls_domain;
      send = λ l pkt tx _ bytes c. same-send l pkt tx bytes c;
    }

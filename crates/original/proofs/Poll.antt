-- poll of pppos/mod.rs, from a link between two frames on: the phase step and the frames.
-- Assumes nothing.
use mathlib.Core.Path.{◌≡◌, refl, ap, sym, ◌∙◌}
use mathlib.Core.Bool.{Bool, cond}
use mathlib.Core.List.{List, ◌++◌}
use Prim.Native.Nat.{ℕ, ◌+◌, ◌≤◌}
use native.Mathlib.Nat.{zero-add}
use borrow.Author.Tests.{le-leb, lt-leb}
use lib.Dec.{eqb}
use lib.ListN.{length, drop, length-append}
use lib.Seq.{sets, length-sets}
use Rattle.std.specs.Prelude.{Ok}
use Rattle.laws.proofs.Cases.{by_le, by_test}
use Rattle.laws.proofs.Stores.{sets_append, sets_front}
use Rattle.framing.specs.declared.frame_reader.Reading.TheVariants.{Crate}
use Rattle.framing.specs.declared.frame_reader.FrameReader.{FrameReader}
use Rattle.phases.specs.Phases.{Turn, phase_of}
use Rattle.phases.specs.declared.ppp.Ppp.{Ppp}
use Rattle.phases.proofs.Phasing.{phase_sends}
use Rattle.phases.proofs.Sounds.{Ready}
use Rattle.link.specs.Frames.{frames}
use Rattle.link.specs.Link as ours
use Rattle.link.specs.Reached.{Reached}
use Rattle.link.specs.declared.choices.Choices.{Choices}
use Rattle.link.specs.declared.pppos.PPPoS.{PPPoS}
use Rattle.link.proofs.Sending.{frames-append}
use Rattle.original.specs.Run.{Place, Run, returns, panics, ◌>>=◌}
use Rattle.original.specs.Framing.{FrameWriter}
use Rattle.original.specs.Ppp as ppp
use Rattle.original.specs.Pppos as theirs
use Rattle.original.specs.View.{view_reader, view_ppp, view_link, as_action}
use Rattle.original.specs.Panics.{as_if_closed, full, SamePoll, same, refuses, opens}
use Rattle.original.proofs.Frames.{poll_writer, transmit_all_lem}
use Rattle.original.proofs.Received.{Held}
use Rattle.original.proofs.Opening as opening
use Rattle.original.proofs.Phases.{phase_same}

-- the count as an action
sent_is : (n : ℕ) → ours.sent n ≡ as_action (cond (eqb n 0) theirs.None (theirs.Transmit n))
sent_is n = by_test (eqb n 0) (λ t. rw t refl) (λ t. rw t refl)

-- a poll, by what the handling of input comes to
pub poll_is : (m : theirs.PPPoS) (tx rx : List ℕ) {x : Run theirs.Input} → theirs.handle_input m tx rx ≡ x → theirs.poll m tx rx ≡ (x >>= theirs.poll_input)
unfolding theirs.poll
poll_is m tx rx e = ap (λ (y : Run theirs.Input). y >>= theirs.poll_input) e

-- a panic of the phase step is the poll's
rest_stops : (m : theirs.PPPoS) (w : FrameWriter) (b : List ℕ) {place : Place} → ppp.poll_ppp m.ppp ≡ panics place → theirs.poll_rest m w b ≡ panics place
unfolding theirs.poll_rest
rest_stops m w b e = rw e refl

-- the frames of pre are written; q is the record before the phase step, and r the reader
module _ (l : PPPoS) (tx rx : List ℕ) (r : FrameReader) (q : Ppp) (held : Held q) (ready : (k : Choices) → Reached k l → Ready q) (pre : List (List ℕ)) (e : Bool) (c : ℕ) (fits : length (frames pre) ≤ length tx) (crate : r.reading ≡ Crate) where
  abbrev turn : Turn
  turn = record { outcome = Ok tt; echoed = e; ppp = (phase_of q).ppp; sent = pre ++ (phase_of q).sent }

  abbrev w : FrameWriter
  w = poll_writer (sets tx 0 (frames pre)) (length (frames pre)) c

  -- the phase step from P sends and leaves what ours does
  ran : (P : ppp.Ppp) (s : ppp.Polled) → ppp.poll_ppp P ≡ returns s → opening.Steps s (phase_of q)
      → SamePoll l tx rx (theirs.poll_rest (record { frame_reader = view_reader r; ppp = P }) w (ours.echoed_in e rx)) (ours.answered_poll l r turn tx rx)
  unfolding theirs.poll_rest ours.answered_poll
  ran P s run steps =
      let f = frames pre in
      let g = frames (phase_of q).sent in
      let size : length (sets tx 0 f) ≡ length tx = length-sets tx 0 f in
      let link : view_link (ours.link_of r (phase_of q).ppp) ≡ record { frame_reader = view_reader r; ppp = s.ppp } = ap (λ (x : ppp.Ppp). record { frame_reader = view_reader r; ppp = x }) (sym steps.ppp) in
      rw (run, transmit_all_lem (sets tx 0 f) (length f) c steps.carried (phase_sends q).short (rw size fits), size, frames-append pre (phase_of q).sent, length-append f g)
      (by_le (length f + length g) (length tx)
      (λ h. rw (le-leb (length f + length g) (length tx) h) (same (record { action = ap Ok (sent_is (length f + length g)); link = link; crate_reading = crate; transmit = written f g h; receive = refl })))
      (λ h. rw (lt-leb (length f + length g) (length tx) h) (refuses (full refl refl))))
    where
      written : (f g : List ℕ) → length f + length g ≤ length tx → (f ++ g) ++ drop (length f + length g) tx ≡ sets (sets tx 0 f) (length f) g
      written f g h =
          let n : length (f ++ g) ≡ length f + length g = length-append f g in
          sym (rw zero-add at (sets_append f g tx 0) ∙ rw n at (sets_front (f ++ g) tx (rw n h)))

  -- the rest of a poll, where the original has come to it
  pub rest_same : theirs.handle_input (view_link l) tx rx ≡ returns (theirs.goes_on (view_link (ours.link_of r q)) w (ours.echoed_in e rx))
      → SamePoll l tx rx (theirs.poll_rest (view_link (ours.link_of r q)) w (ours.echoed_in e rx)) (ours.answered_poll l r turn tx rx)
  rest_same come = go (ppp.poll_ppp (view_ppp q)) refl (phase_same q held)
    where
      go : (x : Run ppp.Polled) → ppp.poll_ppp (view_ppp q) ≡ x → opening.SamePhase q x
          → SamePoll l tx rx (theirs.poll_rest (view_link (ours.link_of r q)) w (ours.echoed_in e rx)) (ours.answered_poll l r turn tx rx)
      go x k (opening.same {s} steps) = ran (view_ppp q) s k steps
      go x k (opening.asserts {place} unready a {s} run steps) = rw (rest_stops (view_link (ours.link_of r q)) w (ours.echoed_in e rx) k) (opens (λ k h. unready (ready k h)) a (view_link (ours.link_of r q)) w (ours.echoed_in e rx) come (ran (as_if_closed a (view_ppp q)) s run steps))

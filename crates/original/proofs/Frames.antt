-- The closure tx of pppos/mod.rs: packets as frames behind one another, or a panic where one does not fit.
-- Assumes nothing.
use mathlib.Core.Path.{◌≡◌, refl, ap, sym, ◌∙◌}
use mathlib.Core.Bool.{false, cond}
use mathlib.Core.List.{List, [], ◌∷◌, ◌++◌}
use Prim.Native.Nat.{ℕ, ◌+◌, ◌-◌, ◌≤◌}
use native.Mathlib.Nat.{add_assoc}
use native.Mathlib.Omega.{arith}
use borrow.Author.Tests.{le-leb, lt-leb, le-ltb}
use lib.Dec.{leb}
use lib.ListN.{length, length-append}
use lib.Seq.{sets, length-sets}
use Rattle.laws.specs.Each.{Bytes, Each}
use Rattle.laws.proofs.Cases.{by_le, by_test}
use Rattle.laws.proofs.Stores.{sets_append}
use Rattle.framing.specs.Rfc1662.{fcs, frame}
use Rattle.framing.specs.Writer.{Out, write, Ran, units, start_units, finish_units, frame_units, fit}
use Rattle.framing.proofs.Run.{run_next, run_stop, write_closed, fit_all}
use Rattle.framing.proofs.Frame.{join-frame}
use Rattle.options.specs.Wire.{max_packet}
use Rattle.link.specs.Frames.{every_byte, frames}
use Rattle.options.proofs.Fair.{Short}
use Rattle.original.specs.Run.{Run, returns, panics, reply_full, ◌>>=◌}
use Rattle.original.specs.Framing.{FrameWriter, start, finish, append}
use Rattle.original.specs.Wire.{Packet, packet_len, emit}
use Rattle.original.specs.Pppos.{unwrapped, transmit, transmit_all}
use Rattle.original.proofs.Writer.{start_is, finish_is, append_is}

-- a packet of the original is these bytes
pub record Carries (q : Packet) (l : List ℕ) : Type 0 where
  pub is : emit q ≡ l
  pub len : packet_len q ≡ length l
  pub bytes : Bytes l

pub data Carried : List Packet → List (List ℕ) → Type 0 where
  none : Carried [] []
  more : {q : Packet} {l : List ℕ} {qs : List Packet} {ls : List (List ℕ)} → Carries q l → Carried qs ls → Carried (q ∷ qs) (l ∷ ls)

pub carried_append : {qs rs : List Packet} {ls ms : List (List ℕ)} → Carried qs ls → Carried rs ms → Carried (qs ++ rs) (ls ++ ms)
carried_append none k = k
carried_append (more c h) k = more c (carried_append h k)

-- ---- one frame

abbrev writer_at : FrameWriter → ℕ → Out → FrameWriter
writer_at w c o = record { buf = o.bytes; len = o.at; crc = c; asyncmap = w.asyncmap }

-- a run, unwrapped; the check value is c where it was done
abbrev ran_or : FrameWriter → ℕ → Out → Run FrameWriter
ran_or w c o = cond o.done (returns (writer_at w c o)) (panics reply_full)

run_bind : (w : FrameWriter) (c d : ℕ) (us vs : List (List ℕ)) (buf : List ℕ) (at : ℕ) (next : FrameWriter → Run FrameWriter)
    → ((o : Out) → next (writer_at w c o) ≡ ran_or w d (write vs o.bytes o.at))
    → (ran_or w c (write us buf at) >>= next) ≡ ran_or w d (write (us ++ vs) buf at)
run_bind w c d us vs buf at next h = go (write us buf at) refl
  where
    go : (o : Out) → write us buf at ≡ o → (ran_or w c o >>= next) ≡ ran_or w d (write (us ++ vs) buf at)
    go o e =
        let ran : Ran us buf at o.bytes o.at o.done = record { same_bytes = cc; same_at = cc; same_done = cc } in
        by_test o.done
        (λ t. rw t (h o ∙ sym (ap (ran_or w d) (run_next ran t vs))))
        (λ t. let stop : (write (us ++ vs) buf at).done ≡ false = sym (run_stop ran t vs).same_done ∙ t in rw (t, stop) refl)

module _ (w : FrameWriter) (p : List ℕ) (bytes : Bytes p) where
  abbrev chain : Run FrameWriter
  chain = unwrapped (start w) >>= λ v. unwrapped (append v p) >>= λ v. unwrapped (finish v)

  chain_is : chain ≡ ran_or w (fcs 0x3DE3 p) (write (frame_units w.asyncmap p) w.buf w.len)
  chain_is =
      let m = w.asyncmap in
      let c = fcs 0x3DE3 p in
      rw (start_is w)
      (run_bind w 0x3DE3 c (start_units m) (units m p ++ finish_units m c) w.buf w.len _
      (λ o. rw (append_is (writer_at w 0x3DE3 o) p bytes, kept (write (units m p) o.bytes o.at))
      (run_bind w c c (units m p) (finish_units m c) o.bytes o.at (λ v. unwrapped (finish v)) (λ x. rw (finish_is (writer_at w c x)) refl))))
    where
      -- where all fitted, the check value is the new one
      kept : (x : Out)
          → unwrapped (record { is_ok = x.done; writer = record { buf = x.bytes; len = x.at; crc = cond x.done (fcs 0x3DE3 p) 0x3DE3; asyncmap = w.asyncmap } })
          ≡ ran_or w (fcs 0x3DE3 p) x
      kept x = by_test x.done (λ t. rw t refl) (λ t. rw t refl)

-- ---- the closure

-- the writer behind frames f, the last of which has the check value c
abbrev behind : FrameWriter → List ℕ → ℕ → FrameWriter
behind w f c = record { buf = sets w.buf w.len f; len = w.len + length f; crc = c; asyncmap = w.asyncmap }

abbrev if_room : FrameWriter → List ℕ → ℕ → Run FrameWriter
if_room w f c = cond (leb (w.len + length f) (length w.buf)) (returns (behind w f c)) (panics reply_full)

frame_is : (w : FrameWriter) (p : List ℕ) (c : ℕ) → w.len ≤ length w.buf
    → ran_or w c (write (frame_units w.asyncmap p) w.buf w.len) ≡ if_room w (frame w.asyncmap p) c
frame_is w p c h =
    let m = w.asyncmap in
    let us = frame_units m p in
    let closed = rw join-frame at (write_closed us w.buf w.len h) in
    by_le (w.len + length (frame m p)) (length w.buf)
    (λ k.
    let f : fit (length w.buf - w.len) us ≡ frame m p = fit_all us (length w.buf - w.len) (rw join-frame (omega arith)) ∙ join-frame m p in
    let t = le-leb (w.len + length (frame m p)) (length w.buf) k in
    rw (← closed.same_done, ← closed.same_bytes, ← closed.same_at, f, t) refl)
    (λ k. let t = lt-leb (w.len + length (frame m p)) (length w.buf) k in rw (← closed.same_done, t) refl)

-- one packet
pub transmit_is : (w : FrameWriter) {q : Packet} {l : List ℕ} → Carries q l → length l ≤ max_packet → w.len ≤ length w.buf
    → transmit w q ≡ if_room w (frame w.asyncmap l) (fcs 0x3DE3 l)
unfolding transmit
transmit_is w {q} {l} c short h = rw (c.len, le-ltb max_packet (length l) short, c.is) (chain_is w l c.bytes ∙ frame_is w l (fcs 0x3DE3 l) h)

-- the check value behind packets
abbrev pub crc_after : ℕ → List (List ℕ) → ℕ
crc_after c [] = c
crc_after c (l ∷ ls) = crc_after (fcs 0x3DE3 l) ls

-- a poll's writer
abbrev pub poll_writer : List ℕ → ℕ → ℕ → FrameWriter
poll_writer buf at c = record { buf = buf; len = at; crc = c; asyncmap = every_byte }

-- packets behind one another
pub transmit_all_lem : (buf : List ℕ) (at c : ℕ) {qs : List Packet} {ls : List (List ℕ)} → Carried qs ls → Each Short ls → at ≤ length buf
    → transmit_all (poll_writer buf at c) qs ≡ if_room (poll_writer buf at c) (frames ls) (crc_after c ls)
unfolding transmit_all frames
transmit_all_lem buf at c none s h = let z : at + 0 ≡ at = omega arith in rw (z, le-leb at (length buf) h) refl
transmit_all_lem buf at c (more {q} {l} {qs} {ls} p k) s h =
    let f = frame every_byte l in
    let rest = frames ls in
    rw (transmit_is (poll_writer buf at c) p s.0 h)
    (by_le (at + length f) (length buf)
    (λ r.
    let size : length (sets buf at f) ≡ length buf = length-sets buf at f in
    rw (le-leb (at + length f) (length buf) r)
    (transmit_all_lem (sets buf at f) (at + length f) (fcs 0x3DE3 l) k s.1 (rw size r)
    ∙ rw (size, sets_append f rest buf at, length-append f rest, add_assoc at (length f) (length rest)) refl))
    (λ r. rw (lt-leb (at + length f) (length buf) r, length-append f rest, lt-leb (at + (length f + length rest)) (length buf) (omega arith)) refl))

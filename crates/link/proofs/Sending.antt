-- Frames one behind the other: what `encode` leaves in the rest of a buffer, and how long a call's frames are.
-- Assumes nothing.
use mathlib.Core.Path.{◌≡◌, refl, ap, ◌∙◌}
use mathlib.Core.Bool.{true, ◌&&◌}
use mathlib.Core.List.{List, [], ◌∷◌, ◌++◌, append_assoc, append-nil}
use Prim.Native.Nat.{ℕ, ◌+◌, ◌*◌, ◌-◌, ◌^◌, ◌≤◌, ◌<◌}
use native.Mathlib.Omega.{arith}
use borrow.Author.Tests.{lt-ltb, le-leb, eq-eqb, ne_eqb, eqb-true, eqb-false}
use lib.Dec.{eqb}
use borrow.Rule.Slice.PartMut.{put_mid, mid_of}
use lib.ListN.{length, take, drop, get_or, length-append, length-drop}
use lib.Seq.{sets, sets-eq, take_all, drop-drop, drop-length}
use Rattle.std.specs.Prelude.{Result, Ok, Err}
use Rattle.std.specs.List.{starts_with}
use Rattle.std.specs.Result.{result_unwrap_or}
use Rattle.laws.specs.Each.{Each}
use Rattle.laws.proofs.Be.{be_pair}
use Rattle.laws.proofs.Cases.{by_test}
use Rattle.framing.specs.Rfc1662.{frame}
use Rattle.framing.specs.Refusal.{count_of}
use Rattle.framing.specs.Writer.{holds, Encodes, capped}
use Rattle.framing.specs.declared.refusal.Refusal.{Refusal}
use Rattle.framing.proofs.Unstuffing.{frame_narrow}
use Rattle.options.specs.Wire.{max_packet, content_of}
use Rattle.negotiation.specs.Replies.{max_replies, contents}
use Rattle.options.specs.declared.wire.Packet.{Packet}
use Rattle.negotiation.specs.declared.replies.Replies.{Replies}
use Rattle.phases.specs.Phases.{poll_of, turn_of}
use Rattle.phases.specs.declared.ppp.Ppp.{Ppp}
use Rattle.options.proofs.Fair as packet
use Rattle.negotiation.proofs.Joining.{contents-next, contents_end}
use Rattle.phases.proofs.Phasing.{poll_sends, turn_sends}
use Rattle.link.specs.Link.{is_ip}
use Rattle.link.specs.Frames.{every_byte, frames, max_frame, always_enough}

-- ---- a frame in the rest of a buffer

-- the part that `&mut tx[at..]` lends, and the whole once it is back
rest_is : (xs : List ℕ) (at : ℕ) → mid_of at (length xs - at) xs ≡ drop at xs
rest_is xs at = take_all (length xs - at) (drop at xs) (rw length-drop (omega arith))

back_is : (xs ys : List ℕ) (at : ℕ) → at ≤ length xs → put_mid at (length xs - at) xs ys ≡ take at xs ++ ys
back_is xs ys at h =
    let e : at + (length xs - at) ≡ length xs = omega arith in
    simp (drop-drop, e, drop-length, append-nil)

-- `unwrap_or(0)` of an answer is its count
pub unwrap_count : {E : Type 0} (r : Result ℕ E) → result_unwrap_or r 0 ≡ count_of r
unwrap_count (Ok n) = refl
unwrap_count (Err why) = refl

-- where the rest has the room, the whole frame stands there and nothing else has changed
pub rest_framed : {m : ℕ} {p q : List ℕ} {r : Result ℕ Refusal} (buf : List ℕ) (at : ℕ) → at + length (frame m p) ≤ length buf
    → Encodes m p (mid_of at (length buf - at) buf) r q
    → (at + count_of r ≡ at + length (frame m p)) × (put_mid at (length buf - at) buf q ≡ sets buf at (frame m p))
rest_framed {m} {p} {q} buf at h e =
    let k = rw (rest_is buf at) at e in
    let t : holds m p (length (drop at buf)) ≡ true = le-leb (length (frame m p)) (length (drop at buf)) (rw length-drop (omega arith)) in (
      ap (λ (x : ℕ). at + x) (k.lays.count ∙ rw t refl),
      back_is buf q at (omega arith) ∙ rw (k.lays.bytes, t, drop-drop, ← append_assoc, sets-eq (frame m p) buf at h) refl,
    )

-- ---- the protocol number of IPv4

-- the high byte first
pair_ip : (x y : ℕ) → eqb 0 x && (eqb 0x21 y && true) ≡ eqb (x * 256 + y) 0x21
pair_ip x y =
    by_test (eqb 0 x)
    (λ a. by_test (eqb 0x21 y)
    (λ b. rw (a, b, eq-eqb (x * 256 + y) 0x21 (omega (arith, eqb-true 0 x a, eqb-true 0x21 y b))) refl)
    (λ b. rw (a, b, ne_eqb (x * 256 + y) 0x21 (λ e. eqb-false 0x21 y b (omega (arith, eqb-true 0 x a, e)))) refl))
    (λ a. rw (a, ne_eqb (x * 256 + y) 0x21 (λ e. eqb-false 0 x a (omega (arith, e)))) refl)

pub starts_ip : (l : List ℕ) → starts_with eqb l (0x00 ∷ 0x21 ∷ []) ≡ is_ip l
starts_ip [] = refl
starts_ip (x ∷ []) = by_test (eqb 0 x) (λ a. rw a refl) (λ a. rw a refl)
starts_ip (x ∷ y ∷ l) = rw (le-leb 2 (length (x ∷ y ∷ l)) (omega arith), be_pair (x ∷ y ∷ l) (omega arith)) (pair_ip x y)

-- ---- lengths

pub frame_short : (p : List ℕ) → length p ≤ max_packet → length (frame every_byte p) ≤ max_frame
frame_short p h = omega (arith, frame_narrow every_byte p)

-- a machine word has room for such a length
pub capped_short : (p : List ℕ) → length p ≤ max_packet → capped (length (frame every_byte p)) ≡ length (frame every_byte p)
capped_short p h = rw (lt-ltb (length (frame every_byte p)) (2 ^ 64) (omega (arith, frame_short p h))) refl

pub frames-append : (ps qs : List (List ℕ)) → frames (ps ++ qs) ≡ frames ps ++ frames qs
unfolding frames
frames-append [] qs = refl
frames-append (p ∷ ps) qs = rw (append_assoc, frames-append ps qs) refl

frames_narrow : (ps : List (List ℕ)) → Each packet.Short ps → length (frames ps) ≤ max_frame * length ps
unfolding frames
frames_narrow [] h = omega arith
frames_narrow (p ∷ ps) h = omega (arith, length-append (frame every_byte p) (frames ps), frame_short p h.0, frames_narrow ps h.1)

pub frames_enough : (ps : List (List ℕ)) → length ps ≤ max_replies → Each packet.Short ps → length (frames ps) ≤ always_enough
frames_enough ps few short = omega (arith, frames_narrow ps short)

-- so much room suffices for any call
pub turn_narrow : (p : Ppp) (pkt : List ℕ) → length (frames (turn_of p pkt).sent) ≤ always_enough
turn_narrow p pkt = let s = turn_sends p pkt in frames_enough (turn_of p pkt).sent s.few s.short

pub poll_narrow : (p : Ppp) → length (frames (poll_of p).sent) ≤ always_enough
poll_narrow p = let s = poll_sends p in frames_enough (poll_of p).sent (omega (arith, s.few)) s.short

-- ---- the frames of a record of replies, packet by packet

-- those of its packets from index i on
abbrev pub frames_from : Replies → ℕ → List ℕ
frames_from rs i = frames (drop i (contents rs))

module _ (rs : Replies) (i : ℕ) where
  module _ (d : Packet) (h : i < length (take rs.count rs.packets)) where
    abbrev next : List ℕ
    next = frame every_byte (content_of (get_or (take rs.count rs.packets) i d))

    pub frames-next : frames_from rs i ≡ next ++ frames_from rs (i + 1)
    unfolding frames
    frames-next = ap frames (contents-next rs i d h)

    pub length-next : length (frames_from rs i) ≡ length next + length (frames_from rs (i + 1))
    length-next = ap length frames-next ∙ length-append next (frames_from rs (i + 1))

  pub frames_end : length (take rs.count rs.packets) ≤ i → frames_from rs i ≡ []
  unfolding frames
  frames_end h = ap frames (contents_end rs i h)

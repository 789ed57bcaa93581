-- One byte at an end and, where it completes a frame, the poll behind it; what a poll writes where nothing is refused.
-- Assumes nothing.
use mathlib.Core.Path.{◌≡◌, refl, sym, ap, ◌∙◌, subst}
use mathlib.Core.Bool.{Bool, true, false, cond}
use mathlib.Core.List.{List, []}
use Prim.Native.Nat.{ℕ, ◌≤◌}
use borrow.Author.Tests.{le-ltb}
use lib.ListN.{length}
use lib.Seq.{take-append_seam}
use Rattle.std.specs.Prelude.{Result, Ok}
use Rattle.laws.proofs.Cases.{by_test}
use Rattle.framing.specs.Reader.{Held, held, step, full, fetched, packet_of}
use Rattle.framing.specs.Heard.{fetched_in}
use Rattle.framing.specs.declared.frame_reader.FrameReader.{FrameReader}
use Rattle.phases.specs.Phases.{Turn, poll_of, turn_of}
use Rattle.phases.specs.Sound.{Calm}
use Rattle.phases.specs.declared.ppp.Ppp.{Ppp}
use Rattle.link.specs.Refusal.{outcome_number}
use Rattle.link.specs.Frames.{frames, always_enough}
use Rattle.link.specs.Link.{link_of, held_by, is_ip, packet_poll, poll_link}
use Rattle.link.specs.declared.refusal.Refusal.{Refusal}
use Rattle.link.specs.declared.pppos.PPPoS.{PPPoS}
use Rattle.link.proofs.Hearing as hearing
use Rattle.link.proofs.Hearing.{sent_count, ip_turn}
use Rattle.meeting.specs.Calls.{End, end_of, Answer, behind}

-- ---- one byte

-- an end's reader beside its buffer, and back
abbrev pub hold : End → Held
hold e = held_by e.link e.rx

abbrev pub joined : Ppp → Held → End
joined p h = end_of (link_of h.reader p) h.buf

abbrev pub feed : End → ℕ → End
feed e b = joined e.link.ppp (step (hold e) b)

-- negotiation's turn on the packet that the reader holds
abbrev pub turn : End → Turn
turn e = turn_of e.link.ppp (packet_of (hold e))

abbrev pub turned_end : End → End
turned_end e = joined (turn e).ppp (fetched_in (hold e))

unfoldable pub stepped : End → ℕ → End
stepped e b = cond (full (step (hold e) b)) (turned_end (feed e b)) (feed e b)

unfoldable pub says : End → ℕ → List ℕ
says e b = cond (full (step (hold e) b)) (frames (turn (feed e b)).sent) []

-- ---- an end that goes well

-- no frame is complete, and a poll does nothing
pub record Rest (e : End) : Type 0 where
  pub empty : full (hold e) ≡ false
  pub within : e.link.frame_reader.len ≤ length e.rx
  pub calm : Calm e.link.ppp

-- a frame is complete, and negotiation takes its packet
pub record Takes (e : End) : Type 0 where
  pub within : e.link.frame_reader.len ≤ length e.rx
  pub long : 3 ≤ e.link.frame_reader.len
  pub calm : Calm e.link.ppp
  pub done : (turn e).outcome ≡ (Ok tt)
  pub plain : (turn e).echoed ≡ false

-- the byte b may be read
pub record Byte (e : End) (b : ℕ) : Type 0 where
  pub rest : Rest e
  pub ends : full (step (hold e) b) ≡ true → Takes (feed e b)

module _ (e : End) (b : ℕ) where
  pub stepped_quiet : full (step (hold e) b) ≡ false → stepped e b ≡ feed e b
  unfolding stepped
  stepped_quiet f = rw f

  pub says_quiet : full (step (hold e) b) ≡ false → says e b ≡ []
  unfolding says
  says_quiet f = rw f

  pub stepped-full : full (step (hold e) b) ≡ true → stepped e b ≡ turned_end (feed e b)
  unfolding stepped
  stepped-full f = rw f

  pub says_full : full (step (hold e) b) ≡ true → says e b ≡ frames (turn (feed e b)).sent
  unfolding says
  says_full f = rw f

-- ---- a poll

-- the end e after a call with outcome o that consumed n bytes, and a poll that wrote w
abbrev pub fine : End → Result Unit Refusal → ℕ → List ℕ → Answer
fine e o n w = record { now = e; used = n; written = w; first = outcome_number o; polled = 0 }

-- all frames are written from the front of the transmit buffer
pub behind-turned : (l : PPPoS) (tx rx : List ℕ) (h : l.frame_reader.len ≤ length rx) (room : always_enough ≤ length tx) (o : Result Unit Refusal) (n : ℕ) (r : FrameReader) (t : Turn) → t.echoed ≡ false
    → behind o n (hearing.written_poll l tx rx h room r t) ≡ fine (end_of (link_of r t.ppp) rx) o n (frames t.sent)
behind-turned l tx rx h room o n r t e =
    rw (e, (sent_count (length (frames t.sent))).0, (sent_count (length (frames t.sent))).1, take-append_seam) refl

module _ (e : End) (tx : List ℕ) (room : always_enough ≤ length tx) (o : Result Unit Refusal) (n : ℕ) where
  -- where nothing waits a poll leaves all as it is
  pub rests : Rest e → behind o n (poll_link e.link tx e.rx) ≡ fine e o n []
  unfolding frames
  rests h =
      let r = e.link.frame_reader in
      ap (behind o n) (hearing.poll_waits e.link tx e.rx h.within room h.empty)
      ∙ behind-turned e.link tx e.rx h.within room o n r (poll_of e.link.ppp) refl
      ∙ ap (λ (t : Turn). fine (end_of (link_of r t.ppp) e.rx) o n (frames t.sent)) h.calm

  -- where a frame waits its packet is answered, and h is what the reader holds then
  abbrev Replied : Held → Type 0
  Replied h = behind o n (poll_link e.link tx e.rx) ≡ fine (joined (turn e).ppp h) o n (frames (turn e).sent)

  module _ (f : full (hold e) ≡ true) (h : Takes e) where
    handed_out : is_ip (packet_of (hold e)) ≡ true → Replied (held (fetched e.link.frame_reader) e.rx)
    unfolding poll_link packet_poll frames
    handed_out i =
        let r = e.link.frame_reader in
        rw (le-ltb (length e.rx) r.len h.within, f, le-ltb r.len 3 h.long, i, ip_turn e.link.ppp (packet_of (hold e)) i ∙ h.calm) refl

    taken : is_ip (packet_of (hold e)) ≡ false → Replied (held (fetched e.link.frame_reader) e.rx)
    taken i =
        ap (behind o n) (hearing.poll-turns e.link tx e.rx h.within room f h.long i h.done)
        ∙ behind-turned e.link tx e.rx h.within room o n (fetched e.link.frame_reader) (turn e) h.plain

    pub replies : behind o n (poll_link e.link tx e.rx) ≡ fine (turned_end e) o n (frames (turn e).sent)
    replies =
        let t = held (fetched e.link.frame_reader) e.rx in
        subst (λ (k : Bool). Replied (cond k t (hold e))) (sym f) (by_test (is_ip (packet_of (hold e))) handed_out taken)

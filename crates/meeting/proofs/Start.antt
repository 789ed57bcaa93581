-- An end that is ready, opened and polled once: it stands where the chat begins, and has written its first frame.
-- Assumes nothing.
use mathlib.Core.Path.{◌≡◌, refl, ap, ◌∙◌}
use mathlib.Core.Bool.{Bool}
use mathlib.Core.List.{List, [], ◌∷◌}
use Prim.Native.Nat.{ℕ, ◌≤◌}
use native.Mathlib.Omega.{arith}
use lib.ListN.{length}
use Rattle.std.specs.Prelude.{Ok}
use Rattle.framing.proofs.Arrives.{idle_empty}
use Rattle.phases.specs.Phases.{Turn, open_of, poll_of}
use Rattle.meeting.proofs.Says as moves
use Rattle.meeting.proofs.Says.{Self, self_of, hello}
use Rattle.negotiation.specs.declared.states.State.TheVariants.{Closed}
use Rattle.meeting.proofs.Moves.{begins}
use Rattle.link.specs.Frames.{frames, always_enough}
use Rattle.link.specs.Link.{link_of, outcome_of, open_link}
use Rattle.link.proofs.Hearing.{poll_waits}
use Rattle.meeting.specs.Calls.{End, end_of, behind, opens}
use Rattle.meeting.specs.Statement.{Ready}
use Rattle.meeting.proofs.Bytes.{hold, joined, fine, behind-turned}
use Rattle.meeting.proofs.Frames.{Waits}

-- what an end brings to the meeting, and which of its name servers were rejected
abbrev pub self : End → Self
self x = self_of x.link.ppp

abbrev pub rejected1 : End → Bool
rejected1 x = x.link.ppp.ipv4cp.proto.dns_server_1.is_rejected

abbrev pub rejected2 : End → Bool
rejected2 x = x.link.ppp.ipv4cp.proto.dns_server_2.is_rejected

pub waits : {x : End} → Ready x → Waits (hold x)
waits h = record { idle = record { between = h.between; clear = h.no_escape; empty = h.nothing_kept }; room = h.room }

-- no refusal, nothing consumed, and one frame
abbrev pub Opens : End → List ℕ → Type 0
Opens x tx = opens x tx ≡ fine (joined (moves.begun (self x) (rejected1 x) (rejected2 x)) (hold x)) (Ok tt) 0 (frames (hello (self x) ∷ []))

pub opened : {x : End} → Ready x → x.link.ppp.lcp.state ≡ Closed → (tx : List ℕ) → always_enough ≤ length tx → Opens x tx
unfolding opens
opened {x} h closed tx room =
    let l = x.link in
    let r = l.frame_reader in
    let within : r.len ≤ length x.rx = omega (arith, h.nothing_kept) in
    let o = outcome_of (open_of l.ppp).outcome in
    ap (behind o 0) (poll_waits (open_link l) tx x.rx within room (idle_empty (waits h).idle))
    ∙ behind-turned (open_link l) tx x.rx within room o 0 r (poll_of (open_of l.ppp).ppp) refl
    ∙ ap (λ (t : Turn). fine (end_of (link_of r t.ppp) x.rx) o 0 (frames t.sent)) (begins l.ppp h.dead closed)
    ∙ rw h.dead refl

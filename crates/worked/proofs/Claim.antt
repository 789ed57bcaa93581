-- Every worked example of the table holds: one test that the checker computes, lifted to the equation.
-- Assumes nothing.
use mathlib.Core.Path.{◌≡◌, refl, ap₂}
use mathlib.Core.Bool.{Bool, true, ◌&&◌}
use mathlib.Core.List.{List, [], ◌∷◌, map}
use Prim.Native.Nat.{ℕ}
use lib.Dec.{T}
use Rattle.laws.specs.Be as be
use Rattle.laws.specs.Same as sames
use Rattle.laws.proofs.Below.{both_left, both_right}
use Rattle.laws.proofs.Same.{same_eq}
use Rattle.framing.specs.Rfc1662 as rfc
use Rattle.framing.specs.Reader as reader
use Rattle.options.specs.Wire as wire
use Rattle.options.specs.Options as options
use Rattle.options.specs.Proto as proto
use Rattle.options.specs.Reply as reply
use Rattle.negotiation.specs.Automaton as fsm
use Rattle.phases.specs.Phases as phases
use Rattle.link.specs.Frames as frames
use Rattle.link.specs.Link as link
use Rattle.worked.specs.Table.{Example, table}

abbrev all_right : List Example → Bool
all_right [] = true
all_right (r ∷ rs) = sames.same r.found r.wanted && all_right rs

rows_right : (rs : List Example) → T (all_right rs) → map (λ (r : Example). r.found) rs ≡ map (λ (r : Example). r.wanted) rs
rows_right [] t = refl
rows_right (r ∷ rs) t =
    ap₂ (λ (h : List ℕ) (l : List (List ℕ)). h ∷ l)
    (same_eq r.found r.wanted (both_left (sames.same r.found r.wanted) (all_right rs) t))
    (rows_right rs (both_right (sames.same r.found r.wanted) (all_right rs) t))

pub worked : map (λ (r : Example). r.found) table ≡ map (λ (r : Example). r.wanted) table
unfolding be.be_from be.be_bytes sames.same rfc.fcs_bits rfc.fcs rfc.escaped rfc.unit rfc.stuffed rfc.frame reader.fault_in reader.step reader.fed wire.pkt_of options.walk_in options.walk_from reply.listed_of reply.step_of reply.reply_of fsm.requested fsm.req_with fsm.req_of proto.own_nacked proto.nacks_of fsm.nack_with fsm.nack_of fsm.ignore_of fsm.act_of fsm.handle_of fsm.opened_fsm phases.received_of phases.establish_of phases.phase_of phases.turn_of frames.frames link.answered_poll link.packet_poll link.poll_link
worked = rows_right table tt

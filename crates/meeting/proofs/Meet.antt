-- Demand 3: two ends meet.
-- Assumes nothing.
use mathlib.Core.Path.{refl}
use mathlib.Core.Bool.{true}
use mathlib.Core.List.{List, [], ◌∷◌}
use Prim.Native.Nat.{ℕ, ◌≤◌, ◌<◌}
use native.Mathlib.Omega.{arith}
use lib.ListN.{length}
use Rattle.meeting.proofs.Moves.{hears}
use Rattle.link.proofs.Reached.{dead_closed}
use Rattle.meeting.specs.Calls.{End, Net, flip, begun, one_unless_empty, steps}
use Rattle.meeting.specs.Statement.{Side, TwoEndsMeet}
use Rattle.meeting.proofs.Bytes.{hold}
use Rattle.meeting.proofs.Diamond.{flipped, ended, continues}
use Rattle.meeting.proofs.Ways.{no_more, Way, at_first, along, Spent, spent}
use Rattle.meeting.proofs.Chat.{chat}
use Rattle.meeting.proofs.Frames.{Told, Both, lower}
use Rattle.meeting.proofs.Finish.{wrote, met, written_narrow, finish}
use Rattle.meeting.proofs.Start.{self, rejected1, rejected2, waits, Opens, opened}

-- ---- one end

one : (c : List ℕ) → 0 < length c → 1 ≤ one_unless_empty c
one [] h = h
one (b ∷ c) h = omega arith

-- whichever of the two ends it is
side : {Q : End → End → List ℕ → List ℕ → Type 0} {x y : End} → ((a b : End) (f g : List ℕ) → Q a b f g → Told (self x) (self y) a f) → (z : Net) → Way Q z
    → Side x y z
side told z w =
    let all = continues w in
    record {
      unrefused = λ tx c rest room e. (at_first z w tx c rest room e).unrefused;
      consumes = λ tx c rest room e h. omega (arith, (at_first z w tx c rest room e).least, one c h);
      no_more = no_more z.a;
      written = record { rest = all.more_a; extends = wrote (told _ _ _ _ all.good) };
      met = λ e f. met (told _ _ _ _ (ended (rw (e, f) at w)));
    }

-- ---- both ends

pub two_ends_meet : TwoEndsMeet
two_ends_meet x y hx hy tx tx' room room' z r =
    record {
      opens_a = rw start_a (record { first = refl; polled = refl; framed = record { packets = _; whole = refl } });
      opens_b = rw start_b (record { first = refl; polled = refl; framed = record { packets = _; whole = refl } });
      at_a = side (λ a b f g q. q.0) z here;
      at_b = side (λ a b f g q. q.1) (flip z) (flipped here);
      bounded = omega (arith, paid, written_narrow here);
      finishes = finish tx room here (omega (arith, paid));
    }
  where
    start_a : Opens x tx
    start_a = opened hx (dead_closed hx.reached hx.dead) tx room

    start_b : Opens y tx'
    start_b = opened hy (dead_closed hy.reached hy.dead) tx' room'

    way : Way (Both (self x) (self y)) (begun x y tx tx')
    way =
        rw (start_a, start_b)
        (lower (chat (self x) (self y) (rejected1 x) (rejected2 x) (rejected1 y) (rejected2 y))
        ((hears (self y) (self x) true true).small, tt) ((hears (self x) (self y) true true).small, tt) (hold x) (hold y) (waits hx) (waits hy))

    here : Way (Both (self x) (self y)) z
    here = along way r

    paid : Spent (steps r) z
    paid = spent way (omega arith) r

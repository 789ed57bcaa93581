-- Every call of a run stays on the way of the finished run: nothing is refused, and a byte is consumed where one is handed in.
-- Assumes nothing.
use mathlib.Core.Path.{◌≡◌, refl, sym, ap, ◌∙◌}
use mathlib.Core.List.{List, [], ◌∷◌, ◌++◌, append-nil}
use Prim.Native.Nat.{ℕ, ◌+◌, ◌-◌, ◌≤◌}
use native.Mathlib.Omega.{arith}
use borrow.Author.Tests.{le-ltb}
use lib.ListN.{length, drop, length-append, length-drop}
use lib.Seq.{drop-append-le}
use Rattle.std.specs.Prelude.{Result, Ok}
use Rattle.laws.proofs.Cases.{by_test}
use Rattle.framing.specs.Reader.{step, full, Fed, fed}
use Rattle.framing.proofs.Reader.{fed_nil, fed-step, fed_stop, fed_left, fed_left_le, consumed-fed}
use Rattle.phases.specs.declared.ppp.Ppp.{Ppp}
use Rattle.link.specs.Frames.{frames, always_enough}
use Rattle.link.specs.Link.{link_of, poll_link}
use Rattle.link.specs.declared.refusal.Refusal.{Refusal}
use Rattle.meeting.specs.Calls.{End, Answer, behind, takes, Net, flip, passed_on, Exchange, start, at_a, at_b, one_unless_empty, steps}
use Rattle.meeting.specs.Statement.{Framed, Unrefused}
use Rattle.meeting.proofs.Bytes.{hold, feed, turn, Rest, stepped_quiet, says_quiet, stepped-full, says_full, rests, replies}
use Rattle.meeting.proofs.Diamond.{Ends, flipped, next, readable, resting}

-- ---- one call

-- the poll behind a consume that left f
abbrev after : Fed → Ppp → List ℕ → Result Unit Refusal → ℕ → Answer
after f p tx o n = behind o n (poll_link (link_of f.now.reader p) tx f.now.buf)

-- the answer is on the way, with the bytes left before the others
record Served (Q : End → End → List ℕ → List ℕ → Type 0) (b : End) (r v f g left : List ℕ) (got : Answer) : Type 0 where
  way : Ends Q got.now b (left ++ r) (v ++ got.written) (f ++ got.written) g
  polled : got.polled ≡ 0
  framed : Framed got.written

module _ {Q : End → End → List ℕ → List ℕ → Type 0} (tx : List ℕ) (room : always_enough ≤ length tx) (o : Result Unit Refusal) (n : ℕ) where
  served : (c r : List ℕ) {a b : End} {v f g : List ℕ} → Ends Q a b (c ++ r) v f g
      → Served Q b r v f g (fed (hold a) c).left (after (fed (hold a) c) a.link.ppp tx o n)
  unfolding frames
  served [] r {a} {v} {f} e =
      rw (fed_nil (hold a), rests a tx room o n (resting e))
      (record { way = simp append-nil e; polled = refl; framed = record { packets = []; whole = refl } })
  served (x ∷ c) r {a} {v} {f} e =
      rw (fed-step (hold a) x c (resting e).empty)
      (by_test (full (step (hold a) x))
      (λ t. rw (fed_stop (step (hold a) x) c t, replies (feed a x) tx room o n t ((readable e).ends t))
      (record { way = rw (stepped-full a x t, says_full a x t) at (next e); polled = refl; framed = record { packets = (turn (feed a x)).sent; whole = refl } }))
      (λ t. served c r {a = feed a x} {v = v} {f = f} (simp append-nil at (rw (stepped_quiet a x t, says_quiet a x t) at (next e)))))

-- what a call that is handed c of the bytes c ++ r comes to
pub record Passed (Q : End → End → List ℕ → List ℕ → Type 0) (b : End) (c r v f g : List ℕ) (got : Answer) : Type 0 where
  pub way : Ends Q got.now b (drop got.used (c ++ r)) (v ++ got.written) (f ++ got.written) g
  pub unrefused : Unrefused got
  pub least : one_unless_empty c ≤ got.used

pub no_more : (e : End) (tx c : List ℕ) → (takes e tx c).used ≤ length c
unfolding takes
no_more e tx c = omega arith

-- a reader that takes bytes consumes one of those that it is handed
some : (e : End) (c : List ℕ) → Rest e → one_unless_empty c ≤ length c - length (fed (hold e) c).left
some e [] h = omega arith
some e (x ∷ c) h = rw (fed-step (hold e) x c h.empty) (omega (arith, fed_left_le (step (hold e) x) c))

pub passed : {Q : End → End → List ℕ → List ℕ → Type 0} (tx c r : List ℕ) → always_enough ≤ length tx → {a b : End} {v f g : List ℕ} → Ends Q a b (c ++ r) v f g
    → Passed Q b c r v f g (takes a tx c)
unfolding takes
passed tx c r room {a} {v} {f} e =
    let s = resting e in
    let left = (fed (hold a) c).left in
    let back : drop (length c - length left) (c ++ r) ≡ left ++ r = drop-append-le (length c - length left) c r (omega arith) ∙ ap (λ (l : List ℕ). l ++ r) (sym (fed_left (hold a) c)) in
    let k = served tx room (Ok tt) (length c - length left) c r e in
    rw (consumed-fed (hold a) c s.within, le-ltb (length a.rx) a.link.frame_reader.len s.within)
    (record {
      way = rw back k.way;
      unrefused = record { first = refl; polled = k.polled; framed = k.framed };
      least = some a c s;
    })

-- ---- a run

-- where both ends are on the way
abbrev pub Way : (End → End → List ℕ → List ℕ → Type 0) → Net → Type 0
Way Q n = Ends Q n.a n.b n.to_a n.to_b n.from_a n.from_b

-- a call at the first end
pub at_first : {Q : End → End → List ℕ → List ℕ → Type 0} (m : Net) → Way Q m → (tx c rest : List ℕ) → always_enough ≤ length tx → m.to_a ≡ c ++ rest
    → Passed Q m.b c rest m.to_b m.from_a m.from_b (takes m.a tx c)
at_first m w tx c rest room e = passed tx c rest room (rw e at w)

step_way : {Q : End → End → List ℕ → List ℕ → Type 0} (m : Net) → Way Q m → (tx c rest : List ℕ) → always_enough ≤ length tx → m.to_a ≡ c ++ rest
    → Way Q (passed_on m (takes m.a tx c))
step_way m w tx c rest room e = rw e (at_first m w tx c rest room e).way

pub along : {Q : End → End → List ℕ → List ℕ → Type 0} {n m : Net} → Way Q n → Exchange n m → Way Q m
along w start = w
along w (at_a {m = m} r tx c rest h e) = step_way m (along w r) tx c rest h e
along w (at_b {m = m} r tx c rest h e) = flipped (step_way (flip m) (flipped (along w r)) tx c rest h e)

-- ---- how many calls

-- k calls were handed a byte, and each took one off a wire
abbrev pub Spent : ℕ → Net → Type 0
Spent k m = k + length m.to_a + length m.to_b ≤ length m.from_a + length m.from_b

step_spent : {Q : End → End → List ℕ → List ℕ → Type 0} (k : ℕ) (m : Net) → Way Q m → (tx c rest : List ℕ) → always_enough ≤ length tx → m.to_a ≡ c ++ rest → Spent k m
    → Spent (k + one_unless_empty c) (passed_on m (takes m.a tx c))
step_spent k m w tx c rest room e h =
    let p = at_first m w tx c rest room e in
    let got = takes m.a tx c in
    omega (arith, p.least, no_more m.a tx c, length-drop got.used m.to_a, length-append m.to_b got.written, length-append m.from_a got.written, ap length e, length-append c rest)

pub spent : {Q : End → End → List ℕ → List ℕ → Type 0} {n m : Net} → Way Q n → Spent 0 n → (r : Exchange n m) → Spent (steps r) m
unfolding steps
spent w h start = h
spent w h (at_a {m = m} r tx c rest room e) = step_spent (steps r) m (along w r) tx c rest room e (spent w h r)
spent w h (at_b {m = m} r tx c rest room e) =
    let s = spent w h r in
    let t = step_spent (steps r) (flip m) (flipped (along w r)) tx c rest room e (omega arith) in
    omega arith

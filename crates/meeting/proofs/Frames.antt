-- From frames to bytes: an end between frames reads a frame in silence, answers with its last byte, and is between frames again.
-- Assumes nothing.
use mathlib.Core.Path.{◌≡◌, refl, sym, ap, ◌∙◌}
use mathlib.Core.Bool.{true, false, false≢true}
use mathlib.Core.List.{List, [], ◌∷◌, ◌++◌, append-nil, append_assoc}
use Prim.Native.Nat.{ℕ, ◌≤◌}
use native.Mathlib.Omega.{arith}
use lib.ListN.{length}
use Rattle.laws.specs.Each.{Each}
use Rattle.laws.specs.Quiet.{Quiet, none, more}
use Rattle.laws.proofs.Each.{each_append}
use Rattle.laws.proofs.Quiet.{quiet_first, quiet_last}
use Rattle.framing.specs.Rfc1662.{frame}
use Rattle.framing.specs.Reader.{Held, step, full}
use Rattle.framing.specs.Heard.{fetched_in}
use Rattle.framing.specs.Arrives.{Idle, Arrives}
use Rattle.framing.proofs.Arrives.{idle_empty, arrives}
use Rattle.framing.proofs.Reader.{Kept, step_kept}
use Rattle.phases.specs.Phases.{Turn, turn_to, turn_of}
use Rattle.phases.specs.Sound.{Calm}
use Rattle.meeting.proofs.Says.{Self, Small, AtMostOne, Moves}
use Rattle.phases.specs.declared.ppp.Ppp.{Ppp}
use Rattle.meeting.proofs.Moves.{open_calm}
use Rattle.link.specs.Frames.{every_byte, frames}
use Rattle.link.proofs.Sending.{frames-append}
use Rattle.meeting.specs.Calls.{End}
use Rattle.meeting.specs.Statement.{FourToSix}
use Rattle.meeting.proofs.Bytes.{joined, turn, feed, Rest, stepped_quiet, says_quiet, stepped-full, says_full}
use Rattle.meeting.proofs.Diamond as diamond
use Rattle.meeting.proofs.Diamond.{Ends, done, goes}
use Rattle.meeting.proofs.Chat.{Settled, Chat, end, at_a, at_b}

-- between frames, with room for every packet that is passed on
pub record Waits (h : Held) : Type 0 where
  pub idle : Idle h
  pub room : 27 ≤ length h.buf

waits_kept : {h : Held} → Waits h → Kept (length h.buf) h
waits_kept w = record { room = refl; within = omega (arith, w.idle.empty) }

-- ---- one frame

resting : {s : Ppp} → Calm s → (l : ℕ) (h : Held) → full h ≡ false → Kept l h → Rest (joined s h)
resting calm l h e k = record { empty = e; within = omega (arith, k.room, k.within); calm = calm }

module _ {Q : End → End → List ℕ → List ℕ → Type 0} {s : Ppp} (calm : Calm s) (l : ℕ) {b : End} (v f : List ℕ) {g : List ℕ} where
  -- bytes that complete no frame
  quietly : {h t : Held} {body w : List ℕ} → Quiet step full h body t → Kept l h → (Kept l t → Ends Q (joined s t) b w v f g)
      → Ends Q (joined s h) b (body ++ w) v f g
  quietly (none e) k next = next k
  quietly {h} (more {b = x} e q) k next =
      let silent = quiet_first step full q in
      goes (joined s (step h x)) [] v f (record { rest = resting calm l h e k; ends = λ t. absurd (false≢true (sym silent ∙ t)) })
      (stepped_quiet (joined s h) x silent) (says_quiet (joined s h) x silent)
      (simp append-nil (quietly q (step_kept l h x k) next))

module _ {Q : End → End → List ℕ → List ℕ → Type 0} {s s' : Ppp} {x : List ℕ} {o : List (List ℕ)} (m : Moves s x s' o) {b : End} (u v f : List ℕ) {g : List ℕ} where
  -- the byte that completes it
  closes : {h : Held} {w : List ℕ} (a : Arrives h w x) → Kept (length h.buf) a.before
      → Ends Q (joined s' (fetched_in (step a.before a.last))) b u (v ++ frames o) (f ++ frames o) g
      → Ends Q (joined s a.before) b (a.last ∷ u) v f g
  closes {h} a k e =
      let t = joined s a.before in
      let l = length h.buf in
      let is : turn (feed t a.last) ≡ turn_to s' o = ap (turn_of s) a.packet ∙ m.is in
      let kept = step_kept l a.before a.last k in
      goes (joined s' (fetched_in (step a.before a.last))) (frames o) v f
      (record {
        rest = resting m.calm l a.before (quiet_last step full a.quiet) k;
        ends = λ _.
            record {
              within = omega (arith, kept.room, kept.within);
              long = omega (arith, a.kept);
              calm = m.calm;
              done = ap (λ (r : Turn). r.outcome) is;
              plain = ap (λ (r : Turn). r.echoed) is;
            };
      })
      (stepped-full t a.last a.filled ∙ ap (λ (r : Turn). joined r.ppp (fetched_in (step a.before a.last))) is)
      (says_full t a.last a.filled ∙ ap (λ (r : Turn). frames r.sent) is) e

  pub lands : (h : Held) → Waits h → ((h' : Held) → Waits h' → Ends Q (joined s' h') b u (v ++ frames o) (f ++ frames o) g)
      → Ends Q (joined s h) b (frame every_byte x ++ u) v f g
  lands h w next =
      let a = arrives h every_byte x w.idle (omega (arith, m.small.short, w.room)) in
      let waits : Waits (fetched_in (step a.before a.last)) = record { idle = a.idle; room = rw (a.filled, a.same_room) w.room } in
      rw (a.whole, append_assoc a.body (a.last ∷ []) u)
      (quietly m.calm (length h.buf) v f a.quiet (waits_kept w) (λ k. closes a k (next (fetched_in (step a.before a.last)) waits)))

-- ---- all frames

-- an end that met the other, and wrote these frames
pub record Told (X Y : Self) (e : End) (w : List ℕ) : Type 0 where
  pub settled : Settled X Y e.link.ppp
  pub packets : List (List ℕ)
  pub whole : w ≡ frames packets
  pub count : FourToSix packets
  pub small : Each Small packets

abbrev pub Both : Self → Self → End → End → List ℕ → List ℕ → Type 0
Both A B a b f g = Told A B a f × Told B A b g

settled_calm : {X Y : Self} {s : Ppp} → Settled X Y s → Calm s
settled_calm {X} {Y} h = rw h.is (open_calm X Y h.id h.peer true true)

few_small : (o : List (List ℕ)) → AtMostOne o → Each Small o
few_small [] h = tt
few_small (x ∷ []) h = (h, tt)
few_small (x ∷ y ∷ o) h = absurd h

at_rest : {X Y : Self} {s : Ppp} (h : Held) → Waits h → Settled X Y s → Rest (joined s h)
at_rest h w t = resting (settled_calm t) (length h.buf) h (idle_empty w.idle) (waits_kept w)

-- a chat of frames is a way for bytes
pub lower : {A B : Self} {a b : Ppp} {u v f g : List (List ℕ)} → Chat A B a b u v f g → Each Small f → Each Small g → (h k : Held) → Waits h → Waits k
    → Ends (Both A B) (joined a h) (joined b k) (frames u) (frames v) (frames f) (frames g)
unfolding frames
lower {f = f} {g = g} (end s t m n) p q h k w y =
    done (at_rest h w s) (at_rest k y t)
    (record { settled = s; packets = f; whole = refl; count = m; small = p }, record { settled = t; packets = g; whole = refl; count = n; small = q })
lower (at_a {o = o} {u = u} {v = v} {f = f} {g = g} m e) p q h k w y =
    lands m (frames u) (frames v) (frames f) h w
    (λ h' w'. rw (← frames-append v o, ← frames-append f o) (lower e (each_append Small f o p (few_small o m.few)) q h' k w' y))
lower (at_b {o = o} {u = u} {v = v} {f = f} {g = g} m e) p q h k w y =
    diamond.flipped
    (lands m (frames v) (frames u) (frames g) k y
    (λ k' y'. diamond.flipped (rw (← frames-append u o, ← frames-append g o) (lower e p (each_append Small g o q (few_small o m.few)) h k' w y'))))

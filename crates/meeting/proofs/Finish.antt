-- Where it ends, and after how many calls: each that is handed a byte takes one off a wire, and what both ends write is at most 684 bytes.
-- Assumes nothing.
use mathlib.Core.Path.{◌≡◌, refl, sym, ap, ◌∙◌}
use mathlib.Core.Bool.{Bool}
use mathlib.Core.List.{List, [], ◌∷◌, ◌++◌, append-nil}
use mathlib.Core.Logic.{◌⊎◌, inl, inr, ⊎_elim}
use Prim.Native.Nat.{ℕ, zero, suc, ◌+◌, ◌*◌, ◌≤◌}
use native.Mathlib.Omega.{arith}
use lib.ListN.{length, length-append}
use Rattle.laws.specs.Each.{Each}
use Rattle.laws.proofs.Be.{be_round}
use Rattle.framing.specs.Rfc1662.{frame}
use Rattle.framing.proofs.Unstuffing.{frame_narrow}
use Rattle.meeting.proofs.Says.{Self, Small, heard}
use Rattle.phases.specs.declared.ppp.Ppp.{Ppp}
use Rattle.link.specs.Frames.{every_byte, frames, always_enough}
use Rattle.meeting.specs.Calls.{End, Net, Exchange, start, at_a, at_b, steps}
use Rattle.meeting.specs.Statement.{AllWritten, Learned, Met, Finishes}
use Rattle.meeting.proofs.Diamond.{ended, continues}
use Rattle.meeting.proofs.Ways.{Way, along, Spent, spent}
use Rattle.meeting.proofs.Frames.{Told, Both}
use Rattle.meeting.proofs.Start.{self}

-- ---- an end that met the other

-- a u32 that was sent in four bytes comes back
learned : {v was now : ℕ} (r : Bool) → now ≡ heard v r was → Learned v r was now
learned {v} {was} {now} r e =
    record {
      offered = λ f h. e ∙ ap (λ (k : Bool). heard v k was) f ∙ be_round 4 v h;
      unchanged = λ f. e ∙ ap (λ (k : Bool). heard v k was) f;
    }

pub wrote : {X Y : Self} {e : End} {w : List ℕ} → Told X Y e w → AllWritten w
wrote t = record { framed = record { packets = t.packets; whole = t.whole }; count = t.count }

pub met : {x y e : End} {w : List ℕ} → Told (self x) (self y) e w → Met x y e w
met {x} {y} t =
    let s = t.settled in
    record {
      phase = ap (λ (p : Ppp). p.phase) s.is;
      lcp = ap (λ (p : Ppp). p.lcp.state) s.is;
      ipv4cp = ap (λ (p : Ppp). p.ipv4cp.state) s.is;
      map = learned y.link.ppp.lcp.proto.asyncmap_rej (ap (λ (p : Ppp). p.lcp.proto.asyncmap_remote) s.is);
      peer = learned y.link.ppp.ipv4cp.proto.address.is_rejected (ap (λ (p : Ppp). p.ipv4cp.proto.peer_address) s.is ∙ s.hears);
      own_map = ap (λ (p : Ppp). p.lcp.proto.asyncmap) s.is;
      own_map_rejected = ap (λ (p : Ppp). p.lcp.proto.asyncmap_rej) s.is;
      own_address = ap (λ (p : Ppp). p.ipv4cp.proto.address) s.is;
      wrote = wrote t;
    }

-- ---- how much is written

-- six frames of 57 bytes
narrow : (ps : List (List ℕ)) → Each Small ps → length (frames ps) ≤ 57 * length ps
unfolding frames
narrow [] h = omega arith
narrow (p ∷ ps) h = omega (arith, length-append (frame every_byte p) (frames ps), frame_narrow every_byte p, h.0.short, narrow ps h.1)

told_narrow : {X Y : Self} {e : End} (w more : List ℕ) → Told X Y e (w ++ more) → length w ≤ 342
told_narrow w more t = omega (arith, length-append w more, ap length t.whole, narrow t.packets t.small, t.count.most)

pub written_narrow : {A B : Self} {z : Net} → Way (Both A B) z → length z.from_a + length z.from_b ≤ 684
written_narrow {z = z} w =
    let all = continues w in
    omega (arith, told_narrow z.from_a all.more_a all.good.0, told_narrow z.from_b all.more_b all.good.1)

-- ---- to the end

-- a run with one more call that is handed a byte
record More {z m : Net} (r : Exchange z m) : Type 0 where
  next : Net
  run : Exchange z next
  one : steps r + 1 ≤ steps run

-- all that is on a wire is handed in, unless both are empty
more : {z m : Net} (r : Exchange z m) (tx : List ℕ) → always_enough ≤ length tx → ((m.to_a ≡ []) × (m.to_b ≡ [])) ⊎ More r
unfolding steps
more {m = m} r tx room = go m.to_a m.to_b refl refl
  where
    go : (u v : List ℕ) → m.to_a ≡ u → m.to_b ≡ v → ((m.to_a ≡ []) × (m.to_b ≡ [])) ⊎ More r
    go [] [] e f = inl (e, f)
    go (x ∷ u) v e f = inr (record { next = _; run = at_a r tx (x ∷ u) [] room (e ∙ sym (append-nil (x ∷ u))); one = omega arith })
    go [] (x ∷ v) e f = inr (record { next = _; run = at_b r tx (x ∷ v) [] room (f ∙ sym (append-nil (x ∷ v))); one = omega arith })

none : (l : List ℕ) → length l ≤ 0 → l ≡ []
none [] h = refl
none (x ∷ l) h = absurd (omega arith)

module _ {x y : End} {z : Net} (tx : List ℕ) (room : always_enough ≤ length tx) (w : Way (Both (self x) (self y)) z) (h : Spent 0 z) where
  finished : {m : Net} → Exchange z m → m.to_a ≡ [] → m.to_b ≡ [] → Finishes x y z
  finished {m} r e f =
      let q = ended (rw (e, f) at (along w r)) in
      record { last = m; run = r; empty_a = e; empty_b = f; met_a = met q.0; met_b = met q.1 }

  finish_in : (k : ℕ) {m : Net} (r : Exchange z m) → 684 ≤ steps r + k → Finishes x y z
  finish_in zero {m} r e =
      let paid = spent w h r in
      let most = written_narrow (along w r) in
      finished r (none m.to_a (omega arith)) (none m.to_b (omega arith))
  finish_in (suc k) {m} r e =
      ⊎_elim
      (λ (p : (m.to_a ≡ []) × (m.to_b ≡ [])). finished r p.0 p.1)
      (λ (t : More r). finish_in k t.run (omega (arith, t.one)))
      (more r tx room)

  pub finish : Finishes x y z
  finish = finish_in 684 start (omega arith)

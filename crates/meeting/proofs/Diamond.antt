-- One finished run, byte by byte, and why every other step commutes with it: the next byte at either end may as well come first.
-- Assumes nothing.
use mathlib.Core.Path.{◌≡◌}
use mathlib.Core.List.{List, [], ◌∷◌, ◌++◌, append-nil, append_assoc}
use Prim.Native.Nat.{ℕ}
use Rattle.meeting.specs.Calls.{End}
use Rattle.meeting.proofs.Bytes.{stepped, says, Rest, Byte}

-- two ends, the bytes on the way to each, and all that each has written, from where a run leads to an end with Q
pub data Ends (Q : End → End → List ℕ → List ℕ → Type 0) : End → End → List ℕ → List ℕ → List ℕ → List ℕ → Type 0 where
  done : {a b : End} {f g : List ℕ} → Rest a → Rest b → Q a b f g → Ends Q a b [] [] f g
  to_a : {a b : End} {x : ℕ} {u v f g : List ℕ} → Byte a x → Ends Q (stepped a x) b u (v ++ says a x) (f ++ says a x) g → Ends Q a b (x ∷ u) v f g
  to_b : {a b : End} {x : ℕ} {u v f g : List ℕ} → Byte b x → Ends Q a (stepped b x) (u ++ says b x) v f (g ++ says b x) → Ends Q a b u (x ∷ v) f g

-- the same, seen from the other end
abbrev pub turned_around : (End → End → List ℕ → List ℕ → Type 0) → End → End → List ℕ → List ℕ → Type 0
turned_around Q a b f g = Q b a g f

pub flipped : {Q : End → End → List ℕ → List ℕ → Type 0} {a b : End} {u v f g : List ℕ} → Ends Q a b u v f g → Ends (turned_around Q) b a v u g f
flipped (done r s q) = done s r q
flipped (to_a p e) = to_b p (flipped e)
flipped (to_b p e) = to_a p (flipped e)

module _ {Q : End → End → List ℕ → List ℕ → Type 0} where
  pub next : {a b : End} {x : ℕ} {u v f g : List ℕ} → Ends Q a b (x ∷ u) v f g → Ends Q (stepped a x) b u (v ++ says a x) (f ++ says a x) g
  next (to_a p e) = e
  next (to_b p e) = to_b p (next e)

  pub readable : {a b : End} {x : ℕ} {u v f g : List ℕ} → Ends Q a b (x ∷ u) v f g → Byte a x
  readable (to_a p e) = p
  readable (to_b p e) = readable e

  pub resting : {a b : End} {u v f g : List ℕ} → Ends Q a b u v f g → Rest a
  resting (done r s q) = r
  resting (to_a p e) = p.rest
  resting (to_b p e) = resting e

  pub ended : {a b : End} {f g : List ℕ} → Ends Q a b [] [] f g → Q a b f g
  ended (done r s q) = q

  -- one byte more, where the end and the bytes are known by other names
  pub goes : {a b : End} (a' : End) (o : List ℕ) {x : ℕ} {u : List ℕ} (v f : List ℕ) {g : List ℕ} → Byte a x → stepped a x ≡ a' → says a x ≡ o
      → Ends Q a' b u (v ++ o) (f ++ o) g → Ends Q a b (x ∷ u) v f g
  goes {b} a' o {u} v f {g} p s t e = to_a {b = b} {u = u} {v = v} {f = f} {g = g} p (rw (s, t) e)

-- what is written by the end begins with what is written now
pub record Continues (Q : End → End → List ℕ → List ℕ → Type 0) (f g : List ℕ) : Type 0 where
  pub a : End
  pub b : End
  pub more_a : List ℕ
  pub more_b : List ℕ
  pub good : Q a b (f ++ more_a) (g ++ more_b)

pub continues : {Q : End → End → List ℕ → List ℕ → Type 0} {a b : End} {u v f g : List ℕ} → Ends Q a b u v f g → Continues Q f g
continues (done {a} {b} {f} {g} r s q) = record { a = a; b = b; more_a = []; more_b = []; good = simp append-nil q }
continues (to_a {a = a} {x = x} {f = f} p e) =
    let w = continues e in
    record { a = w.a; b = w.b; more_a = says a x ++ w.more_a; more_b = w.more_b; good = simp (← append_assoc) w.good }
continues (to_b {b = b} {x = x} p e) =
    let w = continues e in
    record { a = w.a; b = w.b; more_a = w.more_a; more_b = says b x ++ w.more_b; good = simp (← append_assoc) w.good }

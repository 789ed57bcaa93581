-- Quiet runs, one after the other.
-- Assumes nothing.
use mathlib.Core.Path.{◌≡◌}
use mathlib.Core.Bool.{Bool, false}
use mathlib.Core.List.{List, ◌∷◌, ◌++◌}
use Prim.Native.Nat.{ℕ}
use Rattle.laws.specs.Quiet.{Quiet, none, more}

module _ {S : Type 0} (feed : S → ℕ → S) (full : S → Bool) where
  -- one step, where the next state is known by another name
  pub quiet_step : {s t : S} (s' : S) {b : ℕ} {w : List ℕ} → full s ≡ false → feed s b ≡ s' → Quiet feed full s' w t → Quiet feed full s (b ∷ w) t
  quiet_step {s} {t} s' {b} {w} e f q = more {s = s} {t = t} {b = b} {w = w} e (rw f q)

  pub quiet_trans : {s t r : S} {u v : List ℕ} → Quiet feed full s u t → Quiet feed full t v r → Quiet feed full s (u ++ v) r
  quiet_trans (none e) q = q
  quiet_trans (more e p) q = more e (quiet_trans p q)

  pub quiet_first : {s t : S} {u : List ℕ} → Quiet feed full s u t → full s ≡ false
  quiet_first (none e) = e
  quiet_first (more e q) = e

  pub quiet_last : {s t : S} {u : List ℕ} → Quiet feed full s u t → full t ≡ false
  quiet_last (none e) = e
  quiet_last (more e q) = quiet_last q

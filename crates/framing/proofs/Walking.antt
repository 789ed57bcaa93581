-- Laws of a walk over bytes: what stopped it stays, and one behind another is the walk over both.
-- Assumes nothing.
use mathlib.Core.Path.{◌≡◌, ap, sym, ◌∙◌}
use mathlib.Core.Bool.{Bool, true, false}
use mathlib.Core.List.{List, ◌++◌}
use Prim.Native.Nat.{ℕ}
use Rattle.framing.specs.Rfc1662.{fcs}
use Rattle.framing.specs.Writer.{units, Walked}
use Rattle.framing.proofs.Run.{run_stop, run_then, units-append}
use Rattle.framing.proofs.Fcs.{fcs-append}

module _ {m : ℕ} {bs buf buf' : List ℕ} {at c at' c' : ℕ} {t : Bool} (w : Walked m bs buf at c buf' at' c' t) where
  pub walked_stop : t ≡ false → (cs : List ℕ) → Walked m (bs ++ cs) buf at c buf' at' c' t
  walked_stop e cs = record { ran = rw (units-append m bs cs) (run_stop w.ran e (units m cs)); check = λ d. cc }

  pub walked_then : {cs buf'' : List ℕ} {at'' c'' : ℕ} {t' : Bool} → t ≡ true → Walked m cs buf' at' c' buf'' at'' c'' t' → Walked m (bs ++ cs) buf at c buf'' at'' c'' t'
  walked_then {cs} e v =
      record {
        ran = rw (units-append m bs cs) (run_then w.ran e v.ran);
        check = λ d. v.check d ∙ ap (λ (s : ℕ). fcs s cs) (w.check e) ∙ sym (fcs-append c bs cs);
      }

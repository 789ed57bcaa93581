-- The refusal table of a received packet: the first row that holds, by what negotiation says of the packet.
-- Assumes nothing.
use mathlib.Core.Path.{◌≡◌, refl, sym, ◌∙◌}
use mathlib.Core.List.{List, [], ◌++◌}
use mathlib.Core.Logic.{◌⊎◌, inl, inr}
use Prim.Native.Nat.{ℕ}
use native.Mathlib.Omega.{arith}
use Rattle.std.specs.Prelude.{Result, Ok, Err}
use Rattle.options.specs.Refusal.{number_of, outcome_number, outcome_values}
use Rattle.options.specs.declared.refusal.Refusal.{Refusal}
use Rattle.options.proofs.Numbers.{not_given, silent}
use Rattle.phases.specs.Phases.{received_of}
use Rattle.phases.specs.declared.ppp.Ppp.{Ppp}
use Rattle.refusals.specs.Rows.{Row}
use Rattle.refusals.specs.Packets.{OptionFault, packet_rows}
use Rattle.refusals.proofs.Rows.{First, Each, Holds, none_first, holds-first}
use Rattle.refusals.proofs.Faults.{fault_number}
use Rattle.refusals.proofs.Causes.{number_from, short_refused, configure_refused, echo_refused, pap_refused, option_refused, option_points, reply_refused, Cause, fine, short, configure_short, echo_empty, pap_past, option, reply_long, cause}

pub refusal_some : (why : Refusal) → number_of why ≡ 0 → ⊥
refusal_some why = not_given why 0 (λ e. omega arith)

-- 7 alone tells more than its number
outcome_silent : (o : Result Unit Refusal) → (outcome_number o ≡ 7 → ⊥) → outcome_values o ≡ []
outcome_silent (Ok tt) h = refl
outcome_silent (Err why) h = silent why h

option_number : {p : Ppp} {pkt : List ℕ} {n : ℕ} → OptionFault p pkt n → (n ≡ 7) ⊎ ((n ≡ 8) ⊎ (n ≡ 9))
option_number (OptionFault.request w k n x) = fault_number x
option_number (OptionFault.answer w c k e n x) = inl refl

-- a pair, so that a fact for each row stands on a line of its own
infixr 5 ◌&◌
◌&◌ : {X Y : Type 0} → X → Y → X × Y
x & y = (x, y)

module _ {A : Type 0} (given : Type 0 → Type 0) (told : A → List ℕ) (leaves : A → Type 0) (p : Ppp) (pkt : List ℕ) (rest : List (Row A)) (a : A) where
  abbrev rows : List (Row A)
  rows = packet_rows given told leaves p pkt

  -- what holds of a number for which negotiation refuses holds of each row's
  each : (P : ℕ → Type 0) → ((n : ℕ) (c : Type 0) → (c → number_from p pkt ≡ n) → given c → P n) → Each (λ r. r.when → P r.number) rows
  each P f =
      f _ _ (short_refused p pkt)
      & f _ _ (configure_refused p pkt)
      & f _ _ (echo_refused p pkt)
      & f _ _ (λ h. pap_refused p pkt h.0 h.1)
      & f _ _ (option_refused p pkt)
      & f _ _ (option_refused p pkt)
      & f _ _ (option_refused p pkt)
      & f _ _ (reply_refused p pkt)
      & tt

  -- a packet that is not refused
  pub packet_fine : {m : ℕ} → ((c : Type 0) → given c → c × (number_from p pkt ≡ 0)) → First m a rest → First m a (rows ++ rest)
  packet_fine {m} out last = none_first m a rest rows refl (each (λ n. n ≡ 0) (λ n c k h. sym (k (out c h).0) ∙ (out c h).1)) last

  module _ (out : (c : Type 0) → given c → c) (into : (c : Type 0) → c → given c) (l : leaves a) (t : told a ≡ outcome_values (received_of p pkt).outcome) where
    quiet : (number_from p pkt ≡ 7 → ⊥) → leaves a × (told a ≡ [])
    quiet h = (l, t ∙ outcome_silent (received_of p pkt).outcome h)

    by_option : (m : ℕ) → number_from p pkt ≡ m → OptionFault p pkt m → (m ≡ 7) ⊎ ((m ≡ 8) ⊎ (m ≡ 9)) → Holds m a rows
    by_option m e x (inl n) = rw n (into _ (rw n at x), (l, rw t (option_points p pkt (rw n at x))))
    by_option m e x (inr (inl n)) = rw n (into _ (rw n at x), quiet (λ z. omega arith))
    by_option m e x (inr (inr n)) = rw n (into _ (rw n at x), quiet (λ z. omega arith))

    by_cause : (m : ℕ) → number_from p pkt ≡ m → (m ≡ 0 → ⊥) → Cause p pkt m → Holds m a rows
    by_cause m e z fine = absurd (z refl)
    by_cause m e z (short h) = (into _ h, quiet (λ k. omega arith))
    by_cause m e z (configure_short h) = (into _ h, quiet (λ k. omega arith))
    by_cause m e z (echo_empty h) = (into _ h, quiet (λ k. omega arith))
    by_cause m e z (pap_past o h) = (into _ (o, h), quiet (λ k. omega arith))
    by_cause m e z (option x) = by_option _ e x (option_number x)
    by_cause m e z (reply_long h) = (into _ h, quiet (λ k. omega arith))

    -- one that is refused
    pub packet_refused : (m : ℕ) → number_from p pkt ≡ m → (m ≡ 0 → ⊥) → First m a (rows ++ rest)
    packet_refused m e z =
        holds-first m a rest rows (each (λ n. m ≡ n) (λ n c k h. sym e ∙ k (out c h))) (by_cause m e z (rw e at (cause p pkt)))

-- Laws of a run of units: one unit, one run behind another, and its closed form.
-- Assumes nothing.
use mathlib.Core.Path.{◌≡◌, refl, ap, sym}
use mathlib.Core.Bool.{Bool, true, false, cond}
use mathlib.Core.List.{List, [], ◌∷◌, ◌++◌, append_assoc}
use Prim.Native.Nat.{ℕ, ◌+◌, ◌-◌, ◌≤◌, ◌<◌}
use native.Mathlib.Nat.{add-zero, add_assoc}
use native.Mathlib.Numerals.{add-one}
use native.Mathlib.Omega.{arith}
use borrow.Author.Tests.{le-leb, lt-leb, leb-true}
use lib.Dec.{leb}
use lib.ListN.{length, drop, get_or, length-append}
use lib.Seq.{sets, length-sets, drop-cons}
use Rattle.laws.proofs.Cases.{by_le, cond_by}
use Rattle.laws.proofs.Stores.{sets_append}
use Rattle.framing.specs.Rfc1662.{unit, stuffed}
use Rattle.framing.specs.Writer.{Out, write, Ran, units, join, fit}

-- ---- one unit

pub one_fits : (u buf : List ℕ) (at : ℕ) → at + length u ≤ length buf → Ran (u ∷ []) buf at (sets buf at u) (at + length u) true
unfolding write
one_fits u buf at h = record { same_bytes = simp (le-leb _ _ h); same_at = simp (le-leb _ _ h); same_done = simp (le-leb _ _ h) }

pub one_stops : (u buf : List ℕ) (at : ℕ) → length buf < at + length u → Ran (u ∷ []) buf at buf at false
unfolding write
one_stops u buf at h = record { same_bytes = simp (lt-leb _ _ h); same_at = simp (lt-leb _ _ h); same_done = simp (lt-leb _ _ h) }

-- nothing left to write
pub run_none : {buf : List ℕ} {at : ℕ} {t : Bool} → t ≡ true → Ran [] buf at buf at t
unfolding write
run_none e = record { same_bytes = refl; same_at = refl; same_done = e }

-- ---- one run behind another

abbrev bind : Out → (List ℕ → ℕ → Out) → Out
bind o f = cond o.done (f o.bytes o.at) o

bind_cond : (t : Bool) (a : Out) (b : List ℕ) (n : ℕ) (f : List ℕ → ℕ → Out)
    → cond t (bind a f) (record { bytes = b; at = n; done = false }) ≡ bind (cond t a (record { bytes = b; at = n; done = false })) f
bind_cond true a b n f = refl
bind_cond false a b n f = refl

write-append : (us vs : List (List ℕ)) (buf : List ℕ) (at : ℕ) → write (us ++ vs) buf at ≡ bind (write us buf at) (write vs)
unfolding write
write-append [] vs buf at = refl
write-append (u ∷ us) vs buf at =
    rw (write-append us vs (sets buf at u) (at + length u))
    (bind_cond (leb (at + length u) (length buf)) (write us (sets buf at u) (at + length u)) buf at (write vs))

-- what is left, done from here: a run that was done goes on with vs, and one that was stopped stays
abbrev pub onward : Bool → List ℕ → ℕ → List (List ℕ) → Out
onward t buf at vs = bind (record { bytes = buf; at = at; done = t }) (write vs)

-- a run, and from there what is left behind it, is the whole
pub onward_turn : {us : List (List ℕ)} {buf buf' : List ℕ} {at at' : ℕ} {t : Bool} → Ran us buf at buf' at' t → (vs : List (List ℕ)) → onward t buf' at' vs ≡ write (us ++ vs) buf at
onward_turn {us} {buf} {buf'} {at} l vs = rw (l.same_bytes, l.same_at, l.same_done) (sym (write-append us vs buf at))

ran_of : {us : List (List ℕ)} {buf₀ buf : List ℕ} {at₀ at : ℕ} {t : Bool} → record { bytes = buf; at = at; done = t } ≡ write us buf₀ at₀ → Ran us buf₀ at₀ buf at t
ran_of e = record { same_bytes = ap (λ (o : Out). o.bytes) e; same_at = ap (λ (o : Out). o.at) e; same_done = ap (λ (o : Out). o.done) e }

-- where the run was stopped, all is done
pub onward_stop : {us : List (List ℕ)} {buf₀ buf : List ℕ} {at₀ at : ℕ} {t : Bool} → (vs : List (List ℕ)) → onward t buf at vs ≡ write us buf₀ at₀ → t ≡ false → Ran us buf₀ at₀ buf at t
onward_stop vs l e = rw e (ran_of (rw e at l))

-- a run that was done goes on from where it ended, and one that was stopped stays
pub run_next : {us : List (List ℕ)} {buf buf' : List ℕ} {at at' : ℕ} {t : Bool} → Ran us buf at buf' at' t → t ≡ true → (vs : List (List ℕ)) → write (us ++ vs) buf at ≡ write vs buf' at'
run_next l e vs = sym (rw e at (onward_turn l vs))

pub run_stop : {us : List (List ℕ)} {buf buf' : List ℕ} {at at' : ℕ} {t : Bool} → Ran us buf at buf' at' t → t ≡ false → (vs : List (List ℕ)) → Ran (us ++ vs) buf at buf' at' t
run_stop l e vs = onward_stop vs (onward_turn l vs) e

-- a run that leaves what another leaves
pub run_is : {us vs : List (List ℕ)} {buf buf₀ buf' : List ℕ} {at at₀ at' : ℕ} {t : Bool} → Ran us buf at buf' at' t → write us buf at ≡ write vs buf₀ at₀ → Ran vs buf₀ at₀ buf' at' t
run_is l e = record { same_bytes = rw e at l.same_bytes; same_at = rw e at l.same_at; same_done = rw e at l.same_done }

pub run_then : {us vs : List (List ℕ)} {buf buf' buf'' : List ℕ} {at at' at'' : ℕ} {t t' : Bool} → Ran us buf at buf' at' t → t ≡ true → Ran vs buf' at' buf'' at'' t' → Ran (us ++ vs) buf at buf'' at'' t'
run_then {us} {vs} l e m = run_is m (sym (run_next l e vs))

-- ---- bytes as units

-- the first unit of what is left, in a loop over the bytes of s
pub units-drop : (m : ℕ) (s : List ℕ) (i : ℕ) → i < length s → units m (drop i s) ≡ unit m (get_or s i 0) ∷ units m (drop (i + 1) s)
unfolding units
units-drop m s i h = rw (add-one i, drop-cons s i 0 h)

pub units-append : (m : ℕ) (a b : List ℕ) → units m (a ++ b) ≡ units m a ++ units m b
unfolding units
units-append m [] b = refl
units-append m (x ∷ a) b = ap (λ (l : List (List ℕ)). unit m x ∷ l) (units-append m a b)

pub join_nil : join [] ≡ []
unfolding join
join_nil = refl

pub join_cons : (u : List ℕ) (us : List (List ℕ)) → join (u ∷ us) ≡ u ++ join us
unfolding join
join_cons u us = refl

pub join-append : (us vs : List (List ℕ)) → join (us ++ vs) ≡ join us ++ join vs
unfolding join
join-append [] vs = refl
join-append (u ∷ us) vs = rw (join-append us vs, append_assoc)

pub join-units : (m : ℕ) (bs : List ℕ) → join (units m bs) ≡ stuffed m bs
unfolding units join stuffed
join-units m [] = refl
join-units m (b ∷ bs) = ap (λ (l : List ℕ). unit m b ++ l) (join-units m bs)

-- ---- the closed form: the units that fit, as one run of stores

pub fit_le : (us : List (List ℕ)) (room : ℕ) → length (fit room us) ≤ room
unfolding fit
fit_le [] room = omega arith
fit_le (u ∷ us) room =
    let ih = fit_le us (room - length u) in
    cond_by (λ (l : List ℕ). length l ≤ room) (leb (length u) room)
    (λ e. omega (arith, length-append u (fit (room - length u) us), leb-true (length u) room e, ih))
    (λ _. omega arith)

-- where all fit, all is written
pub fit_all : (us : List (List ℕ)) (room : ℕ) → length (join us) ≤ room → fit room us ≡ join us
unfolding fit join
fit_all [] room h = refl
fit_all (u ∷ us) room h =
    let n : length u + length (join us) ≤ room = rw length-append at h in
    rw (le-leb (length u) room (omega arith), fit_all us (room - length u) (omega arith))

run_as : {us : List (List ℕ)} {buf b b' : List ℕ} {at a a' : ℕ} {t t' : Bool} → b ≡ b' → a ≡ a' → t ≡ t' → Ran us buf at b a t → Ran us buf at b' a' t'
run_as p q r l = rw (p, q, r) at l

abbrev Closed : List (List ℕ) → List ℕ → ℕ → Type 0
Closed us buf at = Ran us buf at (sets buf at (fit (length buf - at) us)) (at + length (fit (length buf - at) us)) (leb (at + length (join us)) (length buf))

pub write_closed : (us : List (List ℕ)) (buf : List ℕ) (at : ℕ) → at ≤ length buf → Closed us buf at
unfolding fit join
write_closed [] buf at h = run_as refl (sym (add-zero at)) (sym (rw add-zero (le-leb at (length buf) h))) (run_none refl)
write_closed (u ∷ us) buf at h = by_le (at + length u) (length buf) (λ p. fits p (write_closed us (sets buf at u) (at + length u) (rw length-sets p))) stops
  where
    fits : at + length u ≤ length buf → Closed us (sets buf at u) (at + length u) → Closed (u ∷ us) buf at
    fits p ih =
        let t : leb (length u) (length buf - at) ≡ true = le-leb (length u) (length buf - at) (omega arith) in
        let room : length buf - (at + length u) ≡ length buf - at - length u = omega arith in
        let r = simp (length-sets, sets_append, room) at (run_then (one_fits u buf at p) refl ih) in
        run_as (rw t) (rw (t, length-append, add_assoc)) (rw (length-append, add_assoc)) r

    stops : length buf < at + length u → Closed (u ∷ us) buf at
    stops p =
        let t : leb (length u) (length buf - at) ≡ false = lt-leb (length u) (length buf - at) (omega arith) in
        let over : length buf < at + length (u ++ join us) = rw length-append (omega arith) in
        run_as (rw t) (rw (t, add-zero)) (sym (lt-leb (at + length (u ++ join us)) (length buf) over)) (run_stop (one_stops u buf at p) refl us)

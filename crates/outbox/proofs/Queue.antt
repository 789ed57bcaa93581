-- Packets one behind the other, each behind its length, and read off again.
-- Assumes nothing.
use mathlib.Core.Path.{◌≡◌, refl, ap, ap₂, sym, ◌∙◌}
use mathlib.Core.List.{List, [], ◌∷◌, ◌++◌, append_assoc, append-nil}
use Prim.Native.Nat.{ℕ, ◌+◌, ◌*◌, ◌≤◌}
use native.Mathlib.Nat.{div-add-mod'}
use native.Mathlib.Omega.{arith}
use lib.ListN.{length, take, drop, length-append}
use lib.Seq.{take-append_seam, drop-append_seam}
use Rattle.outbox.specs.Outbox.{size_in, entry, first, behind, packets}
use Rattle.outbox.specs.History.{takes}

unfoldable pub flat : List (List ℕ) → List ℕ
flat [] = []
flat (p ∷ ps) = entry p ++ flat ps

pub flat_nil : flat [] ≡ []
unfolding flat
flat_nil = refl

-- ---- the first one

size_entry : (p c : List ℕ) → size_in (entry p ++ c) ≡ length p
size_entry p c = div-add-mod' (length p) 256

first_entry : (p c : List ℕ) → first (entry p ++ c) ≡ p
first_entry p c = ap (λ (n : ℕ). take n (p ++ c)) (size_entry p c) ∙ take-append_seam p c

behind-entry : (p c : List ℕ) → behind (entry p ++ c) ≡ c
behind-entry p c = ap (λ (n : ℕ). drop n (p ++ c)) (size_entry p c) ∙ drop-append_seam p c

pub first_flat : (p : List ℕ) (ps : List (List ℕ)) → first (flat (p ∷ ps)) ≡ p
unfolding flat
first_flat p ps = first_entry p (flat ps)

pub behind_flat : (p : List ℕ) (ps : List (List ℕ)) → behind (flat (p ∷ ps)) ≡ flat ps
unfolding flat
behind_flat p ps = behind-entry p (flat ps)

-- ---- all of them

pub packets_flat : (ps : List (List ℕ)) → packets (length ps) (flat ps) ≡ ps
unfolding packets flat
packets_flat [] = refl
packets_flat (p ∷ ps) =
    ap₂ (λ (x : List ℕ) (xs : List (List ℕ)). x ∷ xs) (first_entry p (flat ps)) (ap (packets (length ps)) (behind-entry p (flat ps)) ∙ packets_flat ps)

-- ---- one more

pub flat_snoc : (ps : List (List ℕ)) (p : List ℕ) → flat (ps ++ (p ∷ [])) ≡ flat ps ++ entry p
unfolding flat
flat_snoc [] p = append-nil (entry p)
flat_snoc (q ∷ ps) p = ap (λ (l : List ℕ). entry q ++ l) (flat_snoc ps p) ∙ sym (append_assoc (entry q) (flat ps) (entry p))

-- ---- the bytes that they take

pub flat_takes : (ps : List (List ℕ)) → length (flat ps) ≡ takes ps
unfolding flat takes
flat_takes [] = refl
flat_takes (p ∷ ps) = omega (arith, flat_takes ps, length-append (entry p) (flat ps))

pub takes_nil : takes [] ≡ 0
unfolding takes
takes_nil = refl

pub takes_cons : (p : List ℕ) (ps : List (List ℕ)) → takes (p ∷ ps) ≡ 2 + length p + takes ps
unfolding takes
takes_cons p ps = refl

pub takes-append : (ps qs : List (List ℕ)) → takes (ps ++ qs) ≡ takes ps + takes qs
unfolding takes
takes-append [] qs = omega arith
takes-append (p ∷ ps) qs = omega (arith, takes-append ps qs)

pub flat_least : (ps : List (List ℕ)) → 2 * length ps ≤ length (flat ps)
unfolding flat
flat_least [] = omega arith
flat_least (p ∷ ps) = omega (arith, flat_least ps, length-append (entry p) (flat ps))

-- Option lists that are read are RFC 1661's: the walk over a list gives its options, and is not cut exactly where the paper has a list.
-- Assumes nothing.
use Prim.Native.Nat.{ℕ, ◌+◌, ◌-◌, ◌≤◌, ◌<◌}
use mathlib.Core.Path.{◌≡◌, refl, ap, sym, subst, ◌∙◌}
use mathlib.Core.Bool.{Bool, true, false, false≢true}
use mathlib.Core.List.{List, [], ◌∷◌, ◌++◌}
use borrow.Author.Tests.{le-ltb}
use native.Mathlib.Numerals.{add-two}
use native.Mathlib.Omega.{arith}
use lib.ListN.{length, take, drop, length-append, length-drop, take-append-drop}
use lib.Seq.{length-take-le, drop-drop, take-append_seam, drop-append_seam}
use Rattle.laws.specs.Each.{Each, Bytes}
use Rattle.laws.proofs.Cases.{apart}
use Rattle.laws.proofs.Each.{each_right}
use Rattle.std.specs.Prelude.{Option as Optional, None, Some}
use Rattle.options.specs.declared.walk.Head.{Head}
use Rattle.papers.specs.Rfc1661.{Option, Options, none, more}
use Rattle.options.specs.Options.{option_of, Walk, done, cut, opt, walk_from, walk_of}
use Rattle.options.proofs.Walks.{Uncut, option_whole, walk_done, walk_cut, walk_opt}
use Rattle.papers.proofs.Layouts1661.{option_as}

-- ---- a list of the paper is walked to its end

-- the walk of these options
abbrev pub walk_options : List Option → Walk
walk_options [] = done
walk_options (o ∷ os) = opt o.type o.value (walk_options os)

-- the option at the front of a list that is laid out so
front : (c : ℕ) (d bytes : List ℕ) → option_of (c ∷ (length d + 2) ∷ (d ++ bytes)) ≡ Some (record { code = c; len = length d + 2 })
front c d bytes =
    let s = c ∷ (length d + 2) ∷ (d ++ bytes) in
    let a : 2 ≤ length s = omega arith in
    let b : length d + 2 ≤ length s = omega (arith, length-append d bytes) in
    let e : 2 ≤ length d + 2 = omega arith in
    rw (le-ltb (length s) 2 a, le-ltb (length s) (length d + 2) b, le-ltb (length d + 2) 2 e) refl

-- an option list is walked to its end, wherever it starts
pub walk_options_lem : {bytes : List ℕ} {os : List Option} (at : ℕ) → Options bytes os → walk_from at bytes ≡ walk_options os
walk_options_lem at none = walk_done at [] (omega arith)
walk_options_lem at (more {bytes} o g h p) =
    let v = o.value in
    let s = o.type ∷ (length v + 2) ∷ (v ++ bytes) in
    let m : length v + 2 - 2 ≡ length v = omega arith in
    let d : take (length v + 2 - 2) (v ++ bytes) ≡ v = rw (m, take-append_seam) refl in
    let r : drop (length v + 2) s ≡ bytes = rw (add-two, drop-append_seam) refl in
    walk_opt at s (record { code = o.type; len = length v + 2 }) (omega arith) (front o.type v bytes)
    ∙ rw (d, r, walk_options_lem (at + (length v + 2)) p) refl

-- ---- what is walked to its end is a list of the paper

-- a list by its first option
split : (s : List ℕ) (h : Head) → Uncut s h → s ≡ h.code ∷ h.len ∷ (take (h.len - 2) (drop 2 s) ++ drop h.len s)
split [] h w = absurd (omega (arith, w.head))
split (a ∷ []) h w = absurd (omega (arith, w.head))
split (a ∷ b ∷ r) h w =
    let n = h.len in
    let k : 2 + (n - 2) ≡ n = omega arith in
    let q : drop n (a ∷ b ∷ r) ≡ drop (n - 2) r = sym (drop-drop (n - 2) 2 (a ∷ b ∷ r) ∙ ap (λ (m : ℕ). drop m (a ∷ b ∷ r)) k) in
    rw (q, take-append-drop, ← w.code, ← w.size) refl

by_option : {P : Type 0} (s : List ℕ) → (option_of s ≡ None → P) → ((h : Head) → option_of s ≡ Some h → P) → P
by_option {P} s f g = go (option_of s) refl
  where
    go : (o : Optional Head) → option_of s ≡ o → P
    go None e = f e
    go (Some h) e = g h e

-- bytes that are walked as options are those options laid out
pub options_walk : (os : List Option) (at : ℕ) (s : List ℕ) → Bytes s → walk_from at s ≡ walk_options os → Options s os
options_walk [] at [] b e = none
options_walk [] at (x ∷ s) b e =
    by_option (x ∷ s) (λ f. apart (cc (walk_cut at (x ∷ s) (omega arith) f))) (λ h f. apart (cc (walk_opt at (x ∷ s) h (omega arith) f)))
options_walk (o ∷ os) at [] b e = apart (cc (walk_done at [] (omega arith)))
options_walk (o ∷ os) at (x ∷ s) b e =
    by_option (x ∷ s) (λ f. apart (cc (walk_cut at (x ∷ s) (omega arith) f)))
    (λ h f.
    let t = x ∷ s in
    let c = h.code in
    let n = h.len in
    let w = option_whole t h f in
    let d = take (n - 2) (drop 2 t) in
    let g : opt c d (walk_from (at + n) (drop n t)) ≡ walk_options (o ∷ os) = sym (walk_opt at t h (omega arith) f) ∙ e in
    let u = subst Bytes (split t h w) b in
    let y : c ≡ o.type = cc in
    let v : d ≡ o.value = cc in
    let k : length d ≡ n - 2 = length-take-le (n - 2) (drop 2 t) (rw length-drop (omega arith)) in
    let l : length o.value + 2 ≡ n = omega (arith, ap length v) in
    let p = options_walk os (at + n) (drop n t) (each_right _ d (drop n t) u.1.1) (cc) in
    let i : t ≡ o.type ∷ (length o.value + 2) ∷ (o.value ++ drop n t) = split t h w ∙ cc in
    subst (λ (y : List ℕ). Options y (o ∷ os)) (sym i) (more o (rw y at u.0) (omega (arith, u.1.0)) p))

-- the options of a walk, and whether it comes to its end
abbrev pub options_in : Walk → List Option
options_in done = []
options_in (cut at) = []
options_in (opt c d w) = option_as c d ∷ options_in w

abbrev pub is_whole : Walk → Bool
is_whole done = true
is_whole (cut at) = false
is_whole (opt c d w) = is_whole w

whole_walk : (w : Walk) → is_whole w ≡ true → w ≡ walk_options (options_in w)
whole_walk done e = refl
whole_walk (cut at) e = absurd (false≢true e)
whole_walk (opt c d w) e = ap (opt c d) (whole_walk w e)

walk_whole : (os : List Option) → is_whole (walk_options os) ≡ true
walk_whole [] = refl
walk_whole (o ∷ os) = walk_whole os

walk_back : (os : List Option) → options_in (walk_options os) ≡ os
walk_back [] = refl
walk_back (o ∷ os) = ap (λ (l : List Option). o ∷ l) (walk_back os)

-- bytes are an option list exactly where the walk over them is not cut
pub whole_options : (s : List ℕ) → Bytes s → is_whole (walk_of s) ≡ true → Options s (options_in (walk_of s))
whole_options s b e = options_walk _ 0 s b (whole_walk (walk_of s) e)

pub options_whole : {s : List ℕ} {os : List Option} → Options s os → is_whole (walk_of s) ≡ true
options_whole {s} {os} p = rw (walk_options_lem 0 p) (walk_whole os)

-- the paper reads the bytes in one way only
pub options_once : {s : List ℕ} {os ps : List Option} → Options s os → Options s ps → os ≡ ps
options_once {s} {os} {ps} p q =
    sym (walk_back os) ∙ ap options_in (sym (walk_options_lem 0 p) ∙ walk_options_lem 0 q) ∙ walk_back ps

-- the Types of a list are one octet each
abbrev pub Typed : List Option → Type 0
Typed = Each (λ o. o.type < 256)

pub options_typed : {s : List ℕ} {os : List Option} → Options s os → Typed os
options_typed none = tt
options_typed (more o h k p) = (h, options_typed p)

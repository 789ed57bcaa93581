-- Laws of the walk over a list of options: its three cases, with no word of how often it may go on.
-- Assumes nothing.
use Prim.Native.Nat.{ℕ, suc, zero, ◌+◌, ◌-◌, ◌≤◌, ◌<◌}
use mathlib.Core.Path.{◌≡◌, refl, ap, sym, ◌∙◌}
use mathlib.Core.Bool.{Bool, true, false, cond}
use mathlib.Core.List.{List, [], ◌∷◌}
use borrow.Author.Tests.{ltb-false, eqb-true, eqb-false}
use native.Mathlib.Omega.{arith}
use lib.Dec.{ltb, eqb}
use lib.ListN.{length, take, drop, get_or, length-drop}
use lib.Seq.{take_all}
use Rattle.laws.proofs.Cases.{apart}
use Rattle.std.specs.Prelude.{Option, None, Some}
use Rattle.options.specs.declared.walk.Head.{Head}
use Rattle.options.specs.Options.{option_of, Walk, done, cut, opt, walk_by, walk_in, walk_from}

-- a test that did not end in None was false
uncut : (t : Bool) (x : Option Head) (h : Head) → cond t None x ≡ Some h → (t ≡ false) × (x ≡ Some h)
uncut true x h e = apart (cc)
uncut false x h e = (refl, e)

-- an option that is not cut: its code and length, as they stand in two bytes at least
pub record Uncut (s : List ℕ) (h : Head) : Type 0 where
  pub head : 2 ≤ length s
  pub code : get_or s 0 0 ≡ h.code
  pub size : get_or s 1 0 ≡ h.len
  pub least : 2 ≤ h.len
  pub most : h.len ≤ length s

pub option_whole : (s : List ℕ) (h : Head) → option_of s ≡ Some h → Uncut s h
option_whole s h e =
    let x : Option Head = Some (record { code = get_or s 0 0; len = get_or s 1 0 }) in
    let y : Option Head = cond (ltb (get_or s 1 0) 2) None x in
    let z : Option Head = cond (ltb (length s) (get_or s 1 0)) None y in
    let t = uncut (ltb (length s) 2) z h e in
    let u = uncut (ltb (length s) (get_or s 1 0)) y h t.1 in
    let v = uncut (ltb (get_or s 1 0) 2) x h u.1 in
    let k : get_or s 1 0 ≡ h.len = cc v.1 in
    record {
      head = ltb-false (length s) 2 t.0;
      code = cc v.1;
      size = k;
      least = omega (arith, ltb-false (get_or s 1 0) 2 v.0);
      most = omega (arith, ltb-false (length s) (get_or s 1 0) u.0);
    }

pub option_len_lem : (s : List ℕ) (h : Head) → option_of s ≡ Some h → (2 ≤ h.len) × (h.len ≤ length s)
option_len_lem s h e = let o = option_whole s h e in (o.least, o.most)

-- two walks that agree on what follows the first option agree
walk_by_lem : (at : ℕ) (s : List ℕ) (o : Option Head) (f g : ℕ → List ℕ → Walk)
    → ((k : Head) → o ≡ Some k → f (at + k.len) (drop k.len s) ≡ g (at + k.len) (drop k.len s)) → walk_by at s o f ≡ walk_by at s o g
walk_by_lem at s None f g h = refl
walk_by_lem at s (Some k) f g h = ap (opt k.code (take (k.len - 2) (drop 2 s))) (h k refl)

walk_nil : (k at : ℕ) → walk_in k at [] ≡ done
unfolding walk_in
walk_nil zero at = refl
walk_nil (suc k) at = refl

-- how often it may go on makes no difference, if that is at least the number of bytes
walk_fuel : (j k at : ℕ) (s : List ℕ) → length s ≤ j → length s ≤ k → walk_in j at s ≡ walk_in k at s
unfolding walk_in
walk_fuel zero k at [] h l = sym (walk_nil k at)
walk_fuel zero k at (b ∷ bs) h l = absurd (omega arith)
walk_fuel (suc j) k at [] h l = sym (walk_nil k at)
walk_fuel (suc j) zero at (b ∷ bs) h l = absurd (omega arith)
walk_fuel (suc j) (suc k) at (b ∷ bs) h l =
    walk_by_lem at (b ∷ bs) (option_of (b ∷ bs)) (walk_in j) (walk_in k)
    (λ o e. let m = option_len_lem (b ∷ bs) o e in
    walk_fuel j k (at + o.len) (drop o.len (b ∷ bs)) (rw length-drop (omega arith)) (rw length-drop (omega arith)))

pub walk_done : (at : ℕ) (s : List ℕ) → length s ≤ 0 → walk_from at s ≡ done
unfolding walk_from walk_in
walk_done at [] h = refl
walk_done at (b ∷ bs) h = absurd (omega arith)

pub walk_cut : (at : ℕ) (s : List ℕ) → 0 < length s → option_of s ≡ None → walk_from at s ≡ cut at
unfolding walk_from walk_in
walk_cut at [] h e = absurd (omega arith)
walk_cut at (b ∷ bs) h e = rw e refl

pub walk_opt : (at : ℕ) (s : List ℕ) (h : Head) → 0 < length s → option_of s ≡ Some h
    → walk_from at s ≡ opt h.code (take (h.len - 2) (drop 2 s)) (walk_from (at + h.len) (drop h.len s))
unfolding walk_from walk_in
walk_opt at [] h k e = absurd (omega arith)
walk_opt at (b ∷ bs) h k e =
    let o = option_len_lem (b ∷ bs) h e in
    rw e (ap (opt h.code (take (h.len - 2) (drop 2 (b ∷ bs))))
    (walk_fuel (length bs) (length (drop h.len (b ∷ bs))) (at + h.len) (drop h.len (b ∷ bs)) (rw length-drop (omega arith)) (omega arith)))

-- what is left of a list behind n bytes, as a part of a slice has it
pub rest : (s : List ℕ) (n : ℕ) → take (length s - n) (drop n s) ≡ drop n s
rest s n = take_all (length s - n) (drop n s) (rw length-drop (omega arith))

-- whether bytes are left, as `is_empty` tells it
pub some_left : {t : Bool} {n : ℕ} → t ≡ eqb n 0 → t ≡ false → 0 < n
some_left {t} {n} e h = omega (arith, eqb-false n 0 (sym e ∙ h))

pub none_left : {t : Bool} {n : ℕ} → t ≡ eqb n 0 → t ≡ true → n ≤ 0
none_left {t} {n} e h = omega (arith, eqb-true n 0 (sym e ∙ h))

-- the walk of the last bytes t of k, as a loop goes on through them
abbrev pub walk_last : ℕ → List ℕ → Walk
walk_last k t = walk_from (k - length t) t

module _ (k : ℕ) (t : List ℕ) where
  pub last_done : length t ≤ 0 → walk_last k t ≡ done
  last_done = walk_done (k - length t) t

  pub last_cut : 0 < length t → option_of t ≡ None → walk_last k t ≡ cut (k - length t)
  last_cut = walk_cut (k - length t) t

  pub last_opt : (o : Head) → 0 < length t → option_of t ≡ Some o → length t ≤ k
      → walk_last k t ≡ opt o.code (take (o.len - 2) (drop 2 t)) (walk_last k (take (length t - o.len) (drop o.len t)))
  last_opt o h e l =
      let b = option_len_lem t o e in
      let m : k - length t + o.len ≡ k - (length t - o.len) = omega arith in
      walk_opt (k - length t) t o h e ∙ rw (rest t o.len, length-drop, m) refl

-- parse_options of option_fsm.rs goes through the options as our walk does.
-- Assumes nothing.
use mathlib.Core.Path.{◌≡◌, refl}
use mathlib.Core.List.{List, [], ◌∷◌}
use Prim.Native.Nat.{ℕ, zero, suc, ◌+◌, ◌-◌, ◌<◌}
use lib.Dec.{ltb}
use lib.ListN.{length, get_or, take, drop}
use Rattle.laws.specs.Each.{Bytes}
use Rattle.laws.proofs.Cases.{by_test}
use Rattle.options.specs.Options.{Walk, done, cut, opt, walk_in, walk_from, walk_of}
use Rattle.original.specs.Run.{Run, returns, panics, ◌>>=◌, Result, ok, err}
use Rattle.original.specs.Fsm.{parse_in, parse_options}
use Rattle.original.proofs.Bytes.{each_take, each_drop}

-- a closure, called with each option of a walk
abbrev pub over : {S : Type 0} → (S → ℕ → List ℕ → Run S) → S → Walk → Run (Result S)
over f s done = returns (ok s)
over f s (cut at) = returns err
over f s (opt c d w) = f s c d >>= λ t. over f t w

module _ {S : Type 0} (f : S → ℕ → List ℕ → Run S) where
  parse_in_lem : (k at : ℕ) (s : S) (pkt : List ℕ) → parse_in f k s pkt ≡ over f s (walk_in k at pkt)
  unfolding parse_in walk_in
  parse_in_lem zero at s pkt = refl
  parse_in_lem (suc k) at s [] = refl
  parse_in_lem (suc k) at s (b ∷ bs) =
      by_test (ltb (suc (length bs)) 2) (λ t. rw t refl)
      (λ t. rw t (by_test (ltb (suc (length bs)) (get_or bs 0 0)) (λ u. rw u refl)
      (λ u. rw u (by_test (ltb (get_or bs 0 0) 2) (λ v. rw v refl)
      (λ v. rw v (next (λ t. parse_in_lem k (at + get_or bs 0 0) t (drop (get_or bs 0 0) (b ∷ bs))) (f s b (take (get_or bs 0 0 - 2) (drop 2 (b ∷ bs))))))))))
    where
      next : ((t : S) → parse_in f k t (drop (get_or bs 0 0) (b ∷ bs)) ≡ over f t (walk_in k (at + get_or bs 0 0) (drop (get_or bs 0 0) (b ∷ bs)))) → (r : Run S)
          → (r >>= λ t. parse_in f k t (drop (get_or bs 0 0) (b ∷ bs))) ≡ (r >>= λ t. over f t (walk_in k (at + get_or bs 0 0) (drop (get_or bs 0 0) (b ∷ bs))))
      next ih (returns t) = ih t
      next ih (panics p) = refl

  pub parse_is : (s : S) (pkt : List ℕ) → parse_options f s pkt ≡ over f s (walk_of pkt)
  unfolding parse_options walk_from
  parse_is s pkt = parse_in_lem (length pkt) 0 s pkt

-- the options of a list of bytes hold bytes
abbrev pub ByteWalk : Walk → Type 0
ByteWalk done = Unit {0}
ByteWalk (cut at) = Unit {0}
ByteWalk (opt c d w) = (c < 256) × Bytes d × ByteWalk w

walk_in_bytes : (k at : ℕ) (s : List ℕ) → Bytes s → ByteWalk (walk_in k at s)
unfolding walk_in
walk_in_bytes zero at s h = tt
walk_in_bytes (suc k) at [] h = tt
walk_in_bytes (suc k) at (b ∷ bs) h =
    let n = get_or bs 0 0 in
    let rest = walk_in_bytes k (at + n) (drop n (b ∷ bs)) (each_drop (λ x. x < 256) n (b ∷ bs) h) in
    let value = each_take (λ x. x < 256) (n - 2) (drop 2 (b ∷ bs)) (each_drop (λ x. x < 256) 2 (b ∷ bs) h) in
    by_test (ltb (suc (length bs)) 2) (λ t. rw t tt)
    (λ t. rw t (by_test (ltb (suc (length bs)) n) (λ u. rw u tt)
    (λ u. rw u (by_test (ltb n 2) (λ v. rw v tt) (λ v. rw v (h.0, value, rest))))))

pub walk_bytes : (s : List ℕ) → Bytes s → ByteWalk (walk_of s)
unfolding walk_from
walk_bytes s h = walk_in_bytes (length s) 0 s h

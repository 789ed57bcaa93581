-- Laws of the options that a Nack or a Rej names.
-- Assumes nothing.
use Prim.Native.Nat.{ℕ, ◌-◌, ◌≤◌, ◌<◌}
use mathlib.Core.Path.{◌≡◌, refl}
use mathlib.Core.Bool.{Bool}
use mathlib.Core.List.{List}
use lib.ListN.{length, take, drop}
use Rattle.std.specs.Prelude.{None, Some, Ok, Err}
use Rattle.options.specs.declared.walk.Head.{Head}
use Rattle.options.specs.declared.proto.Proto.{Proto}
use Rattle.options.specs.declared.refusal.Refusal.TheVariants.{OptionCut}
use Rattle.options.specs.Options.{option_of}
use Rattle.options.specs.Proto.{own_nacked, nacks_of}
use Rattle.options.proofs.Walks.{walk_last, last_done, last_cut, last_opt}

-- the three ways on from a protocol p with the last options t of k bytes to come
module _ (rej : Bool) (p : Proto) (k : ℕ) (t : List ℕ) where
  pub nacks_done : length t ≤ 0 → nacks_of rej p (walk_last k t) ≡ record { outcome = Ok tt; proto = p }
  unfolding nacks_of
  nacks_done h = rw (last_done k t h) refl

  pub nacks_cut : 0 < length t → option_of t ≡ None
      → nacks_of rej p (walk_last k t) ≡ record { outcome = Err (OptionCut (k - length t)); proto = p }
  unfolding nacks_of
  nacks_cut h e = rw (last_cut k t h e) refl

  pub nacks_on : (q : Proto) (o : Head) → 0 < length t → option_of t ≡ Some o → length t ≤ k
      → q ≡ own_nacked p o.code (take (o.len - 2) (drop 2 t)) rej
      → nacks_of rej p (walk_last k t) ≡ nacks_of rej q (walk_last k (take (length t - o.len) (drop o.len t)))
  unfolding nacks_of
  nacks_on q o h e l f = rw (last_opt k t o h e l, f) refl

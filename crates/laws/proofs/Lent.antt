-- A part of a buffer, lent and written over whole, is a run of stores.
-- Assumes nothing.
use mathlib.Core.Path.{◌≡◌, refl}
use mathlib.Core.List.{List, append_assoc}
use Prim.Native.Nat.{ℕ, ◌+◌, ◌-◌, ◌≤◌}
use native.Mathlib.Omega.{arith}
use borrow.Rule.Slice.PartMut.{put_mid}
use lib.ListN.{length}
use lib.Seq.{sets, sets-eq, drop-drop}

pub put_sets : (us l : List ℕ) (i : ℕ) {w : List ℕ} → w ≡ us → i + length us ≤ length l → put_mid i (i + length us - i) l w ≡ sets l i us
put_sets us l i {w} e h =
    let m : i + length us - i ≡ length us = omega arith in
    rw (e, m, sets-eq us l i h, drop-drop (length us) i l, append_assoc) refl

-- What the counts say, all of it.
-- Assumes nothing.
use mathlib.Core.Path.{◌≡◌, ap}
use mathlib.Core.Bool.{false}
use mathlib.Core.List.{List, ◌++◌}
use Prim.Native.Nat.{ℕ, ◌≤◌}
use lib.ListN.{length}
use Rattle.framing.specs.Reader.{Held, full, consumed}
use Rattle.framing.specs.Heard.{fetched_in}
use Rattle.framing.specs.Drops.{together, dropped, missed}
use Rattle.framing.specs.declared.drops.Drops.{Drops}
use Rattle.framing.proofs.Reader.{consumed-fed}
use Rattle.framing.proofs.Dropping.{dropped-drops, dropped_cut, missed_fed_more}
use Rattle.counts.specs.Counts.{Adds, Counting}
use Rattle.counts.proofs.Ends.{each_end}
use Rattle.counts.proofs.Flags.{flags, silent}
use Rattle.counts.proofs.Told.{call_told}

adds : (c d : Drops) {sum : Drops} → sum ≡ together c d → Adds c d sum
adds c d e =
    record {
      aborted = ap (λ (x : Drops). x.aborted) e;
      short = ap (λ (x : Drops). x.short) e;
      control = ap (λ (x : Drops). x.control) e;
      check = ap (λ (x : Drops). x.check) e;
      overrun = ap (λ (x : Drops). x.overrun) e;
    }

cut : (s : Held) (a b : List ℕ) → Adds (dropped s a) (dropped (consumed s a).now ((consumed s a).left ++ b)) (dropped s (a ++ b))
cut s a b = adds (dropped s a) (dropped (consumed s a).now ((consumed s a).left ++ b)) (dropped_cut s a b)

fetched : (s : Held) (a b : List ℕ) → s.reader.len ≤ length s.buf → full s ≡ false
    → Adds (dropped s a) (missed (fetched_in (consumed s a).now) ((consumed s a).left ++ b)) (missed s (a ++ b))
fetched s a b h e = rw (dropped-drops s a h, consumed-fed s a h) (adds _ _ (missed_fed_more s a b e))

pub counting : Counting
counting = record { told = call_told; cut = cut; fetched = fetched; flags = flags; each_end = each_end; silent = silent }

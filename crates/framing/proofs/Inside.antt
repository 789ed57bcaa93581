-- The reader inside a frame, in either reading: it keeps what RFC 1662's receiver reads, where room is left.
-- Assumes nothing.
use mathlib.Core.Path.{◌≡◌, refl, ◌∙◌}
use mathlib.Core.Bool.{Bool, true, false, cond, ◌&&◌}
use mathlib.Core.List.{List, [], ◌∷◌}
use Prim.Native.Nat.{ℕ, suc, ◌+◌, ◌≤◌, ◌<◌}
use native.Mathlib.Omega.{arith}
use native.Mathlib.Nat.{add-zero, zero-add, add-suc, suc-add}
use native.Mathlib.Numerals.{add-one}
use borrow.Author.Tests.{ne_eqb, lt-ltb, le-ltb}
use lib.Dec.{eqb}
use lib.ListN.{length, take, set, length-set}
use lib.Seq.{sets}
use lib.Bits.{bit_xor}
use Rattle.laws.specs.Each.{Without}
use Rattle.laws.specs.Quiet.{Quiet, none}
use Rattle.laws.proofs.Cases.{by_le, neither}
use Rattle.laws.proofs.Quiet.{quiet_step}
use Rattle.laws.proofs.Stores.{take_sets}
use Rattle.framing.specs.Rfc1662.{unescaped, aborted}
use Rattle.framing.specs.Reader.{is_crate, fresh_reader, next, fault_in, is_good, marks, Held, held, stored, step, full}
use Rattle.framing.specs.Paper.{doubled}
use Rattle.framing.specs.declared.frame_reader.State.TheVariants.{Address, Data, Complete}
use Rattle.framing.specs.declared.frame_reader.Reading.{Reading}

-- inside a frame, n bytes kept
abbrev pub inside : Reading → Bool → ℕ → List ℕ → Held
inside k e n buf = held (next (fresh_reader k) Data e n) buf

-- ---- one byte that is no flag

-- the byte b is taken as the byte x, whatever is kept
abbrev Taken : Reading → Bool → ℕ → ℕ → Type 0
Taken k e b x = (n : ℕ) (buf : List ℕ) → step (inside k e n buf) b ≡ stored (inside k e n buf) x

module _ (k : Reading) (b : ℕ) (no_flag : b ≡ 0x7E → ⊥) where
  step_mark : eqb b 0x7D ≡ true → (n : ℕ) (buf : List ℕ) → step (inside k false n buf) b ≡ inside k true n buf
  unfolding step
  step_mark e n buf = rw (ne_eqb b 0x7E no_flag, e)

  step_plain : eqb b 0x7D ≡ false → Taken k false b b
  unfolding step
  step_plain e n buf = rw (ne_eqb b 0x7E no_flag, e)

  step-behind : eqb b 0x7D && is_crate k ≡ false → Taken k true b (bit_xor b 0x20)
  unfolding step
  step-behind e n buf =
      let unmarked : marks (inside k true n buf).reader b ≡ false = e in
      rw (ne_eqb b 0x7E no_flag, unmarked)

-- in state Start nothing but a flag counts
pub start_quiet : (k : Reading) (buf w : List ℕ) → Without 0x7E w → Quiet step full (held (fresh_reader k) buf) w (held (fresh_reader k) buf)
unfolding step
start_quiet k buf [] f = none refl
start_quiet k buf (b ∷ w) f = quiet_step step full (held (fresh_reader k) buf) refl (rw (ne_eqb b 0x7E f.0)) (start_quiet k buf w f.1)

-- ---- a run of bytes that are no flags

-- off w, from escape e on, the bytes l are read, and escape a is left
data Reads (k : Reading) : Bool → List ℕ → List ℕ → Bool → Type 0 where
  end : {e : Bool} → Reads k e [] [] e
  mark : {b : ℕ} {w l : List ℕ} {a : Bool} → ((n : ℕ) (buf : List ℕ) → step (inside k false n buf) b ≡ inside k true n buf)
      → Reads k true w l a → Reads k false (b ∷ w) l a
  byte : {e : Bool} {b x : ℕ} {w l : List ℕ} {a : Bool} → Taken k e b x → Reads k false w l a → Reads k e (b ∷ w) (x ∷ l) a

read_off : (k : Reading) (e : Bool) (w : List ℕ) → Without 0x7E w → is_crate k && doubled e w ≡ false → Reads k e w (unescaped e w) (aborted e w)
unfolding unescaped aborted doubled
read_off k e [] f d = end
read_off k true (b ∷ w) f d =
    let n = neither (is_crate k) (eqb b 0x7D) (doubled false w) d in
    byte (step-behind k b f.0 n.0) (read_off k false w f.1 n.1)
read_off k false (b ∷ w) f d = go (eqb b 0x7D) refl d (λ e c. read_off k e w f.1 c)
  where
    go : (t : Bool) → eqb b 0x7D ≡ t → is_crate k && doubled t w ≡ false
        → ((e : Bool) → is_crate k && doubled e w ≡ false → Reads k e w (unescaped e w) (aborted e w))
        → Reads k false (b ∷ w) (cond t (unescaped true w) (b ∷ unescaped false w)) (aborted t w)
    go true q c r = mark (step_mark k b f.0 q) (r true c)
    go false q c r = byte (step_plain k b f.0 q) (r false c)

-- a byte that is kept
store : (k : Reading) (e : Bool) (n : ℕ) (buf : List ℕ) (x : ℕ) {b : ℕ} {w : List ℕ} {t : Held} → Taken k e b x → n < length buf
    → Quiet step full (inside k false (suc n) (set buf n x)) w t → Quiet step full (inside k e n buf) (b ∷ w) t
store k e n buf x q h r = quiet_step step full (inside k false (suc n) (set buf n x)) refl (q n buf ∙ rw (lt-ltb n (length buf) h, add-one n)) r

-- where there is room, all of it is kept
kept_by : {k : Reading} {e a : Bool} {w l : List ℕ} → Reads k e w l a → (n : ℕ) (buf : List ℕ) → n + length l ≤ length buf
    → Quiet step full (inside k e n buf) w (inside k a (n + length l) (sets buf n l))
kept_by end n buf h = rw (add-zero n) (none refl)
kept_by {k} (mark q r) n buf h = quiet_step step full (inside k true n buf) refl (q n buf) (kept_by r n buf h)
kept_by {k} (byte {e = e} {x = x} {l = l} q r) n buf h =
    rw (add-suc n (length l), ← suc-add n (length l))
    (store k e n buf x q (omega arith) (kept_by r (suc n) (set buf n x) (simp length-set (omega arith))))

-- the reader gave up: it waits for a flag, with nothing kept
pub record Lost (k : Reading) (room : ℕ) (s : Held) (w : List ℕ) : Type 0 where
  pub now : List ℕ
  pub quiet : Quiet step full s w (held (fresh_reader k) now)
  pub same_room : length now ≡ room

-- where room runs out, all of it is lost
lost_by : {k : Reading} {e a : Bool} {w l : List ℕ} → Reads k e w l a → (n : ℕ) (buf : List ℕ) → Without 0x7E w → n ≤ length buf → length buf < n + length l
    → Lost k (length buf) (inside k e n buf) w
lost_by end n buf f g h = absurd (omega arith)
lost_by {k} (mark q r) n buf f g h =
    let t = lost_by r n buf f.1 g h in
    record { now = t.now; quiet = quiet_step step full (inside k true n buf) refl (q n buf) t.quiet; same_room = t.same_room }
lost_by {k} (byte {e = e} {x = x} {w = w} q r) n buf f g h =
    by_le (suc n) (length buf)
    (λ i.
    let t = lost_by r (suc n) (set buf n x) f.1 (simp length-set i) (simp length-set (omega arith)) in
    record { now = t.now; quiet = store k e n buf x q i t.quiet; same_room = t.same_room ∙ length-set buf n x })
    (λ i.
    let out = q n buf ∙ rw (le-ltb n (length buf) (omega arith)) in
    record { now = buf; quiet = quiet_step step full (held (fresh_reader k) buf) refl out (start_quiet k buf w f.1); same_room = refl })

module _ (k : Reading) (e : Bool) (w : List ℕ) (n : ℕ) (buf : List ℕ) (no_flag : Without 0x7E w) (no_double : is_crate k && doubled e w ≡ false) where
  pub keeps : n + length (unescaped e w) ≤ length buf
      → Quiet step full (inside k e n buf) w (inside k (aborted e w) (n + length (unescaped e w)) (sets buf n (unescaped e w)))
  keeps h = kept_by (read_off k e w no_flag no_double) n buf h

  pub loses : n ≤ length buf → length buf < n + length (unescaped e w) → Lost k (length buf) (inside k e n buf) w
  loses g h = lost_by (read_off k e w no_flag no_double) n buf no_flag g h

-- ---- the closing flag

-- an escape is open: the frame is aborted whatever is kept, except in crate reading
pub closes_open : (k : Reading) (n : ℕ) (buf : List ℕ) → is_crate k ≡ false → step (inside k true n buf) 0x7E ≡ held (next (fresh_reader k) Address false 0) buf
unfolding step
closes_open k n buf e = rw e

-- the reader that keeps a good frame
abbrev pub whole : Reading → List ℕ → List ℕ → Held
whole k l buf = held (next (fresh_reader k) Complete false (length l)) (sets buf 0 l)

module _ (k : Reading) (l buf : List ℕ) (room : length l ≤ length buf) where
  kept : take (length l) (sets buf 0 l) ≡ l
  kept = rw zero-add at (take_sets l buf 0 (simp zero-add room))

  pub closes : is_good (fault_in l) ≡ true → step (inside k false (length l) (sets buf 0 l)) 0x7E ≡ whole k l buf
  unfolding step
  closes e = rw (kept, e)

  pub closes_bad : is_good (fault_in l) ≡ false → step (inside k false (length l) (sets buf 0 l)) 0x7E
      ≡ held (next (fresh_reader k) Address false (cond (is_crate k) (length l) 0)) (sets buf 0 l)
  unfolding step
  closes_bad e = rw (kept, e)

-- Every frame end is handed out or counted in one of the first four.
-- Assumes nothing.
use mathlib.Core.Path.{◌≡◌, refl}
use mathlib.Core.Bool.{false, cond, ◌&&◌, true≢false}
use mathlib.Core.List.{List, [], ◌∷◌}
use Prim.Native.Nat.{ℕ, ◌+◌}
use native.Mathlib.Omega.{arith}
use lib.Dec.{ltb, eqb}
use lib.ListN.{length, get_or, take, length-append}
use Rattle.laws.proofs.Cases.{by_test, cond_all}
use Rattle.framing.specs.Rfc1662.{fcs}
use Rattle.std.specs.Prelude.{Option}
use Rattle.framing.specs.Reader.{is_complete, is_good, next, aborts, escape_after, len_after, fault_in, fault_of, marks, Held, held, step_by, step, full}
use Rattle.framing.specs.Heard.{packets_in, fetched_in, heard}
use Rattle.framing.specs.Drops.{one_drop, fault_by, fault_at, ends_of, missed}
use Rattle.framing.specs.declared.drops.Fault.{Fault}
use Rattle.framing.specs.declared.frame_reader.State.{State}
use Rattle.framing.specs.declared.frame_reader.State.TheVariants.{Start, Address, Data, Complete}
use Rattle.framing.proofs.Heard.{fetched_open}
use Rattle.counts.specs.Counts.{is_data, ends}

-- a frame end with the fault f
abbrev end_with : Held → Option Fault → Held
end_with s f =
    held
    (cond (is_good f) (next s.reader Complete (escape_after s.reader) s.reader.len) (next s.reader Address (escape_after s.reader) (len_after s.reader)))
    s.buf

-- is one: no frame end has the fault of a byte without room
end_one : (s : Held) → 1 ≡ length (packets_in (end_with s (fault_of s.reader s.buf))) + ends_of (one_drop (fault_of s.reader s.buf))
unfolding fault_in
end_one s =
    let l = take s.reader.len s.buf in
    let P : Option Fault → Type 0 = λ f. 1 ≡ length (packets_in (end_with s f)) + ends_of (one_drop f) in
    cond_all P (aborts s.reader) refl
    (cond_all P (ltb (length l) 3) refl
    (by_test (eqb (get_or l 0 0) 0x03)
    (λ t. rw t (by_test (eqb (fcs 0x00FF l) 0xF0B8) (λ u. rw u) (λ u. rw u)))
    (λ t. rw t)))

byte_by : (st : State) (s : Held) (b : ℕ) → is_complete st ≡ false
    → cond (is_data st && eqb b 0x7E) 1 0 ≡ length (packets_in (step_by st s b)) + ends_of (one_drop (fault_by st s b))
byte_by Start s b e = by_test (eqb b 0x7E) (λ t. rw t) (λ t. rw t)
byte_by Address s b e = by_test (eqb b 0xFF) (λ t. rw t) (λ t. rw t (by_test (eqb b 0x7E) (λ u. rw u) (λ u. rw u)))
byte_by Data s b e =
    by_test (eqb b 0x7E)
    (λ t. rw t (end_one s))
    (λ t.
    by_test (marks s.reader b)
    (λ u. rw (t, u))
    (λ u. by_test (ltb s.reader.len (length s.buf)) (λ v. rw (t, u, v)) (λ v. rw (t, u, v))))
byte_by Complete s b e = absurd (true≢false e)

byte_end : (s : Held) (b : ℕ) → full s ≡ false
    → cond (is_data s.reader.state && eqb b 0x7E) 1 0 ≡ length (packets_in (step s b)) + ends_of (one_drop (fault_at s b))
unfolding step fault_at
byte_end s b e = byte_by s.reader.state s b e

pub each_end : (s : Held) (bs : List ℕ) → full s ≡ false → ends s bs ≡ length (heard s bs).packets + ends_of (missed s bs)
unfolding ends heard missed
each_end s [] e = refl
each_end s (b ∷ bs) e =
    let t = fetched_in (step s b) in
    let ih = each_end t bs (fetched_open (step s b)) in
    omega (arith, byte_end s b e, ih, length-append (packets_in (step s b)) (heard t bs).packets)

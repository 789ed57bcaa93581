-- Laws of the status lines: texts one behind the other in a buffer, and how long each can be.
-- Assumes nothing.
use mathlib.Core.Path.{◌≡◌, refl, ◌∙◌}
use mathlib.Core.Bool.{Bool, true, false, cond}
use mathlib.Core.List.{List, [], ◌++◌}
use Prim.Native.Nat.{ℕ, ◌+◌, ◌-◌, ◌/◌, ◌%◌, ◌≤◌, ◌<◌}
use native.Mathlib.Omega.{arith}
use borrow.Rule.Slice.PartMut.{put_mid}
use borrow.Author.Tests.{leb-true, le-leb, lt-leb}
use lib.Dec.{ltb, leb, lit≤}
use lib.ListN.{length, take, replicate, length-append, length-replicate}
use lib.Seq.{take-append_seam}
use Rattle.std.specs.Prelude.{Option, Some, None, Result, Ok, Err}
use Rattle.laws.proofs.Cases.{by_test, cond_by, cond_all}
use Rattle.laws.proofs.Lent.{put_sets}
use Rattle.laws.proofs.Stores.{sets_append, sets_front, take_sets}
use Rattle.phases.specs.declared.ppp.Phase.{Phase}
use Rattle.phases.specs.declared.ppp.Phase.TheVariants.{Dead, Establish, Auth, Network, Open}
use Rattle.phases.specs.declared.ppp.Addresses.{Addresses}
use Rattle.phases.specs.declared.ppp.Status.{Status}
use Rattle.status_lines.specs.declared.status.Fields.{Fields}
use Rattle.status_lines.specs.Lines.{phase_name, up_name, decimal, dotted, address_text, address_line, address_key, peer_key, dns1_key, dns2_key, head_of, six_lines, fields_with, fields_of, lines_of, max_lines, Puts, Shows}
use Rattle.framing.specs.Refusal.{count_of}
use Rattle.framing.specs.declared.refusal.Refusal.TheVariants.{BufferFull}
use Rattle.framing.specs.declared.refusal.Refusal.{Refusal}

-- a text copied over a part of a buffer
pub copied : (src buf : List ℕ) {w : List ℕ} (at : ℕ) → w ≡ src → at + length src ≤ length buf
    → Puts src buf at (at + length src) (put_mid at (at + length src - at) buf w)
copied src buf at e h = record { ends = refl; bytes = put_sets src buf at e h }

-- a text behind another
pub joined : {x y buf mid buf' : List ℕ} {at i end : ℕ} → Puts x buf at i mid → Puts y mid i end buf' → Puts (x ++ y) buf at end buf'
joined {x} {y} {buf} {mid} {buf'} {at} p q = record { ends = rw length-append (omega arith); bytes = cc (sets_append x y buf at) }

-- ---- lengths

decimal_short : (n : ℕ) → length (decimal n) ≤ 3
unfolding decimal
decimal_short n =
    cond_all (λ (l : List ℕ). length l ≤ 3) (ltb n 10)
    (lit≤ tt)
    (cond_all (λ (l : List ℕ). length l ≤ 3) (ltb n 100) (lit≤ tt) (lit≤ tt))

dotted_short : (a : ℕ) → length (dotted a) ≤ 15
unfolding dotted
dotted_short a =
    simp length-append
    (omega (arith, decimal_short (a / 16777216 % 256), decimal_short (a / 65536 % 256), decimal_short (a / 256 % 256), decimal_short (a % 256)))

pub address_short : (a : Option ℕ) → length (address_text a) ≤ 15
address_short None = lit≤ tt
address_short (Some a) = dotted_short a

pub phase_short : (f : Phase) → length (phase_name f) ≤ 9
phase_short Dead = lit≤ tt
phase_short Establish = lit≤ tt
phase_short Auth = lit≤ tt
phase_short Network = lit≤ tt
phase_short Open = lit≤ tt

pub up_short : (b : Bool) → length (up_name b) ≤ 4
up_short true = lit≤ tt
up_short false = lit≤ tt

pub line_short : (key : List ℕ) (a : Option ℕ) → length (address_line key a) ≤ length key + 16
unfolding address_line
line_short key a = simp length-append (omega (arith, address_short a))

-- "none"
none_short : (key : List ℕ) → length (address_line key None) ≤ length key + 5
unfolding address_line
none_short key = simp length-append (omega arith)

head_length : (f : Phase) (up : Bool) → length (head_of f up) ≡ length (phase_name f) + (length (up_name up) + 13)
unfolding head_of
head_length f up = simp length-append (omega arith)

pub head_short : (f : Phase) (up : Bool) → length (head_of f up) ≤ 26
head_short f up = omega (arith, head_length f up, phase_short f, up_short up)

pub lines_short : (s : Status) → length (lines_of s) ≤ max_lines
unfolding six_lines
lines_short s = go s.phase s.ipv4
  where
    go : (f : Phase) (i : Option Addresses) → length (six_lines (fields_with f i)) ≤ max_lines
    go f None =
        simp length-append
        (omega (arith, head_length f false, phase_short f, none_short address_key, none_short peer_key, none_short dns1_key, none_short dns2_key))
    go f (Some a) =
        simp length-append
        (omega (
          arith,
          head_length f true,
          phase_short f,
          line_short address_key a.address,
          line_short peer_key a.peer_address,
          line_short dns1_key a.dns_server_1,
          line_short dns2_key a.dns_server_2,
        ))

-- ---- what `lines` promises

pub lines_count : {f : Fields} {buf text : List ℕ} {end : ℕ} (s : Status) → f ≡ fields_of s → Puts (six_lines f) buf 0 end text → end ≡ length (lines_of s)
lines_count s e p = let q = rw e at p in omega (arith, q.ends)

-- what an array of 113 bytes, room for any fields, holds of them
pub lines_front : {f : Fields} {text : List ℕ} {end : ℕ} (s : Status) → f ≡ fields_of s → Puts (six_lines f) (replicate 113 0) 0 end text
    → take end text ≡ lines_of s
lines_front s e p =
    let q = rw e at p in
    rw (q.ends, q.bytes, take_sets (lines_of s) (replicate 113 0) 0 (rw length-replicate (omega (arith, lines_short s))))

pub lines_shown : {text buf buf' : List ℕ} {n : ℕ} (s : Status) → text ≡ lines_of s → length (lines_of s) ≤ length buf
    → Puts text buf 0 n buf' → Shows s buf (Ok n) buf'
lines_shown {buf = buf} s f k p =
    let e = le-leb (length (lines_of s)) (length buf) k in
    let q = rw f at p in
    record { number = rw e; count = rw e (omega (arith, q.ends)); bytes = rw e (q.bytes ∙ sets_front (lines_of s) buf k) }

-- Each promise admits one answer: two answers to the same input are equal, and so is what they leave.
-- Assumes nothing.
use mathlib.Core.Path.{◌≡◌, refl, ap, ap₂, sym, ◌∙◌}
use mathlib.Core.Bool.{Bool, true, false, cond}
use mathlib.Core.List.{List}
use Prim.Native.Nat.{ℕ, ◌-◌}
use native.Mathlib.Omega.{arith}
use Rattle.std.specs.Prelude.{Some, None, Result, Ok, Err}
use lib.ListN.{length}
use Rattle.framing.specs.Rfc1662.{frame}
use Rattle.framing.specs.Refusal.{number_of, outcome_number, count_of}
use Rattle.framing.specs.Writer.{holds, Writes, Lays, Encodes}
use Rattle.framing.specs.Reader.{Held, is_short, consumed, Consumes, Got, got_range, Receives}
use Rattle.framing.specs.declared.refusal.Refusal.{Refusal}
use Rattle.framing.specs.declared.refusal.Refusal.TheVariants.{BufferFull, BufferShort, FrameShort}
use Rattle.framing.specs.declared.frame_writer.FrameWriter.{FrameWriter}
use Rattle.framing.specs.declared.frame_reader.FrameReader.{FrameReader}

-- a refusal is told by its number, and none has the number 0
numbers_differ : (x y : Refusal) → number_of x ≡ number_of y → x ≡ y
numbers_differ BufferFull BufferFull e = refl
numbers_differ BufferFull BufferShort e = absurd (omega arith)
numbers_differ BufferFull FrameShort e = absurd (omega arith)
numbers_differ BufferShort BufferFull e = absurd (omega arith)
numbers_differ BufferShort BufferShort e = refl
numbers_differ BufferShort FrameShort e = absurd (omega arith)
numbers_differ FrameShort BufferFull e = absurd (omega arith)
numbers_differ FrameShort BufferShort e = absurd (omega arith)
numbers_differ FrameShort FrameShort e = refl

number_some : (x : Refusal) → number_of x ≡ 0 → ⊥
number_some BufferFull e = omega arith
number_some BufferShort e = omega arith
number_some FrameShort e = omega arith

-- two answers of one number and one count
pub outcomes_differ : (a b : Result Unit Refusal) → outcome_number a ≡ outcome_number b → a ≡ b
outcomes_differ (Ok a) (Ok b) e = refl
outcomes_differ (Ok a) (Err y) e = absurd (number_some y (sym e))
outcomes_differ (Err x) (Ok b) e = absurd (number_some x e)
outcomes_differ (Err x) (Err y) e = ap Err (numbers_differ x y e)

pub counts_differ : (a b : Result ℕ Refusal) → outcome_number a ≡ outcome_number b → count_of a ≡ count_of b → a ≡ b
counts_differ (Ok a) (Ok b) e f = ap Ok f
counts_differ (Ok a) (Err y) e f = absurd (number_some y (sym e))
counts_differ (Err x) (Ok b) e f = absurd (number_some x e)
counts_differ (Err x) (Err y) e f = ap Err (numbers_differ x y e)

pub gots_differ : (g h : Got) → outcome_number g ≡ outcome_number h → got_range g ≡ got_range h → g ≡ h
gots_differ (Ok (Some r)) (Ok (Some s)) e f =
    let a : r.start ≡ s.start = cc in
    let b : r.end ≡ s.end = cc in
    ap₂ (λ (x y : ℕ). Ok (Some (record { start = x; end = y }))) a b
gots_differ (Ok (Some r)) (Ok None) e f = absurd (let z : ◌≡◌ {A = ℕ} 0 1 = cc in omega arith)
gots_differ (Ok None) (Ok (Some s)) e f = absurd (let z : ◌≡◌ {A = ℕ} 0 1 = cc in omega arith)
gots_differ (Ok None) (Ok None) e f = refl
gots_differ (Ok a) (Err y) e f = absurd (number_some y (sym e))
gots_differ (Err x) (Ok b) e f = absurd (number_some x e)
gots_differ (Err x) (Err y) e f = ap Err (numbers_differ x y e)

pub writes_one : {us : List (List ℕ)} {full crc : ℕ} {w : FrameWriter} {buf : List ℕ} {o₁ o₂ : Result Unit Refusal} {w₁ w₂ : FrameWriter} {b₁ b₂ : List ℕ}
    → Writes us full crc w buf o₁ w₁ b₁ → Writes us full crc w buf o₂ w₂ b₂ → (o₁ ≡ o₂) × (w₁ ≡ w₂) × (b₁ ≡ b₂)
writes_one {o₁ = o₁} {o₂ = o₂} p q = (outcomes_differ o₁ o₂ (p.number ∙ sym q.number), p.writer ∙ sym q.writer, p.bytes ∙ sym q.bytes)

pub lays_one : {m : ℕ} {p buf : List ℕ} {n₁ n₂ : ℕ} {b₁ b₂ : List ℕ} → Lays m p buf n₁ b₁ → Lays m p buf n₂ b₂ → (n₁ ≡ n₂) × (b₁ ≡ b₂)
lays_one p q = (p.count ∙ sym q.count, p.bytes ∙ sym q.bytes)

pub encodes_one : {m : ℕ} {p buf : List ℕ} {r₁ r₂ : Result ℕ Refusal} {b₁ b₂ : List ℕ}
    → Encodes m p buf r₁ b₁ → Encodes m p buf r₂ b₂ → (r₁ ≡ r₂) × (b₁ ≡ b₂)
encodes_one {r₁ = r₁} {r₂ = r₂} p q =
    let l = lays_one p.lays q.lays in
    (counts_differ r₁ r₂ (p.number ∙ sym q.number) l.0, l.1)

-- the whole answer of the two calls that count
encoded : (t : Bool) (n : ℕ) → (outcome_number (cond t (Ok n) (Err BufferFull)) ≡ cond t 0 1) × (count_of (cond t (Ok n) (Err BufferFull)) ≡ cond t n 0)
encoded true n = (refl, refl)
encoded false n = (refl, refl)

pub encodes_is : {m : ℕ} {p buf : List ℕ} {r : Result ℕ Refusal} {buf' : List ℕ}
    → Encodes m p buf r buf' → r ≡ cond (holds m p (length buf)) (Ok (length (frame m p))) (Err BufferFull)
encodes_is {m} {p} {buf} {r} e =
    let k = encoded (holds m p (length buf)) (length (frame m p)) in
    counts_differ r _ (e.number ∙ sym k.0) (e.lays.count ∙ sym k.1)

taken : (t : Bool) (n : ℕ) → (t ≡ true → n ≡ 0)
    → (outcome_number (cond t (Err BufferShort) (Ok n)) ≡ cond t 3 0) × (count_of (cond t (Err BufferShort) (Ok n)) ≡ n)
taken true n e = (refl, sym (e refl))
taken false n e = (refl, refl)

none_taken : (s : Held) (bs : List ℕ) → is_short s ≡ true → length bs - length (consumed s bs).left ≡ 0
unfolding consumed
none_taken s bs e = rw e (omega arith)

pub consumes_is : {s : Held} {bs : List ℕ} {t : Result ℕ Refusal} {r : FrameReader} {buf : List ℕ}
    → Consumes s bs t r buf → t ≡ cond (is_short s) (Err BufferShort) (Ok (length bs - length (consumed s bs).left))
consumes_is {s} {bs} {t} c =
    let k = taken (is_short s) (length bs - length (consumed s bs).left) (none_taken s bs) in
    counts_differ t _ (c.number ∙ sym k.0) (c.count ∙ sym k.1)

pub consumes_one : {s : Held} {bs : List ℕ} {t₁ t₂ : Result ℕ Refusal} {r₁ r₂ : FrameReader} {b₁ b₂ : List ℕ}
    → Consumes s bs t₁ r₁ b₁ → Consumes s bs t₂ r₂ b₂ → (t₁ ≡ t₂) × (r₁ ≡ r₂) × (b₁ ≡ b₂)
consumes_one {t₁ = t₁} {t₂ = t₂} p q =
    (counts_differ t₁ t₂ (p.number ∙ sym q.number) (p.count ∙ sym q.count), p.reader ∙ sym q.reader, p.bytes ∙ sym q.bytes)

pub receives_one : {r : FrameReader} {g₁ g₂ : Got} {r₁ r₂ : FrameReader} → Receives r g₁ r₁ → Receives r g₂ r₂ → (g₁ ≡ g₂) × (r₁ ≡ r₂)
receives_one {g₁ = g₁} {g₂ = g₂} p q = (gots_differ g₁ g₂ (p.number ∙ sym q.number) (p.range ∙ sym q.range), p.reader ∙ sym q.reader)

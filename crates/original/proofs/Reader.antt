-- The calls of frame_reader.rs, one by one, are those of our reader in crate reading.
-- Assumes nothing.
use mathlib.Core.Path.{◌≡◌, refl, ap, ◌∙◌}
use mathlib.Core.Bool.{Bool, true, false, cond, not, ◌&&◌, ◌||◌, and-false}
use mathlib.Core.List.{List, [], ◌∷◌}
use Prim.Native.Nat.{ℕ, suc, ◌+◌, ◌-◌, ◌^◌, ◌≤◌, ◌<◌}
use native.Mathlib.Omega.{arith}
use borrow.Author.Tests.{le-leb, lt-leb, lt-ltb, le-ltb, ne_eqb}
use lib.Bits.{bit_xor, xor_lt}
use lib.Dec.{ltb, leb, eqb, lit<}
use lib.ListN.{length, get_or, take, length-take}
use lib.Seq.{get_or-take}
use Rattle.std.specs.Prelude.{None, Some, Result, Ok}
use Rattle.laws.specs.Each.{Bytes}
use Rattle.laws.proofs.Cases.{by_le, by_test, cond_all}
use Rattle.framing.specs.Refusal.{outcome_number, count_of}
use Rattle.framing.specs.Reader as ours
use Rattle.framing.specs.declared.frame_reader.State as reading
use Rattle.framing.specs.declared.frame_reader.Reading.{Reading}
use Rattle.framing.specs.declared.frame_reader.Reading.TheVariants.{Crate}
use Rattle.framing.specs.declared.frame_reader.FrameReader as reader
use Rattle.framing.specs.declared.drops.Fault.TheVariants.{Short, Control, Check}
use Rattle.framing.specs.declared.refusal.Refusal.{Refusal}
use Rattle.framing.proofs.OneAnswer.{gots_differ}
use Rattle.framing.proofs.Reader.{Kept, step_kept, fed_left_le, consumed-fed, receives_done}
use Rattle.framing.proofs.SameReading.{step_reading, fed_reading}
use Rattle.original.specs.Run.{Run, returns, ◌>>=◌}
use Rattle.original.specs.Crc.{crc16}
use Rattle.original.specs.Framing.{Fed, feed_in, end_of, fed_to, store_of, usize_max, is_complete, consume_from, consume, nothing, range, receive, Address, Complete, Consumed}
use Rattle.original.specs.View.{view_reading, view_reader}
use Rattle.original.specs.SameFraming.{fetch_of}
use Rattle.original.proofs.Crc.{same-crc16}
use Rattle.original.proofs.Bytes.{each_take, each_set}

-- a reader in crate reading over a buffer of n bytes that has what it keeps
pub record Steady (n : ℕ) (s : ours.Held) : Type 0 where
  pub kept : Kept n s
  pub crate_reading : s.reader.reading ≡ Crate
  pub bytes : Bytes s.buf

abbrev fed_of : ours.Held → Fed
fed_of s = record { reader = view_reader s.reader; buf = s.buf }

-- ---- one byte

-- a frame's end
module _ (r : reader.FrameReader) (buf : List ℕ) (within : r.len ≤ length buf) (crate : r.reading ≡ Crate) (bytes : Bytes buf) where
  kept_length : length (take r.len buf) ≡ r.len
  kept_length = omega (arith, length-take r.len buf)

  unaborted : ours.aborts r ≡ false
  unaborted = ap (λ (k : Reading). r.escape && not (ours.is_crate k)) crate ∙ and-false r.escape

  -- the three tests, with the crate's check value
  fault_is : ours.fault_of r buf
      ≡ cond (ltb r.len 3) (Some Short) (cond (not (eqb (get_or (take r.len buf) 0 0) 0x03)) (Some Control) (cond (not (eqb (crc16 0x00FF (take r.len buf)) 0xF0B8)) (Some Check) None))
  unfolding ours.fault_in
  fault_is = rw (unaborted, kept_length, same-crc16 0x00FF (take r.len buf) (each_take (λ b. b < 256) r.len buf bytes)) refl

  end_is : end_of (view_reader r) buf ≡ returns (fed_of (ours.held (ours.ended r buf) buf))
  end_is =
      by_le 3 r.len
      (λ h. let first : get_or (take r.len buf) 0 0 ≡ get_or buf 0 0 = get_or-take r.len buf 0 0 (omega arith) in
      rw (fault_is, first, crate, le-ltb r.len 3 h, ne_eqb (length buf) 0 (λ e. omega arith), le-ltb (length buf) r.len within)
      (go (eqb (get_or buf 0 0) 0x03) (eqb (crc16 0x00FF (take r.len buf)) 0xF0B8)))
      (λ h. rw (fault_is, crate, lt-ltb r.len 3 h) (stay r.escape))
    where
      stay : (e : Bool) → ◌≡◌ {A = Run Fed} (returns (record { reader = record { state = Address; escape = e; len = r.len }; buf = buf }))
          (returns (record { reader = record { state = Address; escape = e && true; len = r.len }; buf = buf }))
      stay true = refl
      stay false = refl

      left : reading.State → reader.FrameReader
      left s = ours.next (ours.fresh_reader Crate) s (r.escape && true) r.len

      go : (s t : Bool)
          → cond (not s) (fed_to Address (view_reader r) buf) (fed_to (cond t Complete Address) (view_reader r) buf)
          ≡ returns (fed_of (ours.held (cond (ours.is_good (cond (not s) (Some Control) (cond (not t) (Some Check) None))) (left reading.TheVariants.Complete) (left reading.TheVariants.Address)) buf))
      go true true = by_test r.escape (λ e. rw e refl) (λ e. rw e refl)
      go true false = stay r.escape
      go false t = stay r.escape

  -- a byte to be stored
  store_is : (b : ℕ) → length buf < 2 ^ 64 → r.state ≡ reading.TheVariants.Data → store_of (view_reader r) buf b ≡ fed_of (ours.stored (ours.held r buf) b)
  store_is b big e =
      by_le (length buf) r.len
      (λ h. rw (full h, le-ltb r.len (length buf) h) refl)
      (λ h. rw (e, ne_eqb r.len usize_max (λ z. omega arith), lt-leb (length buf) r.len h, lt-ltb r.len (length buf) h) refl)
    where
      full : length buf ≤ r.len → eqb r.len usize_max || leb (length buf) r.len ≡ true
      full h = rw (le-leb (length buf) r.len h) (by_test (eqb r.len usize_max) (λ t. rw t refl) (λ t. rw t refl))

  byte_is : (b : ℕ) → length buf < 2 ^ 64 → (s : reading.State) → r.state ≡ s
      → feed_in (view_reading s) (view_reader r) buf b ≡ returns (fed_of (ours.step_by s (ours.held r buf) b))
  byte_is b big reading.TheVariants.Start e = by_test (eqb b 0x7E) (λ t. rw t refl) (λ t. rw t refl)
  byte_is b big reading.TheVariants.Address e = by_test (eqb b 0xFF) (λ t. rw t refl) (λ t. rw t (by_test (eqb b 0x7E) (λ u. rw u refl) (λ u. rw u refl)))
  byte_is b big reading.TheVariants.Data e =
      by_test (eqb b 0x7E) (λ t. rw t end_is)
      (λ t. rw t (by_test (eqb b 0x7D)
      (λ u. rw (u, crate, e) (by_test r.escape (λ v. rw v refl) (λ v. rw v refl)))
      (λ u. rw u (ap returns (store_is (cond r.escape (bit_xor b 0x20) b) big e)))))
  byte_is b big reading.TheVariants.Complete e = rw e refl

-- ---- what a byte keeps

bytes_kept : (s : reading.State) (h : ours.Held) (b : ℕ) → Bytes h.buf → b < 256 → Bytes (ours.step_by s h b).buf
bytes_kept reading.TheVariants.Start h b k l = k
bytes_kept reading.TheVariants.Address h b k l = k
bytes_kept reading.TheVariants.Data h b k l =
    let P : ours.Held → Type 0 = λ x. Bytes x.buf in
    let small : ours.plain_of h.reader b < 256 = cond_all (λ (x : ℕ). x < 256) h.reader.escape (xor_lt 8 b 0x20 l (lit< tt)) l in
    cond_all P (eqb b 0x7E) k
    (cond_all P (ours.marks h.reader b) k
    (cond_all P (ltb h.reader.len (length h.buf)) (each_set (λ x. x < 256) h.buf h.reader.len (ours.plain_of h.reader b) k small) k))
bytes_kept reading.TheVariants.Complete h b k l = k

step_steady : (n : ℕ) (s : ours.Held) (b : ℕ) → b < 256 → Steady n s → Steady n (ours.step s b)
unfolding ours.step
step_steady n s b l p =
    record {
      kept = step_kept n s b p.kept;
      crate_reading = step_reading s b ∙ p.crate_reading;
      bytes = bytes_kept s.reader.state s b p.bytes l;
    }

-- ---- a run of bytes

pub complete_is : (s : reading.State) → is_complete (view_reading s) ≡ ours.is_complete s
complete_is reading.TheVariants.Start = refl
complete_is reading.TheVariants.Address = refl
complete_is reading.TheVariants.Data = refl
complete_is reading.TheVariants.Complete = refl

-- what a run leaves, as the original's answer
abbrev ran_to : ℕ → List ℕ → ours.Fed → Run Consumed
ran_to i bs f = returns (record { count = i + (length bs - length f.left); reader = view_reader f.now.reader; buf = f.now.buf })

pub fed_is : (n i : ℕ) (s : ours.Held) (bs : List ℕ) → n < 2 ^ 64 → Steady n s → Bytes bs
    → consume_from i (view_reader s.reader) s.buf bs ≡ ran_to i bs (ours.fed s bs)
unfolding consume_from ours.fed ours.step
fed_is n i s [] big p h = let e : i + (0 - 0) ≡ i = omega arith in rw e refl
fed_is n i s (b ∷ bs) big p h =
    rw (complete_is s.reader.state)
    (by_test (ours.is_complete s.reader.state)
    (λ t. let e : i + (suc (length bs) - suc (length bs)) ≡ i = omega arith in rw t (rw e refl))
    (λ t. rw t (step ∙ fed_is n (i + 1) (ours.step s b) bs big (step_steady n s b h.0 p) h.1 ∙ counted (ours.fed (ours.step s b) bs) (fed_left_le (ours.step s b) bs))))
  where
    step : (feed_in (view_reading s.reader.state) (view_reader s.reader) s.buf b >>= λ f. consume_from (i + 1) f.reader f.buf bs)
        ≡ consume_from (i + 1) (view_reader (ours.step s b).reader) (ours.step s b).buf bs
    step =
        ap (λ (x : Run Fed). x >>= λ f. consume_from (i + 1) f.reader f.buf bs)
        (byte_is s.reader s.buf (omega (arith, p.kept.room, p.kept.within)) p.crate_reading p.bytes b (omega (arith, p.kept.room)) s.reader.state refl)

    counted : (f : ours.Fed) → length f.left ≤ length bs → ran_to (i + 1) bs f ≡ ran_to i (b ∷ bs) f
    counted f l = let e : i + 1 + (length bs - length f.left) ≡ i + (suc (length bs) - length f.left) = omega arith in rw e refl

-- ---- the calls

-- what our consume promises, in crate reading, is what the original does
module _ (r : reader.FrameReader) (buf bs : List ℕ) (crate : r.reading ≡ Crate) (room : r.len ≤ length buf) (big : length buf < 2 ^ 64) (bytes : Bytes buf) (given : Bytes bs) where
  pub same-consume : {t : Result ℕ Refusal} {r' : reader.FrameReader} {buf' : List ℕ} → ours.Consumes (ours.held r buf) bs t r' buf'
      → (outcome_number t ≡ 0) × (consume (view_reader r) buf bs ≡ returns (record { count = count_of t; reader = view_reader r'; buf = buf' })) × (r'.reading ≡ Crate)
  same-consume c =
      let steady : Steady (length buf) (ours.held r buf) = record { kept = record { room = refl; within = room }; crate_reading = crate; bytes = bytes } in
      let now = consumed-fed (ours.held r buf) bs room in (
        c.number ∙ rw (le-ltb (length buf) r.len room) refl,
        fed_is (length buf) 0 (ours.held r buf) bs big steady given
            ∙ rw (c.count, c.reader, c.bytes, now) (let e : 0 + (length bs - length (ours.fed (ours.held r buf) bs).left) ≡ length bs - length (ours.fed (ours.held r buf) bs).left = omega arith in rw e refl),
        rw (c.reader, now) (fed_reading (ours.held r buf) bs ∙ crate),
      )

-- what our receive promises: the packet's range, or nothing; a complete frame with under three bytes kept is refusal 5 here
pub receive_is : (r : reader.FrameReader) → ours.Framed r
    → receive (view_reader r) ≡ returns (cond (ours.is_complete r.state) (range 1 (r.len - 2) (view_reader (ours.fetched r))) (nothing (view_reader r)))
unfolding receive
receive_is r h =
    rw (complete_is r.state)
    (by_test (ours.is_complete r.state) (λ t. rw (t, le-ltb r.len 2 (omega (arith, h t))) refl) (λ t. rw t refl))

pub same-receive : {r r' : reader.FrameReader} {g : ours.Got} → ours.Receives r g r' → ours.Framed r
    → (outcome_number g ≡ 0) × (receive (view_reader r) ≡ returns (fetch_of g (view_reader r'))) × (r'.reading ≡ r.reading)
same-receive {r} {r'} {g} c h = (
  receives_done h c,
  receive_is r h
      ∙ by_test (ours.is_complete r.state)
      (λ t.
      let p : ours.Got = Ok (Some (record { start = 1; end = r.len - 2 })) in
      let k : g ≡ p = gots_differ g p (c.number ∙ rw (t, le-ltb r.len 3 (h t)) refl) (c.range ∙ rw (t, le-leb 3 r.len (h t)) refl) in
      rw (t, k, c.reader, t) refl)
      (λ t.
      let k : g ≡ Ok None = gots_differ g (Ok None) (c.number ∙ rw t refl) (c.range ∙ rw t refl) in
      rw (t, k, c.reader, t) refl),
  rw c.reader (cond_all (λ (x : reader.FrameReader). x.reading ≡ r.reading) (ours.is_complete r.state) refl refl),
)

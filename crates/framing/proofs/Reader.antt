-- Laws of the reader's definitions, over both readings.
-- Assumes nothing.
use mathlib.Core.Path.{◌≡◌, refl, sym, ap, ap₂, subst, ◌∙◌}
use mathlib.Core.Bool.{true, false, cond, false≢true}
use mathlib.Core.List.{List, [], ◌∷◌, ◌++◌}
use Prim.Native.Nat.{ℕ, suc, ◌+◌, ◌-◌, ◌≤◌, ◌<◌}
use native.Mathlib.Omega.{arith}
use native.Mathlib.Numerals.{add-one}
use borrow.Author.Tests.{ltb-true, lt-ltb, le-ltb}
use denote.Enum.Bare.{sameb}
use lib.Dec.{ltb, eqb}
use lib.ListN.{length, get_or, take, drop, length-take, length-drop, length-set, take-append-drop, drop_of_length-le}
use lib.Seq.{drop-cons, take-suc-set}
use Rattle.laws.specs.Quiet.{Quiet, none, more}
use Rattle.laws.proofs.Cases.{by_test, by_le, cond_by, cond_all, cond_both}
use Rattle.laws.proofs.Parts.{same_part}
use Rattle.std.specs.Prelude.{Some, Result, Ok, Err}
use Rattle.framing.specs.Refusal.{outcome_number, count_of}
use Rattle.framing.specs.Reader.{is_crate, is_complete, fresh_reader, next, moved, marks, plain_of, escape_after, len_after, aborts, fault_in, fault_of, is_good, ended, Held, held, stored, step_by, step, full, Fed, fed, is_short, consumed, Consumes, Framed, packet_of, Got, Receives}
use Rattle.framing.specs.declared.refusal.Refusal.TheVariants.{BufferShort}
use Rattle.framing.specs.declared.refusal.Refusal.{Refusal}
use Rattle.framing.specs.contracts.frame_reader.State.{the_type}
use Rattle.framing.specs.declared.frame_reader.State.{State}
use Rattle.framing.specs.declared.frame_reader.State.TheVariants.{Start, Address, Data, Complete}
use Rattle.framing.specs.declared.frame_reader.FrameReader.{FrameReader}
use Rattle.framing.specs.declared.drops.Fault.TheVariants.{Aborted}
use Rattle.framing.specs.declared.frame_reader.Reading.{Reading}

-- the code's test
pub complete_same : (s : State) → sameb the_type s Complete ≡ is_complete s
complete_same Start = refl
complete_same Address = refl
complete_same Data = refl
complete_same Complete = refl

-- ---- the kept length stays within the buffer

-- the buffer has l bytes, and the kept ones are within it
pub record Kept (l : ℕ) (s : Held) : Type 0 where
  pub room : length s.buf ≡ l
  pub within : s.reader.len ≤ l

module _ (l : ℕ) where
  ended_kept : (s : Held) → Kept l s → Kept l (held (ended s.reader s.buf) s.buf)
  ended_kept s h =
      cond_all (λ (r : FrameReader). Kept l (held r s.buf)) (is_good (fault_of s.reader s.buf))
      (record { room = h.room; within = h.within })
      (record { room = h.room; within = cond_all (λ (n : ℕ). n ≤ l) (is_crate s.reader.reading) h.within (omega arith) })

  stored_kept : (s : Held) (b : ℕ) → Kept l s → Kept l (stored s b)
  stored_kept s b h =
      cond_by (Kept l) (ltb s.reader.len (length s.buf))
      (λ t. record { room = length-set s.buf s.reader.len b ∙ h.room; within = omega (arith, ltb-true s.reader.len (length s.buf) t) })
      (λ t. record { room = h.room; within = omega arith })

  step_by_kept : (st : State) (s : Held) (b : ℕ) → Kept l s → Kept l (step_by st s b)
  step_by_kept Start s b h = record { room = h.room; within = h.within }
  step_by_kept Address s b h = record { room = h.room; within = h.within }
  step_by_kept Data s b h =
      cond_all (Kept l) (eqb b 0x7E) (ended_kept s h)
      (cond_all (Kept l) (marks s.reader b) (record { room = h.room; within = h.within }) (stored_kept s (plain_of s.reader b) h))
  step_by_kept Complete s b h = h

  pub step_kept : (s : Held) (b : ℕ) → Kept l s → Kept l (step s b)
  unfolding step
  step_kept s b h = step_by_kept s.reader.state s b h

  pub fed_kept : (s : Held) (bs : List ℕ) → Kept l s → Kept l (fed s bs).now
  unfolding fed
  fed_kept s [] h = h
  fed_kept s (b ∷ bs) h = cond_all (λ (f : Fed). Kept l f.now) (full s) h (fed_kept (step s b) bs (step_kept s b h))

-- ---- a complete frame has three bytes or more, so refusal 5 is for records that no calls reach

good_long : (n : ℕ) (l : List ℕ) → is_good (fault_in (take n l)) ≡ true → 3 ≤ n
unfolding fault_in
good_long n l e =
    by_le 3 (length (take n l))
    (λ h. omega (arith, length-take n l))
    (λ h. absurd (false≢true (rw (lt-ltb (length (take n l)) 3 h) at e)))

-- a test that is false
never : {P : Type 0} → false ≡ true → P
never e = absurd (false≢true e)

-- where a frame end is good, so are the kept bytes
good_kept : (r : FrameReader) (buf : List ℕ) → is_good (fault_of r buf) ≡ true → is_good (fault_in (take r.len buf)) ≡ true
good_kept r buf e = by_test (aborts r) (λ t. never (rw t at e)) (λ t. rw t at e)

step_by_framed : (st : State) (s : Held) (b : ℕ) → Framed s.reader → Framed (step_by st s b).reader
step_by_framed Start s b h = cond_all (λ (t : State). Framed (moved s.reader t)) (eqb b 0x7E) never never
step_by_framed Address s b h =
    cond_all (λ (t : State). Framed (moved s.reader t)) (eqb b 0xFF) never
    (cond_all (λ (t : State). Framed (moved s.reader t)) (eqb b 0x7E) never never)
step_by_framed Data s b h =
    cond_all (λ (t : Held). Framed t.reader) (eqb b 0x7E)
    (cond_by Framed (is_good (fault_of s.reader s.buf)) (λ t _. good_long s.reader.len s.buf (good_kept s.reader s.buf t)) (λ _. never))
    (cond_all (λ (t : Held). Framed t.reader) (marks s.reader b) never
    (cond_all (λ (t : Held). Framed t.reader) (ltb s.reader.len (length s.buf)) never never))
step_by_framed Complete s b h = h

pub step_framed : (s : Held) (b : ℕ) → Framed s.reader → Framed (step s b).reader
unfolding step
step_framed s b h = step_by_framed s.reader.state s b h

pub fed_framed : (s : Held) (bs : List ℕ) → Framed s.reader → Framed (fed s bs).now.reader
unfolding fed
fed_framed s [] h = h
fed_framed s (b ∷ bs) h = cond_all (λ (f : Fed). Framed f.now.reader) (full s) h (fed_framed (step s b) bs (step_framed s b h))

pub receives_done : {r r' : FrameReader} {g : Got} → Framed r → Receives r g r' → outcome_number g ≡ 0
receives_done {r} h k =
    k.number
    ∙ by_test (is_complete r.state) (λ t. rw (t, le-ltb r.len 3 (h t))) (λ t. rw t)

pub fresh_framed : (k : Reading) → Framed (fresh_reader k)
fresh_framed k = never

pub receives_framed : {r r' : FrameReader} {g : Got} → Receives r g r' → Framed r'
receives_framed {r} k = rw k.reader (cond_by Framed (is_complete r.state) (λ _. never) (λ t e. never (sym t ∙ e)))

-- ---- a run of bytes

pub fed_nil : (s : Held) → fed s [] ≡ record { now = s; left = [] }
unfolding fed
fed_nil s = refl

pub fed-step : (s : Held) (b : ℕ) (bs : List ℕ) → full s ≡ false → fed s (b ∷ bs) ≡ fed (step s b) bs
unfolding fed
fed-step s b bs e = rw e

-- a complete frame stops it
pub fed_stop : (s : Held) (bs : List ℕ) → full s ≡ true → fed s bs ≡ record { now = s; left = bs }
unfolding fed
fed_stop s [] e = refl
fed_stop s (b ∷ bs) e = rw e

-- what a loop over the bytes of bs uses: at index i, and past the end
pub fed-next : (s : Held) (i : ℕ) (bs : List ℕ) → i < length bs → full s ≡ false → fed s (drop i bs) ≡ fed (step s (get_or bs i 0)) (drop (i + 1) bs)
fed-next s i bs h e = rw (add-one, drop-cons bs i 0 h) (fed-step s (get_or bs i 0) (drop (suc i) bs) e)

pub fed_end : (s : Held) (i : ℕ) (bs : List ℕ) → length bs ≤ i → fed s (drop i bs) ≡ record { now = s; left = drop i bs }
fed_end s i bs h = rw (drop_of_length-le bs h) (fed_nil s)

-- cuts do not matter: what is left is handed in again, with what follows
pub fed_cut : (s : Held) (a b : List ℕ) → fed s (a ++ b) ≡ fed (fed s a).now ((fed s a).left ++ b)
unfolding fed
fed_cut s [] b = refl
fed_cut s (x ∷ a) b =
    let ih = fed_cut (step s x) a b in
    by_test (full s) (λ e. rw (fed_stop s (x ∷ a) e)) (λ e. rw (fed-step s x (a ++ b) e, fed-step s x a e) ih)

-- quiet bytes are all consumed
pub fed_quiet : {s t : Held} {w : List ℕ} → Quiet step full s w t → (rest : List ℕ) → fed s (w ++ rest) ≡ fed t rest
unfolding fed
fed_quiet (none e) rest = refl
fed_quiet (more e q) rest = rw e (fed_quiet q rest)

-- ---- what is left is what stands behind the bytes that are counted

pub fed_left_le : (s : Held) (bs : List ℕ) → length (fed s bs).left ≤ length bs
unfolding fed
fed_left_le s [] = omega arith
fed_left_le s (b ∷ bs) =
    cond_all (λ (f : Fed). length f.left ≤ suc (length bs)) (full s) (omega arith) (omega (arith, fed_left_le (step s b) bs))

pub fed_left : (s : Held) (bs : List ℕ) → (fed s bs).left ≡ drop (length bs - length (fed s bs).left) bs
unfolding fed
fed_left s [] = refl
fed_left s (b ∷ bs) =
    let ih = fed_left (step s b) bs in
    let le = fed_left_le (step s b) bs in
    cond_all (λ (f : Fed). f.left ≡ drop (suc (length bs) - length f.left) (b ∷ bs)) (full s)
    (let e : suc (length bs) - suc (length bs) ≡ 0 = omega arith in rw e)
    (let e : suc (length bs) - length (fed (step s b) bs).left ≡ suc (length bs - length (fed (step s b) bs).left) = omega arith in rw e ih)

-- ---- a call

pub consumed_short : (s : Held) (bs : List ℕ) → length s.buf < s.reader.len → consumed s bs ≡ record { now = s; left = bs }
unfolding consumed
consumed_short s bs h = rw (lt-ltb (length s.buf) s.reader.len h)

pub consumed-fed : (s : Held) (bs : List ℕ) → s.reader.len ≤ length s.buf → consumed s bs ≡ fed s bs
unfolding consumed
consumed-fed s bs h = rw (le-ltb (length s.buf) s.reader.len h)

pub consumed_kept : (l : ℕ) (s : Held) (bs : List ℕ) → Kept l s → Kept l (consumed s bs).now
unfolding consumed
consumed_kept l s bs h = cond_all (λ (f : Fed). Kept l f.now) (is_short s) h (fed_kept l s bs h)

pub consumed_framed : (s : Held) (bs : List ℕ) → Framed s.reader → Framed (consumed s bs).now.reader
unfolding consumed
consumed_framed s bs h = cond_all (λ (f : Fed). Framed f.now.reader) (is_short s) h (fed_framed s bs h)

-- cuts do not matter to calls either
pub consumed_cut : (s : Held) (a b : List ℕ) → consumed s (a ++ b) ≡ consumed (consumed s a).now ((consumed s a).left ++ b)
consumed_cut s a b =
    by_le s.reader.len (length s.buf)
    (λ h.
    let k = fed_kept (length s.buf) s a (record { room = refl; within = h }) in
    rw (consumed-fed s (a ++ b) h, consumed-fed s a h, consumed-fed (fed s a).now ((fed s a).left ++ b) (omega arith)) (fed_cut s a b))
    (λ h. rw (consumed_short s a h))

pub consumed_left : (s : Held) (bs : List ℕ) → (consumed s bs).left ≡ drop (length bs - length (consumed s bs).left) bs
unfolding consumed
consumed_left s bs =
    cond_all (λ (f : Fed). f.left ≡ drop (length bs - length f.left) bs) (is_short s)
    (let e : length bs - length bs ≡ 0 = omega arith in rw e)
    (fed_left s bs)

-- the bytes counted and the bytes left are the bytes handed in
pub consumed_split : (s : Held) (bs : List ℕ) → take (length bs - length (consumed s bs).left) bs ++ (consumed s bs).left ≡ bs
consumed_split s bs =
    ap (λ (l : List ℕ). take (length bs - length (consumed s bs).left) bs ++ l) (consumed_left s bs)
    ∙ take-append-drop (length bs - length (consumed s bs).left) bs

-- a call that is refused, and one that stops at index i
pub consumes_short : (s : Held) (bs : List ℕ) → length s.buf < s.reader.len → Consumes s bs (Err BufferShort) s.reader s.buf
consumes_short s bs h =
    let e = consumed_short s bs h in
    record {
      number = rw (lt-ltb (length s.buf) s.reader.len h);
      count = rw e (omega arith);
      reader = rw e;
      bytes = rw e;
    }

pub consumes_at : (s t : Held) (i : ℕ) (bs : List ℕ) → s.reader.len ≤ length s.buf → i ≤ length bs → fed s bs ≡ record { now = t; left = drop i bs } → Consumes s bs (Ok i) t.reader t.buf
consumes_at s t i bs h k f =
    let e = consumed-fed s bs h ∙ f in
    record {
      number = rw (le-ltb (length s.buf) s.reader.len h);
      count = rw e (omega (arith, length-drop i bs));
      reader = rw e;
      bytes = rw e;
    }

-- what a call's count says
module _ {s : Held} {bs : List ℕ} {t : Result ℕ Refusal} {r : FrameReader} {buf : List ℕ} (h : Consumes s bs t r buf) where
  pub count_le : count_of t ≤ length bs
  count_le = omega (arith, h.count)

  pub count_left : (consumed s bs).left ≡ drop (count_of t) bs
  count_left = rw h.count (consumed_left s bs)

  pub call_now : (consumed s bs).now ≡ held r buf
  call_now = ap₂ held (sym h.reader) (sym h.bytes)

-- ---- bytes behind the kept length change no later answer

-- the same reader, over buffers of the same length that hold the same kept bytes
pub record Alike (s t : Held) : Type 0 where
  pub same_reader : s.reader ≡ t.reader
  pub same_room : length s.buf ≡ length t.buf
  pub same_kept : take s.reader.len s.buf ≡ take s.reader.len t.buf

pub alike_refl : (s : Held) → Alike s s
alike_refl s = record { same_reader = refl; same_room = refl; same_kept = refl }

-- the same at a reader r, over x and y, for the steps
module _ (x y : List ℕ) (e : length x ≡ length y) where
  pair : (r : FrameReader) → take r.len x ≡ take r.len y → Alike (held r x) (held r y)
  pair r q = record { same_reader = refl; same_room = e; same_kept = q }

  ended_alike : (r : FrameReader) → take r.len x ≡ take r.len y → Alike (held (ended r x) x) (held (ended r y) y)
  ended_alike r q =
      cond_both (λ (a b : FrameReader). Alike (held a x) (held b y)) (ap (λ (l : List ℕ). is_good (cond (aborts r) (Some Aborted) (fault_in l))) q)
      (λ _. pair (next r Complete (escape_after r) r.len) q)
      (λ _. pair (next r Address (escape_after r) (len_after r)) (cond_all (λ (n : ℕ). take n x ≡ take n y) (is_crate r.reading) q refl))

  stored_alike : (r : FrameReader) (b : ℕ) → take r.len x ≡ take r.len y → Alike (stored (held r x) b) (stored (held r y) b)
  stored_alike r b q =
      cond_both Alike (ap (ltb r.len) e)
      (λ t.
      let h = ltb-true r.len (length x) t in
      record {
        same_reader = refl;
        same_room = length-set x r.len b ∙ e ∙ sym (length-set y r.len b);
        same_kept = rw (add-one r.len, take-suc-set x r.len b h, take-suc-set y r.len b (omega arith), q);
      })
      (λ t. pair (next r Start false 0) refl)

  step_by_alike : (st : State) (r : FrameReader) (b : ℕ) → take r.len x ≡ take r.len y → Alike (step_by st (held r x) b) (step_by st (held r y) b)
  step_by_alike Start r b q = pair (moved r (cond (eqb b 0x7E) Address Start)) q
  step_by_alike Address r b q = pair (moved r (cond (eqb b 0xFF) Data (cond (eqb b 0x7E) Address Start))) q
  step_by_alike Data r b q =
      cond_both Alike {t = eqb b 0x7E} refl (λ _. ended_alike r q)
      (λ _. cond_both Alike {t = marks r b} refl
      (λ _. pair (next r Data true r.len) q)
      (λ _. stored_alike r (plain_of r b) q))
  step_by_alike Complete r b q = pair r q

pub step_alike : (s t : Held) (b : ℕ) → Alike s t → Alike (step s b) (step t b)
unfolding step
step_alike s t b h =
    subst (λ (r : FrameReader). Alike (step s b) (step (held r t.buf) b)) h.same_reader
    (step_by_alike s.buf t.buf h.same_room s.reader.state s.reader b h.same_kept)

-- what is left is the same, and what is left behind is alike
pub record FedAlike (f g : Fed) : Type 0 where
  pub same_left : f.left ≡ g.left
  pub same_now : Alike f.now g.now

pub full_alike : (s t : Held) → Alike s t → full s ≡ full t
full_alike s t h = ap (λ (r : FrameReader). is_complete r.state) h.same_reader

pub fed_alike : (s t : Held) (bs : List ℕ) → Alike s t → FedAlike (fed s bs) (fed t bs)
unfolding fed
fed_alike s t [] h = record { same_left = refl; same_now = h }
fed_alike s t (b ∷ bs) h =
    let ih = fed_alike (step s b) (step t b) bs (step_alike s t b h) in
    cond_both FedAlike (full_alike s t h) (λ _. record { same_left = refl; same_now = h }) (λ _. ih)

pub consumed_alike : (s t : Held) (bs : List ℕ) → Alike s t → FedAlike (consumed s bs) (consumed t bs)
unfolding consumed
consumed_alike s t bs h =
    cond_both FedAlike (ap₂ ltb h.same_room (ap (λ (r : FrameReader). r.len) h.same_reader))
    (λ _. record { same_left = refl; same_now = h })
    (λ _. fed_alike s t bs h)

pub packet_alike : (s t : Held) → Alike s t → packet_of s ≡ packet_of t
packet_alike s t h =
    same_part s.reader.len 1 (s.reader.len - 2 - 1) s.buf t.buf (omega arith) h.same_kept
    ∙ ap (λ (r : FrameReader). take (r.len - 2 - 1) (drop 1 t.buf)) h.same_reader

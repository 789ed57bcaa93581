-- The first option at fault, as document 01 has it, is the one that the walk refuses; where it is cut, at the offset that document 02 wants.
-- Assumes nothing.
use mathlib.Core.Path.{◌≡◌, refl, ap, sym, ◌∙◌}
use mathlib.Core.Bool.{Bool, true, false, cond, false≢true}
use mathlib.Core.List.{List, [], ◌∷◌}
use mathlib.Core.Logic.{◌⊎◌, inl, inr}
use Prim.Native.Nat.{ℕ, zero, suc, ◌+◌, ◌-◌, ◌≤◌, ◌<◌}
use native.Mathlib.Nat.{add-zero, zero-add, add_assoc}
use native.Mathlib.Omega.{arith}
use borrow.Author.Tests.{eqb-true, ltb-true, ltb-false, lt-ltb, le-ltb}
use lib.Dec.{eqb, ltb}
use lib.ListN.{length, take, drop, get_or, length-drop}
use Rattle.std.specs.Prelude.{Option, None, Result, Ok, Err}
use Rattle.laws.specs.Same.{same}
use Rattle.laws.proofs.Cases.{by_test, by_le}
use Rattle.options.specs.Refusal.{outcome_number, outcome_values}
use Rattle.options.specs.Options.{cut, opt, walk_from, walk_of, sent_back}
use Rattle.options.specs.Lcp.{suggestion_lcp}
use Rattle.options.specs.Proto.{start_of, suggestion_of, judge_of, own_nacked, nacks_of}
use Rattle.options.specs.Reply.{rank_of, fresh_reply, step_of, reply_of}
use Rattle.options.specs.declared.walk.Head as option
use Rattle.options.specs.declared.walk.Reply.{Reply}
use Rattle.options.specs.declared.proto.Proto.{Proto}
use Rattle.options.specs.declared.proto.Proto.TheVariants.{Lcp, Ipv4cp}
use Rattle.options.specs.declared.proto.Verdict.{Verdict}
use Rattle.options.specs.declared.proto.Verdict.TheVariants.{Ack, Nack, Rej}
use Rattle.options.specs.declared.refusal.Refusal.{Refusal}
use Rattle.options.specs.declared.refusal.Refusal.TheVariants.{OptionCut, OptionLong, OptionsMany}
use Rattle.options.proofs.Replying.{listed_lower, listed_long, listed_higher, listed_many, listed_more}
use Rattle.options.proofs.Suggesting.{suggestion_short}
use Rattle.options.proofs.Walks.{walk_done, walk_cut, walk_opt}
use Rattle.refusals.specs.Packets.{Which, lcp, ipv4cp, verdict_for, size_back, Cut, Whole, Fault, Broken}

-- ---- one option

abbrev pub kind_of : Proto → Which
kind_of (Lcp p) = lcp
kind_of (Ipv4cp p) = ipv4cp

judged_rank : (p : Proto) (c : ℕ) (d : List ℕ) → rank_of (judge_of p c d).verdict ≡ verdict_for (kind_of p) c d
unfolding suggestion_lcp
judged_rank (Lcp p) c d =
    by_test (eqb c 2)
    (λ e. rw (eqb-true c 2 e) (by_test (eqb (length d) 4) (λ f. rw f refl) (λ f. rw f refl)))
    (λ e. rw e (by_test (eqb c 3) (λ f. rw f (by_test (same d (suggestion_lcp p)) (λ g. rw g refl) (λ g. rw g refl))) (λ f. rw f refl)))
judged_rank (Ipv4cp p) c d =
    by_test (eqb c 3) (λ e. rw e (by_test (eqb (length d) 4) (λ f. rw f refl) (λ f. rw f refl))) (λ e. rw e refl)

judged_kind : (p : Proto) (c : ℕ) (d : List ℕ) → kind_of (judge_of p c d).proto ≡ kind_of p
judged_kind (Lcp p) c d = refl
judged_kind (Ipv4cp p) c d = refl

-- the value sent back is one that can be listed where document 01's is, whatever is suggested
size_back_lem : (p : Proto) (v : Verdict) (d : List ℕ) → ltb 4 (length (sent_back v d (suggestion_of p))) ≡ ltb 4 (size_back (rank_of v) d)
size_back_lem p Ack d = refl
size_back_lem p Nack d = le-ltb 4 (length (suggestion_of p)) (suggestion_short p)
size_back_lem p Rej d = refl

-- a reply that goes on, with so many options listed of the verdict top
record At (w : Which) (top listed : ℕ) (r : Reply) : Type 0 where
  done : r.outcome ≡ (Ok tt)
  kind : kind_of r.proto ≡ w
  rank : rank_of r.verdict ≡ top
  count : r.count ≡ listed

module _ {w : Which} {top listed : ℕ} {r : Reply} (i : At w top listed r) (c : ℕ) (d : List ℕ) where
  ranked : rank_of (judge_of r.proto c d).verdict ≡ verdict_for w c d
  ranked = rw (← i.kind) (judged_rank r.proto c d)

  sized : ltb 4 (length (sent_back (judge_of r.proto c d).verdict d (suggestion_of r.proto))) ≡ ltb 4 (size_back (verdict_for w c d) d)
  sized = rw (← ranked) (size_back_lem r.proto (judge_of r.proto c d).verdict d)

  kinded : kind_of (judge_of r.proto c d).proto ≡ w
  kinded = judged_kind r.proto c d ∙ i.kind

  -- the option as it is listed
  verdict : Verdict
  verdict = (judge_of r.proto c d).verdict

  value : List ℕ
  value = sent_back (judge_of r.proto c d).verdict d (suggestion_of r.proto)

  long : 4 < size_back (verdict_for w c d) d → 4 < length value
  unfolding value
  long k = ltb-true 4 _ (sized ∙ lt-ltb 4 _ k)

  short : size_back (verdict_for w c d) d ≤ 4 → length value ≤ 4
  unfolding value
  short k = ltb-false 4 _ (sized ∙ le-ltb 4 _ k)

  step-lower : verdict_for w c d < top → At w top listed (step_of r c d)
  unfolding step_of verdict value
  step-lower h =
      rw (listed_lower r _ verdict c value (omega (arith, ranked, i.rank)))
      (record { done = i.done; kind = kinded; rank = i.rank; count = i.count })

  step-long : top ≤ verdict_for w c d → 4 < size_back (verdict_for w c d) d → (step_of r c d).outcome ≡ Err OptionLong
  unfolding step_of verdict value
  step-long h k = rw (listed_long r _ verdict c value (omega (arith, ranked, i.rank)) (long k)) refl

  step-higher : top < verdict_for w c d → size_back (verdict_for w c d) d ≤ 4 → At w (verdict_for w c d) 1 (step_of r c d)
  unfolding step_of verdict value
  step-higher h k =
      rw (listed_higher r _ verdict c value (omega (arith, ranked, i.rank)) (short k))
      (record { done = refl; kind = kinded; rank = ranked; count = refl })

  step-many : top ≡ verdict_for w c d → size_back (verdict_for w c d) d ≤ 4 → 6 ≤ listed → (step_of r c d).outcome ≡ Err OptionsMany
  unfolding step_of verdict value
  step-many h k m =
      rw (listed_many r _ verdict c value (i.rank ∙ h ∙ sym ranked) (short k) (omega (arith, i.count))) refl

  step-another : top ≡ verdict_for w c d → size_back (verdict_for w c d) d ≤ 4 → listed < 6 → At w top (listed + 1) (step_of r c d)
  unfolding step_of verdict value
  step-another h k m =
      rw (listed_more r _ verdict c value (i.rank ∙ h ∙ sym ranked) (short k) (omega (arith, i.count)))
      (record { done = refl; kind = kinded; rank = ranked ∙ sym h; count = ap (λ (n : ℕ). n + 1) i.count })

-- ---- the walk

cut_by : (t u v : Bool) (x : Option option.Head) → (t ≡ true) ⊎ ((v ≡ true) ⊎ (u ≡ true))
    → cond t None (cond u None (cond v None x)) ≡ None
cut_by true u v x h = refl
cut_by false true v x h = refl
cut_by false false true x h = refl
cut_by false false false x (inl e) = absurd (false≢true e)
cut_by false false false x (inr (inl e)) = absurd (false≢true e)
cut_by false false false x (inr (inr e)) = absurd (false≢true e)

cut_walk : (at : ℕ) (s : List ℕ) → Cut s → walk_from at s ≡ cut at
cut_walk at s k = walk_cut at s k.some (cut_by (ltb (length s) 2) (ltb (length s) (get_or s 1 0)) (ltb (get_or s 1 0) 2) _ (go k.bad))
  where
    go : (length s < 2) ⊎ ((get_or s 1 0 < 2) ⊎ (length s < get_or s 1 0))
        → (ltb (length s) 2 ≡ true) ⊎ ((ltb (get_or s 1 0) 2 ≡ true) ⊎ (ltb (length s) (get_or s 1 0) ≡ true))
    go (inl h) = inl (lt-ltb _ _ h)
    go (inr (inl h)) = inr (inl (lt-ltb _ _ h))
    go (inr (inr h)) = inr (inr (lt-ltb _ _ h))

whole_walk : (at : ℕ) {s : List ℕ} {c : ℕ} {d rest : List ℕ} → Whole s c d rest → walk_from at s ≡ opt c d (walk_from (at + get_or s 1 0) rest)
whole_walk at {s} k =
    rw (k.type, k.value, k.behind)
    (walk_opt at s (record { code = get_or s 0 0; len = get_or s 1 0 }) (omega (arith, k.header))
    (rw (le-ltb (length s) 2 k.header, le-ltb (length s) (get_or s 1 0) k.most, le-ltb (get_or s 1 0) 2 k.least) refl))

-- a list of options is at its end, cut, or begins with a whole option
data Head (s : List ℕ) : Type 0 where
  end : length s ≤ 0 → Head s
  broken : Cut s → Head s
  whole : (c : ℕ) (d rest : List ℕ) → Whole s c d rest → length rest < length s → Head s

head_of : (s : List ℕ) → Head s
head_of s =
    by_le (length s) 0 end
    (λ h. by_le 2 (length s)
    (λ k. by_le 2 (get_or s 1 0)
    (λ l. by_le (get_or s 1 0) (length s)
    (λ m. whole (get_or s 0 0) (take (get_or s 1 0 - 2) (drop 2 s)) (drop (get_or s 1 0) s)
    (record { header = k; least = l; most = m; type = refl; value = refl; behind = refl })
    (omega (arith, length-drop (get_or s 1 0) s)))
    (λ m. broken (record { some = h; bad = inr (inr m) })))
    (λ l. broken (record { some = h; bad = inr (inl l) })))
    (λ k. broken (record { some = h; bad = inl k })))

-- ---- a request

reply_ended : (r : Reply) (at : ℕ) (s : List ℕ) → length s ≤ 0 → reply_of r (walk_from at s) ≡ r
unfolding reply_of
reply_ended r at s h = rw (walk_done at s h) refl

-- the ways on from a reply r with the options s to come
module _ (r : Reply) (at : ℕ) {s : List ℕ} where
  reply_cut : Cut s → (reply_of r (walk_from at s)).outcome ≡ Err (OptionCut at)
  unfolding reply_of
  reply_cut k = rw (cut_walk at s k) refl

  module _ {c : ℕ} {d rest : List ℕ} (k : Whole s c d rest) where
    reply_refused : {why : Refusal} → (step_of r c d).outcome ≡ Err why → (reply_of r (walk_from at s)).outcome ≡ Err why
    unfolding reply_of
    reply_refused e = rw (whole_walk at k, e) refl

    reply_on : (step_of r c d).outcome ≡ (Ok tt) → reply_of r (walk_from at s) ≡ reply_of (step_of r c d) (walk_from (at + get_or s 1 0) rest)
    unfolding reply_of
    reply_on e = rw (whole_walk at k, e) refl

-- what a request is refused with
abbrev refused_with : Reply → ℕ → List ℕ → ℕ
refused_with r at s = outcome_number (reply_of r (walk_from at s)).outcome

on_number : (r : Reply) (at : ℕ) {s : List ℕ} {c : ℕ} {d rest : List ℕ} (k : Whole s c d rest) → (step_of r c d).outcome ≡ (Ok tt)
    → refused_with r at s ≡ refused_with (step_of r c d) (at + get_or s 1 0) rest
on_number r at k e = ap (λ (q : Reply). outcome_number q.outcome) (reply_on r at k e)

-- the refusal of the options s, of which the first is at offset at
data Stops (s : List ℕ) (at : ℕ) : ℕ → Result Unit Refusal → Type 0 where
  at_cut : {m k : ℕ} → Broken s k → m ≡ at + k → Stops s at 7 (Err (OptionCut m))
  at_long : Stops s at 8 (Err OptionLong)
  at_many : Stops s at 9 (Err OptionsMany)

stops_number : {s : List ℕ} {at n : ℕ} {o : Result Unit Refusal} → Stops s at n o → outcome_number o ≡ n
stops_number (at_cut b e) = refl
stops_number at_long = refl
stops_number at_many = refl

-- an outcome that tells where the options s are cut
pub record Told (s : List ℕ) (o : Result Unit Refusal) : Type 0 where
  pub offset : ℕ
  pub first : Broken s offset
  pub values : outcome_values o ≡ offset ∷ []

stops_told : {s : List ℕ} {n : ℕ} {o : Result Unit Refusal} → Stops s 0 n o → n ≡ 7 → Told s o
stops_told (at_cut {k = k} b z) e = record { offset = k; first = b; values = ap (λ (m : ℕ). m ∷ []) (z ∙ zero-add k) }
stops_told at_long e = absurd (omega arith)
stops_told at_many e = absurd (omega arith)

-- behind a whole option
stops_later : {s : List ℕ} {at n : ℕ} {o : Result Unit Refusal} {c : ℕ} {d rest : List ℕ} → Whole s c d rest → Stops rest (at + get_or s 1 0) n o → Stops s at n o
stops_later {s} {at} w (at_cut {k = k} b e) = at_cut (Broken.later _ _ _ w b) (e ∙ add_assoc at (get_or s 1 0) k)
stops_later w at_long = at_long
stops_later w at_many = at_many

fault_stops : {w : Which} {top listed n : ℕ} {s : List ℕ} → Fault w top listed s n → (r : Reply) (at : ℕ) → At w top listed r
    → Stops s at n (reply_of r (walk_from at s)).outcome
fault_stops (Fault.cut k) r at i = rw (reply_cut r at k) (at_cut (Broken.now k) (sym (add-zero at)))
fault_stops (Fault.long c d rest k h l) r at i = rw (reply_refused r at k (step-long i c d h l)) at_long
fault_stops (Fault.many c d rest k h l m) r at i = rw (reply_refused r at k (step-many i c d h l m)) at_many
fault_stops (Fault.lower c d rest k h f) r at i =
    let j = step-lower i c d h in rw (reply_on r at k j.done) (stops_later k (fault_stops f (step_of r c d) _ j))
fault_stops (Fault.higher c d rest k h l f) r at i =
    let j = step-higher i c d h l in rw (reply_on r at k j.done) (stops_later k (fault_stops f (step_of r c d) _ j))
fault_stops (Fault.another c d rest k h l m f) r at i =
    let j = step-another i c d h l m in rw (reply_on r at k j.done) (stops_later k (fault_stops f (step_of r c d) _ j))

abbrev Found : Which → ℕ → ℕ → List ℕ → ℕ → Type 0
Found w top listed s n = (n ≡ 0) ⊎ Fault w top listed s n

found_on : {w : Which} {t t' k k' n m : ℕ} {s s' : List ℕ} → n ≡ m → (Fault w t k s m → Fault w t' k' s' m) → Found w t k s m → Found w t' k' s' n
found_on e f (inl z) = inl (e ∙ z)
found_on e f (inr x) = inr (rw e (f x))

-- one option, where what follows it is known
found_by : {w : Which} {top listed : ℕ} (s : List ℕ) (r : Reply) (at : ℕ) → At w top listed r → Head s
    → ((t : List ℕ) (top' listed' : ℕ) (q : Reply) (at' : ℕ) → length t < length s → At w top' listed' q → Found w top' listed' t (refused_with q at' t))
    → Found w top listed s (refused_with r at s)
found_by s r at i (end h) rec = inl (ap (λ (q : Reply). outcome_number q.outcome) (reply_ended r at s h) ∙ ap outcome_number i.done)
found_by s r at i (broken k) rec = inr (rw (ap outcome_number (reply_cut r at k)) (Fault.cut k))
found_by {w} {top} {listed} s r at i (whole c d rest k b) rec =
    let v = verdict_for w c d in
    by_le top v
    (λ h. by_le (size_back v d) 4
    (λ l. by_le v top
    (λ m. let e : top ≡ v = omega arith in
    by_le 6 listed
    (λ n. inr (rw (ap outcome_number (reply_refused r at k (step-many i c d e l n))) (Fault.many c d rest k e l n)))
    (λ n. let j = step-another i c d e l n in
    found_on (on_number r at k j.done) (Fault.another c d rest k e l n) (rec rest _ _ (step_of r c d) _ b j)))
    (λ m. let j = step-higher i c d m l in
    found_on (on_number r at k j.done) (Fault.higher c d rest k m l) (rec rest _ _ (step_of r c d) _ b j)))
    (λ l. inr (rw (ap outcome_number (reply_refused r at k (step-long i c d h l))) (Fault.long c d rest k h l))))
    (λ h. let j = step-lower i c d h in
    found_on (on_number r at k j.done) (Fault.lower c d rest k h) (rec rest _ _ (step_of r c d) _ b j))

fault_found : (n : ℕ) (s : List ℕ) → length s ≤ n → {w : Which} {top listed : ℕ} (r : Reply) (at : ℕ) → At w top listed r
    → Found w top listed s (refused_with r at s)
fault_found zero s b r at i = found_by s r at i (end b) (λ t _ _ q at' l j. absurd (omega arith))
fault_found (suc n) s b r at i = found_by s r at i (head_of s) (λ t _ _ q at' l j. fault_found n t (omega arith) q at' j)

-- ---- a request from a fresh start

module _ (p : Proto) (s : List ℕ) where
  start_at : At (kind_of p) 0 0 (fresh_reply (start_of p))
  start_at = record { done = refl; kind = kind p; rank = refl; count = refl }
    where
      kind : (p : Proto) → kind_of (start_of p) ≡ kind_of p
      kind (Lcp p) = refl
      kind (Ipv4cp p) = refl

  pub request_refused : {n : ℕ} → Fault (kind_of p) 0 0 s n → outcome_number (reply_of (fresh_reply (start_of p)) (walk_of s)).outcome ≡ n
  request_refused f = stops_number (fault_stops f _ 0 start_at)

  -- where 7 is given, it tells where the option is
  pub request_tells : Fault (kind_of p) 0 0 s 7 → Told s (reply_of (fresh_reply (start_of p)) (walk_of s)).outcome
  request_tells f = stops_told (fault_stops f _ 0 start_at) refl

  pub request_found : (outcome_number (reply_of (fresh_reply (start_of p)) (walk_of s)).outcome ≡ 0)
      ⊎ Fault (kind_of p) 0 0 s (outcome_number (reply_of (fresh_reply (start_of p)) (walk_of s)).outcome)
  request_found = fault_found (length s) s (omega arith) _ 0 start_at

pub fault_number : {w : Which} {top listed n : ℕ} {s : List ℕ} → Fault w top listed s n → (n ≡ 7) ⊎ ((n ≡ 8) ⊎ (n ≡ 9))
fault_number (Fault.cut k) = inl refl
fault_number (Fault.long c d rest k h l) = inr (inl refl)
fault_number (Fault.many c d rest k h l m) = inr (inr refl)
fault_number (Fault.lower c d rest k h f) = fault_number f
fault_number (Fault.higher c d rest k h l f) = fault_number f
fault_number (Fault.another c d rest k h l m f) = fault_number f

-- an empty list has no option at fault
pub fault_some : {w : Which} {top listed n : ℕ} {s : List ℕ} → Fault w top listed s n → 0 < length s
fault_some (Fault.cut k) = k.some
fault_some (Fault.long c d rest k h l) = omega (arith, k.header)
fault_some (Fault.many c d rest k h l m) = omega (arith, k.header)
fault_some (Fault.lower c d rest k h f) = omega (arith, k.header)
fault_some (Fault.higher c d rest k h l f) = omega (arith, k.header)
fault_some (Fault.another c d rest k h l m f) = omega (arith, k.header)

pub broken_some : {s : List ℕ} {n : ℕ} → Broken s n → 0 < length s
broken_some (Broken.now k) = k.some
broken_some (Broken.later c d rest k f) = omega (arith, k.header)

-- ---- a Nack or a Rej

-- a list is taken whole, or it is cut somewhere
pub data Ended (s : List ℕ) (o : Result Unit Refusal) : Type 0 where
  taken : o ≡ (Ok tt) → Ended s o
  cut_at : {n : ℕ} → Broken s n → Ended s o

module _ (rej : Bool) where
  abbrev nacked : Proto → ℕ → List ℕ → Result Unit Refusal
  nacked p at s = (nacks_of rej p (walk_from at s)).outcome

  nacks_cut : (p : Proto) (at : ℕ) {s : List ℕ} → Cut s → nacked p at s ≡ Err (OptionCut at)
  unfolding nacks_of
  nacks_cut p at {s} k = rw (nacked, cut_walk at s k) refl

  nacks_ended : (p : Proto) (at : ℕ) (s : List ℕ) → length s ≤ 0 → nacked p at s ≡ (Ok tt)
  unfolding nacks_of
  nacks_ended p at s h = rw (nacked, walk_done at s h) refl

  nacks_on : (p : Proto) (at : ℕ) {s : List ℕ} {c : ℕ} {d rest : List ℕ} → Whole s c d rest
      → nacked p at s ≡ nacked (own_nacked p c d rej) (at + get_or s 1 0) rest
  unfolding nacks_of
  nacks_on p at k = rw (nacked, whole_walk at k) refl

  broken_refused : {s : List ℕ} {n : ℕ} → Broken s n → (p : Proto) (at : ℕ) → nacked p at s ≡ Err (OptionCut (at + n))
  broken_refused (Broken.now k) p at = nacks_cut p at k ∙ ap (λ (m : ℕ). Err (OptionCut m)) (sym (add-zero at))
  broken_refused {s} (Broken.later {n = n} c d rest k f) p at =
      nacks_on p at k ∙ broken_refused f (own_nacked p c d rej) (at + get_or s 1 0) ∙ ap (λ (m : ℕ). Err (OptionCut m)) (add_assoc at (get_or s 1 0) n)

  broken_found : (n : ℕ) (s : List ℕ) → length s ≤ n → (p : Proto) (at : ℕ) → Ended s (nacked p at s)
  broken_found zero s b p at = taken (nacks_ended p at s b)
  broken_found (suc n) s b p at = by_head (head_of s) (λ t l. broken_found n t (omega arith))
    where
      on : {c : ℕ} {d rest : List ℕ} → Whole s c d rest → Ended rest (nacked (own_nacked p c d rej) (at + get_or s 1 0) rest) → Ended s (nacked p at s)
      on k (taken e) = taken (nacks_on p at k ∙ e)
      on k (cut_at b) = cut_at (Broken.later _ _ _ k b)

      by_head : Head s → ((t : List ℕ) → length t < length s → (q : Proto) (at' : ℕ) → Ended t (nacked q at' t)) → Ended s (nacked p at s)
      by_head (end h) rec = taken (nacks_ended p at s h)
      by_head (broken k) rec = cut_at (Broken.now k)
      by_head (whole c d rest k l) rec = on k (rec rest l (own_nacked p c d rej) (at + get_or s 1 0))

  module _ (p : Proto) (s : List ℕ) where
    pub answer_refused : {n : ℕ} → Broken s n → (nacks_of rej p (walk_of s)).outcome ≡ Err (OptionCut n)
    answer_refused {n} f = broken_refused f p 0 ∙ ap (λ (m : ℕ). Err (OptionCut m)) (zero-add n)

    pub answer_found : Ended s (nacks_of rej p (walk_of s)).outcome
    answer_found = broken_found (length s) s (omega arith) p 0

    -- one place is the first
    pub broken_one : {m n : ℕ} → Broken s m → Broken s n → m ≡ n
    broken_one f g = ap (λ (o : Result Unit Refusal). get_or (outcome_values o) 0 0) (sym (answer_refused f) ∙ answer_refused g)

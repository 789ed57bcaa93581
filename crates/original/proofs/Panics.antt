-- Where the original panics: ours refuses as the table says, and no link that calls reach meets an assert of open.
-- Assumes nothing.
use mathlib.Core.Path.{◌≡◌, refl, ap, sym, ◌∙◌}
use mathlib.Core.Bool.{true, cond, not}
use mathlib.Core.List.{List, [], ◌∷◌}
use Prim.Native.Nat.{ℕ, ◌+◌, ◌-◌, ◌≤◌, ◌<◌}
use native.Mathlib.Omega.{arith}
use native.Mathlib.Nat.{sub_self}
use borrow.Author.Tests.{lt-ltb, le-ltb, ne_eqb}
use lib.Dec.{ltb, eqb, lit<}
use lib.ListN.{length, get_or}
use Rattle.std.specs.Prelude.{Result, Err}
use Rattle.laws.proofs.Cases.{apart, by_le, cond_all}
use Rattle.framing.specs.Reader as reader
use Rattle.framing.specs.Refusal as frame_refusal
use Rattle.framing.specs.declared.frame_reader.FrameReader.{FrameReader}
use Rattle.framing.specs.declared.frame_reader.State.TheVariants as reading
use Rattle.framing.specs.declared.refusal.Refusal.TheVariants.{BufferShort}
use Rattle.framing.proofs.Reader.{consumed_short}
use Rattle.options.specs.Refusal.{number_of}
use Rattle.options.specs.declared.refusal.Refusal.{Refusal}
use Rattle.options.proofs.Numbers.{not_given}
use Rattle.link.specs.Link.{held_by, Consumes, Poll, declined, poll_link}
use Rattle.link.specs.Reached.{Reached}
use Rattle.link.specs.Refusal.{outcome_number}
use Rattle.link.specs.declared.refusal.Refusal.TheVariants.{Framing}
use Rattle.link.specs.declared.refusal.Refusal as link_refusal
use Rattle.link.specs.declared.choices.Choices.{Choices}
use Rattle.link.specs.declared.pppos.PPPoS.{PPPoS}
use Rattle.link.specs.declared.pppos.PPPoSAction.{PPPoSAction}
use Rattle.link.proofs.Polling.{poll_short}
use Rattle.original.specs.Run.{Place, Run, returns, panics, ◌>>=◌, reader_len, reader_slice, poll_range}
use Rattle.original.specs.Framing as framing
use Rattle.original.specs.Framing.{receive, range, feed_in, consume_from}
use Rattle.original.specs.Pppos as theirs
use Rattle.original.specs.View.{view_reader, view_link}
use Rattle.original.specs.Domain.{InDomain}
use Rattle.original.specs.History as history
use Rattle.original.specs.History.{Call, Answered, call_of, Ran, run_of, OurAnswer, Called, History}
use Rattle.original.specs.Panics.{number_at, Asserts, ipv4cp_opened, pap_opened, Refuses, full, dropped, SamePoll, same, refuses, opens, unframed_at, Stopped, stopped, AtPanics, NeverAsserts}
use Rattle.original.proofs.Reader.{complete_is, receive_is}
use Rattle.original.proofs.Calls.{new_over, new_panics}
use Rattle.original.proofs.Link.{same-poll}
use Rattle.original.proofs.SameLink.{polls_same, by_framed, poll_unframed, same_link}
use Rattle.original.proofs.History.{history_kept, history_reached, same-history}

-- ---- the reader

unfetched : {r r' : FrameReader} {g : reader.Got} → reader.Receives r g r' → reader.is_complete r.state ≡ true → r.len < 3
    → (frame_refusal.outcome_number g ≡ number_at reader_len) × (receive (view_reader r) ≡ cond (ltb r.len 2) (panics reader_len) (returns (range 1 0 (view_reader r'))))
unfolding receive
unfetched {r} {r'} c e h = (
  c.number ∙ rw (e, lt-ltb r.len 3 h) refl,
  rw (complete_is r.state, e)
      (by_le 2 r.len
      (λ k. let two : r.len - 2 ≡ 0 = omega arith in rw (le-ltb r.len 2 k, two, c.reader, e) refl)
      (λ k. rw (lt-ltb r.len 2 k) refl)),
)

-- ---- a buffer under the kept length

short_poll : (l : PPPoS) (tx rx : List ℕ) → length rx < l.frame_reader.len
    → (poll_link l tx rx ≡ declined (Framing BufferShort) l tx rx)
    × (reader.is_complete l.frame_reader.state ≡ true → 3 ≤ l.frame_reader.len → length rx + 2 < l.frame_reader.len → (theirs.poll (view_link l) tx rx ≡ panics poll_range) × (number_at poll_range ≡ 3))
unfolding theirs.poll theirs.handle_input
short_poll l tx rx h =
    let n = l.frame_reader.len in (
      poll_short l tx rx h,
      λ e three over. (rw (receive_is l.frame_reader (λ _. three), e, le-ltb (n - 2) 1 (omega arith), lt-ltb (length rx) (n - 2) (omega arith)) refl, refl),
    )

-- a run that panics at the check of a frame's end only
abbrev Checks : {A : Type 0} → Run A → Type 0
Checks (returns a) = Unit {0}
Checks (panics p) = p ≡ reader_slice

checks_then : {A B : Type 0} (x : Run A) (f : A → Run B) → Checks x → ((a : A) → Checks (f a)) → Checks (x >>= f)
checks_then (returns a) f c d = d a
checks_then (panics p) f c d = c

feed_checks : (s : framing.ReaderState) (r : framing.FrameReader) (buf : List ℕ) (b : ℕ) → Checks (feed_in s r buf b)
feed_checks framing.Start r buf b = tt
feed_checks framing.Address r buf b = tt
feed_checks framing.Data r buf b =
    let P : Run framing.Fed → Type 0 = λ x. Checks x in
    cond_all P (eqb b 0x7E)
    (cond_all P (ltb r.len 3) tt
    (cond_all P (eqb (length buf) 0) refl (cond_all P (not (eqb (get_or buf 0 0) 0x03)) tt (cond_all P (ltb (length buf) r.len) refl tt))))
    (cond_all P (eqb b 0x7D) tt tt)
feed_checks framing.Complete r buf b = tt

consume_checks : (i : ℕ) (r : framing.FrameReader) (buf bs : List ℕ) → Checks (consume_from i r buf bs)
unfolding consume_from
consume_checks i r buf [] = tt
consume_checks i r buf (b ∷ bs) =
    cond_all (λ (x : Run framing.Consumed). Checks x) (framing.is_complete r.state) tt
    (checks_then (feed_in r.state r buf b) (λ f. consume_from (i + 1) f.reader f.buf bs) (feed_checks r.state r buf b) (λ f. consume_checks (i + 1) f.reader f.buf bs))

checked : {A : Type 0} {x : Run A} → Checks x → (p : Place) → x ≡ panics p → p ≡ reader_slice
checked c p e = rw e at c

short_consume : (l : PPPoS) (rx bs : List ℕ) → length rx < l.frame_reader.len → {t : Result ℕ link_refusal.Refusal} {l' : PPPoS} {rx' : List ℕ} → Consumes l rx bs t l' rx'
    → (t ≡ Err (Framing BufferShort)) × (frame_refusal.count_of t ≡ 0) × (l' ≡ l) × (rx' ≡ rx)
    × ((place : Place) → theirs.consume_link (view_link l) bs rx ≡ panics place → (place ≡ reader_slice) × (outcome_number t ≡ number_at place))
short_consume l rx bs h {t} c =
    let e = consumed_short (held_by l rx) bs h in
    let refused : t ≡ Err (Framing BufferShort) = c.outcome ∙ rw (lt-ltb (length rx) l.frame_reader.len h) refl in
    (refused, c.count ∙ rw (e, sub_self) refl, c.link ∙ rw e refl, c.bytes ∙ rw e refl, λ p k. let at : p ≡ reader_slice = checked (all l rx bs) p k in (at, ap outcome_number refused ∙ sym (ap number_at at)))
  where
    all : (l : PPPoS) (rx bs : List ℕ) → Checks (theirs.consume_link (view_link l) bs rx)
    all l rx bs = checks_then (consume_from 0 (view_reader l.frame_reader) rx bs) _ (consume_checks 0 (view_reader l.frame_reader) rx bs) (λ _. tt)

short_end : (l : PPPoS) (rx bs : List ℕ) → length rx < l.frame_reader.len → 3 ≤ l.frame_reader.len → l.frame_reader.state ≡ reading.Data → get_or rx 0 0x03 ≡ 0x03
    → theirs.consume_link (view_link l) (0x7E ∷ bs) rx ≡ panics reader_slice
unfolding consume_from
short_end l [] bs h three e first = rw (e, le-ltb l.frame_reader.len 3 three) refl
short_end l (x ∷ rx) bs h three e first =
    rw (e, le-ltb l.frame_reader.len 3 three, ne_eqb (length (x ∷ rx)) 0 (λ z. omega arith), first, lt-ltb (length (x ∷ rx)) l.frame_reader.len h) refl

-- ---- the first panic

first_panic : {name password : List ℕ} {cs : List Call} {xs : List OurAnswer} {l : PPPoS} → History name password cs xs l → {r : Ran} → run_of name password cs ≡ returns r
    → {c : Call} {a : OurAnswer} {l' : PPPoS} → Called l c a l' → {place : Place} → call_of r.link c ≡ panics place → Stopped l place c a l'
first_panic {l} h {r} run {c} {a} {l'} call {place} e =
    let here : call_of (view_link l) c ≡ panics place = ap (λ (m : theirs.PPPoS). call_of m c) (same-history.same h run).2 ∙ e in
    by_call call here
  where
    polled : {tx rx : List ℕ} {a : Result PPPoSAction link_refusal.Refusal} {l' : PPPoS} {tx' rx' : List ℕ} (x : Run theirs.Poll) → SamePoll l tx rx x (record { action = a; link = l'; tx = tx'; rx = rx' })
        → ◌>>=◌ {B = Answered} x (λ p. returns (record { answer = history.acted p.action p.tx p.rx; link = p.link })) ≡ panics place → Stopped l place (history.polls tx rx) (history.acted a tx' rx') l'
    polled x (same s) e = apart cc
    polled x (refuses {place = p} s) e = let z : p ≡ place = cc in stopped (rw z at s)
    polled x (opens unreached b m w f k i) e = absurd (unreached h.choices (history_reached h))

    by_call : {c : Call} {a : OurAnswer} {l' : PPPoS} → Called l c a l' → call_of (view_link l) c ≡ panics place → Stopped l place c a l'
    by_call (history.by_open c) e = apart cc
    by_call history.by_status e = apart cc
    by_call (history.by_consume {bs} {rx} b lent c) e = let z = (same_link.consume l rx bs (history_kept h).lasting.plain (history_kept h).lasting.crate_reading lent b c).1 in apart cc
    by_call (history.by_poll {tx} {rx} lent c) e =
        polled (theirs.poll (view_link l) tx rx) (polls_same l tx rx (record { lasting = (history_kept h).lasting; lent = lent }) (history_kept h).framed c) e
    by_call (history.by_send b c) e = apart cc

pub at_panics : AtPanics
at_panics =
    record {
      new_over = λ name password k _ crate h c. new_over name password k c crate h;
      new_panics = λ name password k _ c e. new_panics name password k c e;
      poll = polls_same;
      unframed = poll_unframed;
      unfetched = unfetched;
      short_poll = short_poll;
      short_consume = short_consume;
      short_end = short_end;
      first = first_panic;
    }

-- ---- the asserts

-- the table has no number for an assert, and one for each refusal
unnumbered : {place : Place} → Asserts place → number_at place ≡ 0
unnumbered ipv4cp_opened = refl
unnumbered pap_opened = refl

numbered : (why : Refusal) → 0 < number_of why
numbered why = by_le (number_of why) 0 (λ h. absurd (not_given why 0 (λ e. omega arith) (omega arith))) (λ h. h)

refused_numbered : {l : PPPoS} {tx rx : List ℕ} {place : Place} {p : Poll} → Refuses l tx rx place p → 0 < number_at place
refused_numbered (full n e) = lit< tt
refused_numbered (dropped why f e) = rw f.number at (numbered f.why)

never : {c : Choices} (l : PPPoS) (tx rx : List ℕ) → Reached c l → InDomain l rx → {place : Place} → Asserts place → theirs.poll (view_link l) tx rx ≡ panics place → ⊥
never {c = c} l tx rx h d {place} a e =
    by_framed l.frame_reader (λ framed. go (theirs.poll (view_link l) tx rx) e (same-poll l tx rx d framed))
    (λ t k. let u = poll_unframed l tx rx d.lent.room t k in
    let z : place ≡ unframed_at l.frame_reader.len = cc in
    absurd (omega (arith, unnumbered a, ap number_at z, u.2)))
  where
    go : (x : Run theirs.Poll) → x ≡ panics place → SamePoll l tx rx x (poll_link l tx rx) → ⊥
    go x k (same s) = apart cc
    go x k (refuses {place = p} s) = let z : p ≡ place = cc in absurd (omega (arith, unnumbered a, refused_numbered s, ap number_at z))
    go x k (opens unreached b m w f i j) = unreached c h

pub never_asserts : NeverAsserts
never_asserts = record { poll = never }

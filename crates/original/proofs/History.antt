-- Any calls on a fresh link answer, keep and write what the original's do.
-- Assumes nothing.
use mathlib.Core.Path.{◌≡◌, refl, ap, ap₂, sym, ◌∙◌}
use mathlib.Core.List.{List, [], ◌∷◌, map}
use Prim.Native.Nat.{ℕ}
use Rattle.std.specs.Prelude.{Result, Ok}
use Rattle.laws.proofs.Cases.{apart, by_test}
use Rattle.framing.specs.Reader.{Framed}
use Rattle.framing.specs.Refusal.{count_of}
use Rattle.link.specs.Reached.{Reached, by_new, by_open, by_consume, by_poll}
use Rattle.link.specs.declared.refusal.Refusal.{Refusal}
use Rattle.link.specs.declared.choices.Choices.{Choices}
use Rattle.link.specs.declared.pppos.PPPoS.{PPPoS}
use Rattle.original.specs.Run as run
use Rattle.original.specs.Run.{Run, returns, panics, ◌>>=◌, ok, err}
use Rattle.original.specs.Framing.{WriteResult}
use Rattle.original.specs.Pppos as theirs
use Rattle.original.specs.View.{view_link}
use Rattle.original.specs.Domain.{Lasting}
use Rattle.original.specs.Same.{SameOpen, SameSend}
use Rattle.original.specs.History as history
use Rattle.original.specs.History.{Call, Answered, opened_by, sent_by, call_of, Ran, calls_of, run_of, OurAnswer, as_answer, Called, Calls, none, next, History, SameHistory}
use Rattle.original.proofs.SameLink.{same_link}
use Rattle.original.proofs.Lasting.{all_last}

-- ---- what a call keeps

pub record Kept (l : PPPoS) : Type 0 where
  pub lasting : Lasting l
  pub framed : Framed l.frame_reader

call_kept : {l : PPPoS} {c : Call} {a : OurAnswer} {l' : PPPoS} → Called l c a l' → Kept l → Kept l'
call_kept {l} (history.by_open c) k = record { lasting = all_last.lasting.«open» l k.lasting c; framed = all_last.framed.«open» l k.framed c }
call_kept history.by_status k = k
call_kept {l} (history.by_consume {bs} {rx} b lent c) k = record { lasting = all_last.lasting.consume l rx bs k.lasting c; framed = all_last.framed.consume l rx bs k.framed c }
call_kept {l} (history.by_poll {tx} {rx} lent c) k = record { lasting = all_last.lasting.poll l tx rx lent.bytes k.lasting c; framed = all_last.framed.poll l tx rx lent.bytes k.framed c }
call_kept (history.by_send b c) k = k

call_reached : {k : Choices} {l : PPPoS} {c : Call} {a : OurAnswer} {l' : PPPoS} → Called l c a l' → Reached k l → Reached k l'
call_reached {l} (history.by_open c) h = rw c.link (by_open l h)
call_reached history.by_status h = h
call_reached {l} (history.by_consume {bs} {rx} b lent c) h = rw c.link (by_consume l rx bs h)
call_reached {l} (history.by_poll {tx} {rx} lent c) h = rw c.link (by_poll l tx rx h)
call_reached (history.by_send b c) h = h

calls_kept : {l : PPPoS} {cs : List Call} {xs : List OurAnswer} {l' : PPPoS} → Calls l cs xs l' → Kept l → Kept l'
calls_kept none k = k
calls_kept (next c rest) k = calls_kept rest (call_kept c k)

calls_reached : {k : Choices} {l : PPPoS} {cs : List Call} {xs : List OurAnswer} {l' : PPPoS} → Calls l cs xs l' → Reached k l → Reached k l'
calls_reached none h = h
calls_reached (next c rest) h = calls_reached rest (call_reached c h)

module _ {name password : List ℕ} {cs : List Call} {xs : List OurAnswer} {l : PPPoS} (h : History name password cs xs l) where
  fresh_kept : Kept h.fresh
  fresh_kept =
      record {
        lasting = all_last.lasting.new name password h.choices h.plain h.crate_reading h.name_bytes h.password_bytes h.new;
        framed = all_last.framed.new name password h.choices h.plain h.crate_reading h.name_bytes h.password_bytes h.new;
      }

  pub history_kept : Kept l
  history_kept = calls_kept h.calls fresh_kept

  pub history_reached : Reached h.choices l
  history_reached = calls_reached h.calls (rw h.new.link (by_new name password))

-- ---- one call

-- an answer of ours and the link behind it are the original's
record SameCall (a : OurAnswer) (l : PPPoS) (s : Answered) : Type 0 where
  answer : a ≡ as_answer s.answer
  link : view_link l ≡ s.link

opened_same : (l : PPPoS) (x : run.Result theirs.PPPoS) {o : Result Unit Refusal} {l' : PPPoS} → SameOpen x l o l' → SameCall (history.opened o) l' (opened_by (view_link l) x)
opened_same l (ok m) (d, v, r) = record { answer = ap history.opened d; link = v }
opened_same l err (d, v) = record { answer = ap history.opened d; link = ap view_link v }

sent-same : (w : WriteResult) {t : Result ℕ Refusal} {tx : List ℕ} → SameSend w t tx → history.sent t tx ≡ as_answer (sent_by w)
sent-same w s = by_test w.is_ok (λ t. rw (s.outcome, s.bytes, t) refl) (λ t. rw (s.outcome, s.bytes, t) refl)

call_same : {l : PPPoS} {c : Call} {a : OurAnswer} {l' : PPPoS} → Called l c a l' → Kept l → (s : Answered) → call_of (view_link l) c ≡ returns s → SameCall a l' s
call_same {l} (history.by_open c) k s e =
    let z : opened_by (view_link l) (theirs.open_link (view_link l)) ≡ s = cc in
    rw z at (opened_same l (theirs.open_link (view_link l)) (same_link.«open» l k.lasting.plain c))
call_same {l} history.by_status k s e =
    let z : record { answer = history.showed (theirs.status_link (view_link l)); link = view_link l } ≡ s = cc in
    rw (← z) (record { answer = ap history.showed (same_link.status l k.lasting.plain); link = refl })
call_same {l} (history.by_consume {bs} {rx} {t} {l'} {rx'} b lent c) k s e =
    let same = same_link.consume l rx bs k.lasting.plain k.lasting.crate_reading lent b c in
    let z : record { answer = history.took (count_of t) rx'; link = view_link l' } ≡ s = cc in
    rw (← z) (record { answer = ap (λ (x : Result ℕ Refusal). history.took x rx') same.0; link = refl })
call_same {l} (history.by_poll {tx} {rx} {a} {l'} {tx'} {rx'} lent c) k s e = go (theirs.poll (view_link l) tx rx) refl
  where
    go : (x : Run theirs.Poll) → theirs.poll (view_link l) tx rx ≡ x → SameCall (history.acted a tx' rx') l' s
    go (returns p) f =
        let same = same_link.poll l tx rx (record { lasting = k.lasting; lent = lent }) c f in
        let z : record { answer = history.acted p.action p.tx p.rx; link = p.link } ≡ s = cc in
        rw (← z) (record { answer = rw (same.action, same.transmit, same.receive) refl; link = same.link })
    go (panics place) f = apart cc
call_same {l} (history.by_send {pkt} {tx} b c) k s e =
    let z : record { answer = sent_by (theirs.send (view_link l) pkt tx); link = view_link l } ≡ s = cc in
    rw (← z) (record { answer = sent-same (theirs.send (view_link l) pkt tx) (same_link.send l pkt tx k.lasting.plain b c); link = refl })

-- ---- one call after the other

calls_same : {l : PPPoS} {cs : List Call} {xs : List OurAnswer} {l' : PPPoS} → Calls l cs xs l' → Kept l → (r : Ran) → calls_of (view_link l) cs ≡ returns r
    → (xs ≡ map as_answer r.answers) × (view_link l' ≡ r.link)
unfolding calls_of
calls_same {l} none k r e =
    let z : record { answers = []; link = view_link l } ≡ r = cc in
    (rw (← z) refl, rw (← z) refl)
calls_same (next {l} {c} {a} {m} {cs} {xs} {n} one rest) k r e = go (λ q f. calls_same rest (call_kept one k) q f) (call_of (view_link l) c) refl
  where
    Goal : Type 0
    Goal = (a ∷ xs ≡ map as_answer r.answers) × (view_link n ≡ r.link)

    More : Type 0
    More = (q : Ran) → calls_of (view_link m) cs ≡ returns q → (xs ≡ map as_answer q.answers) × (view_link n ≡ q.link)

    rests : More → (s : Answered) → call_of (view_link l) c ≡ returns s → SameCall a m s → (y : Run Ran) → calls_of s.link cs ≡ y → Goal
    rests others s f same (returns q) g =
        let behind : Run Ran → Run Ran = λ y. y >>= λ q. returns (record { answers = s.answer ∷ q.answers; link = q.link }) in
        let more = others q (ap (λ (x : theirs.PPPoS). calls_of x cs) same.link ∙ g) in
        let all : calls_of (view_link l) (c ∷ cs) ≡ returns (record { answers = s.answer ∷ q.answers; link = q.link }) = rw f (ap behind g) in
        let z : record { answers = s.answer ∷ q.answers; link = q.link } ≡ r = cc (all, e) in
        (rw (← z) (ap₂ (λ (x : OurAnswer) (y : List OurAnswer). x ∷ y) same.answer more.0), rw (← z) more.1)
    rests others s f same (panics place) g = apart cc

    go : More → (x : Run Answered) → call_of (view_link l) c ≡ x → Goal
    go others (returns s) f = rests others s f (call_same one k s f) (calls_of s.link cs) refl
    go others (panics place) f = apart cc

histories_same : {name password : List ℕ} {cs : List Call} {xs : List OurAnswer} {l : PPPoS} → (h : History name password cs xs l) → {r : Ran} → run_of name password cs ≡ returns r
    → (h.outcome ≡ Ok tt) × (xs ≡ map as_answer r.answers) × (view_link l ≡ r.link)
histories_same {name} {password} {cs} h {r} e =
    let new = same_link.new name password h.choices h.plain h.crate_reading h.fits h.new in
    let run = calls_same h.calls (fresh_kept h) r (sym (ap (λ (x : Run theirs.PPPoS). x >>= λ m. calls_of m cs) new.1) ∙ e) in
    (new.0, run.0, run.1)

pub same-history : SameHistory
same-history = record { same = histories_same }

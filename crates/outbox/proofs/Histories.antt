-- The laws over histories in which one buffer is lent throughout: nothing that was accepted is lost, room is counted, what is held drains.
-- Assumes nothing.
use mathlib.Core.Path.{◌≡◌, refl, ap, ap₂, sym, ◌∙◌}
use mathlib.Core.Bool.{Bool, true, false, cond, ◌||◌}
use mathlib.Core.List.{List, [], ◌∷◌, ◌++◌}
use mathlib.Core.Logic.{◌⊎◌, inl, inr}
use Prim.Native.Nat.{ℕ, ◌+◌, ◌%◌, ◌≤◌, ◌<◌}
use native.Mathlib.Omega.{arith}
use borrow.Author.Tests.{lt-ltb, le-ltb, le-leb, eq-eqb, ne_eqb, eqb-true, leb-true}
use lib.Dec.{eqb, ltb}
use lib.Seq.{take_at}
use lib.ListN.{length}
use Rattle.laws.specs.Each.{Each}
use Rattle.laws.proofs.Cases.{by_le}
use Rattle.framing.specs.Rfc1662.{frame}
use Rattle.negotiation.specs.declared.states.State.TheVariants.{Opened}
use Rattle.link.specs.Link.{remote_map, ip_frame}
use Rattle.link.specs.declared.pppos.PPPoS.{PPPoS}
use Rattle.outbox.specs.Refusal.{outcome_number}
use Rattle.outbox.specs.Ring.{around}
use Rattle.outbox.specs.Outbox.{longest, always_enough, is_enough, held_in, fresh_of, free, is_full, unused, Accept, accept_of, as_accept, front_in, send_of, as_send}
use Rattle.outbox.specs.History.{went, takes, Call, Book, entered, posted, after, history, begun, Untouched, Alone, NothingLost, InARow, room_number, RoomCounted, Drains}
use Rattle.outbox.specs.declared.outbox.Outbox.{Outbox}
use Rattle.outbox.specs.declared.outbox.Accepted.{Accepted}
use Rattle.outbox.specs.declared.outbox.Sent.{Sent}
use Rattle.outbox.proofs.Rings.{around_more}
use Rattle.outbox.proofs.Accepting.{accept_cases, full_count, room_bytes, accepted_at}
use Rattle.outbox.proofs.Sending.{frame_some, opened_up, send-up, frame_most}
use Rattle.outbox.proofs.Queue.{flat_takes, flat_least, takes-append}
use Rattle.outbox.proofs.Keeping.{Kept, kept_start, kept_held, kept_begun, front_kept, kept_after}

-- ---- what a kept book says of the next call

room_free : (b : Book) → Kept b → free b.outbox + takes (held_in b.outbox b.ring) ≡ b.outbox.size
room_free b k = rw (kept_held b k, ← flat_takes k.waiting, ← k.used) (omega (arith, k.room))

room_number_lem : (b : Book) → Kept b → (p buf : List ℕ) → b.outbox.size ≤ length buf
    → outcome_number (accept_of b.outbox buf p).outcome ≡ room_number b.outbox.size (held_in b.outbox b.ring) p
room_number_lem b k p buf h =
    rw (kept_held b k, ← flat_takes k.waiting, ← k.used)
    (accept_cases o buf p (λ (a : Accept). outcome_number a.outcome ≡ told (eqb (length p) 0 || ltb longest (length p)) (ltb o.size (o.used + (length p + 2))))
    (λ s. absurd (omega arith))
    (λ _ w. sym (ap (λ (t : Bool). told t (ltb o.size (o.used + (length p + 2)))) (wrong w)))
    (λ _ z s f. sym (ap₂ told (fair z s) (lt-ltb o.size (o.used + (length p + 2)) (tight f))))
    (λ _ z s f. sym (ap₂ told (fair z s) (le-ltb o.size (o.used + (length p + 2)) (omega (arith, k.room, room_bytes o (length p) f))))))
  where
    o : Outbox
    o = b.outbox

    told : Bool → Bool → ℕ
    told t f = cond t 14 (cond f 15 0)

    wrong : (length p ≡ 0) ⊎ (longest < length p) → eqb (length p) 0 || ltb longest (length p) ≡ true
    wrong (inl e) = ap (λ (t : Bool). t || ltb longest (length p)) (eq-eqb (length p) 0 e)
    wrong (inr s) = ap₂ (λ (x y : Bool). x || y) (ne_eqb (length p) 0 (λ w. omega arith)) (lt-ltb longest (length p) s)

    fair : 0 < length p → length p ≤ longest → eqb (length p) 0 || ltb longest (length p) ≡ false
    fair z s = ap₂ (λ (x y : Bool). x || y) (ne_eqb (length p) 0 (λ w. omega arith)) (le-ltb longest (length p) s)

    few : o.held ≡ 0xFFFFFFFFFFFFFFFF → ⊥
    few e = omega (arith, k.count, k.used, k.room, k.small, flat_least k.waiting)

    -- it is not the count that is full
    tight : is_full o (length p) ≡ true → o.size < o.used + (length p + 2)
    tight f =
        by_le (length p + 2) (free o)
        (λ r. absurd (few (eqb-true o.held 0xFFFFFFFFFFFFFFFF (sym (full_count o (length p) r) ∙ f))))
        (λ r. omega (arith, k.room))

in_a_row_kept : (b : Book) → Kept b → InARow b
in_a_row_kept b k p buf = accepted_at o buf p (λ j. (takes b.accepted + j) % o.size) at
  where
    o : Outbox
    o = b.outbox

    all : takes b.accepted ≡ takes k.gone + o.used
    all = omega (arith, ap takes k.all, takes-append k.gone k.waiting, flat_takes k.waiting, k.used)

    at : (j : ℕ) → o.used + j < o.size → unused o j ≡ (takes b.accepted + j) % o.size
    at j h =
        let m : takes k.gone + (o.used + j) ≡ takes b.accepted + j = omega (arith, all) in
        ap (λ (f : ℕ). around o.size (f + (o.used + j))) (kept_start b k (omega arith))
        ∙ around_more o.size (takes k.gone) (o.used + j) (omega arith) (omega arith)
        ∙ ap (λ (x : ℕ). x % o.size) m

drained : (b : Book) → Kept b → (l : PPPoS) (buf tx : List ℕ) → b.outbox.size ≤ length buf → Untouched b buf → 0 < b.outbox.held → l.ppp.ipv4cp.state ≡ Opened
    → is_enough tx ≡ true → went (send_of b.outbox l buf tx).count ≡ true
drained b k l buf tx h u some d long = go k.waiting refl k.short
  where
    go : (ws : List (List ℕ)) → k.waiting ≡ ws → Each (λ q. length q ≤ longest) ws → went (send_of b.outbox l buf tx).count ≡ true
    go [] e s = absurd (omega (arith, k.count, ap length e))
    go (w ∷ ws) e s =
        let p = front_in b.outbox buf in
        let q : length p ≡ length w = ap length (front_kept b k buf h u e) in
        let t = le-leb (length (frame (remote_map l) (ip_frame p))) (length tx) (omega (arith, frame_most (remote_map l) p, s.0, leb-true always_enough (length tx) long)) in
        rw (send-up b.outbox l buf tx h (λ z. omega arith) (opened_up l d), t) (frame_some (remote_map l) (ip_frame p))

-- ---- the calls as their contracts have them

pub new_begins : (buf : List ℕ) {o : Outbox} → o ≡ fresh_of (length buf) → (begun buf).outbox ≡ o
new_begins buf e = sym e

pub accept_enters : (b : Book) (p buf : List ℕ) {r : Accepted} {buf' : List ℕ} → as_accept r buf' ≡ accept_of b.outbox buf p
    → after b (Call.accepts p buf) ≡ entered b p (as_accept r buf')
accept_enters b p buf e = ap (entered b p) (sym e)

pub send_posts : (b : Book) (l : PPPoS) (buf tx : List ℕ) (r : Sent) {tx' : List ℕ} → as_send r tx' ≡ send_of b.outbox l buf tx
    → after b (Call.sends l buf tx) ≡ posted b l buf (as_send r tx')
send_posts b l buf tx r e = ap (posted b l buf) (sym e)

-- ---- every history

kept_from : (b : Book) → Kept b → (cs : List Call) → Alone b cs → Kept (history b cs)
unfolding history Alone
kept_from b k [] a = k
kept_from b k (c ∷ cs) a = kept_from (after b c) (kept_after b k c a.0) cs a.1

module _ (buf : List ℕ) (cs : List Call) (alone : Alone (begun buf) cs) where
  kept : Kept (history (begun buf) cs)
  kept = kept_from (begun buf) (kept_begun buf) cs alone

  pub nothing_lost : NothingLost (history (begun buf) cs)
  nothing_lost =
      let b = history (begun buf) cs in
      record { packets = kept.gone; framed = kept.framed; all = ap (λ (l : List (List ℕ)). kept.gone ++ l) (kept_held b kept) ∙ kept.all }

  pub room_counted : RoomCounted (history (begun buf) cs)
  room_counted =
      let b = history (begun buf) cs in
      record { bytes = room_free b kept; number = λ p lent h. room_number_lem b kept p lent h }

  pub in_a_row : InARow (history (begun buf) cs)
  in_a_row = in_a_row_kept (history (begun buf) cs) kept

  pub drains : Drains (history (begun buf) cs)
  drains l lent tx h u some d long = drained (history (begun buf) cs) kept l lent tx h u some d long

  -- the next call can be lent the outbox's bytes, with whatever behind them
  pub lent_again : (rest : List ℕ) → Untouched (history (begun buf) cs) ((history (begun buf) cs).ring ++ rest)
  lent_again rest h = let b = history (begun buf) cs in take_at b.ring rest b.outbox.size kept.ring

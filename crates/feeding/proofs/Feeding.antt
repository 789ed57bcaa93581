-- Laws of a fresh link and of a run of received bytes: a turn by what its two calls promise, and turns up to the end.
-- Assumes nothing.
use mathlib.Core.Path.{◌≡◌, refl, ap, ◌∙◌}
use mathlib.Core.Bool.{false}
use mathlib.Core.List.{List, []}
use Prim.Native.Nat.{ℕ, zero, suc, ◌+◌, ◌-◌, ◌*◌, ◌≤◌, ◌<◌}
use native.Mathlib.Omega.{arith}
use borrow.Author.Tests.{eqb-true, eqb-false, ne_eqb, le-leb, lt-leb}
use lib.Dec.{eqb}
use lib.ListN.{length, take, drop, length-drop}
use Rattle.std.specs.Prelude.{Result}
use Rattle.std.specs.Result.{result_unwrap_or}
use Rattle.laws.proofs.Cases.{by_test}
use Rattle.framing.specs.Drops.{no_drops, together, all_of, dropped}
use Rattle.framing.specs.declared.drops.Drops.{Drops}
use Rattle.framing.proofs.Reader.{consumed_left}
use Rattle.framing.proofs.Dropping.{all_together, dropped_most}
use Rattle.options.proofs.Walks.{rest}
use Rattle.link.specs.Link.{Makes, Opens, held_by, Consumes, poll_link, Polls}
use Rattle.link.proofs.Sending.{unwrap_count}
use Rattle.feeding.specs.Feed.{started, idle_after, turns, fed_link, Feeds, Progress, progress_of, one_turn}
use Rattle.link.specs.declared.refusal.Refusal.{Refusal}
use Rattle.link.specs.declared.choices.Choices.{Choices}
use Rattle.link.specs.declared.pppos.PPPoS.{PPPoS}
use Rattle.link.specs.declared.pppos.PPPoSAction.{PPPoSAction}

pub start_polls : {c : Choices} {l l' l'' : PPPoS} {o o' : Result Unit Refusal} {a : Result PPPoSAction Refusal} {tx' rx' : List ℕ} (tx rx : List ℕ)
    → Makes [] [] c o l → Opens l o' l' → Polls (poll_link l' tx rx) a l'' tx' rx'
    → Polls (started c tx rx) a l'' tx' rx'
unfolding started
start_polls tx rx n o p = rw (o.link, n.link) at p

-- ---- a turn

pub turn_feeds : {l l' l'' : PPPoS} {tx' rx rx' rx'' bs : List ℕ} {t : Result ℕ Refusal} {n : ℕ} {a : Result PPPoSAction Refusal} {c d' : Drops} (tx : List ℕ) (d : Drops)
    → Consumes l rx bs t l' rx' → n ≡ result_unwrap_or t 0 → c ≡ dropped (held_by l rx) bs → d' ≡ together d c → Polls (poll_link l' tx rx') a l'' tx' rx''
    → Feeds (one_turn (progress_of l tx rx bs d)) bs n l'' d' tx' rx''
unfolding one_turn
turn_feeds {t = t} tx d e k f g p =
    record {
      count = k ∙ unwrap_count t ∙ e.count;
      link = rw (e.link, e.bytes) at p.link;
      drops = g ∙ ap (together d) f;
      transmit = rw (e.link, e.bytes) at p.transmit;
      receive = rw (e.link, e.bytes) at p.receive;
    }

-- a call drops no more frames than it takes bytes, and no more than it is handed
pub drops-fit : {l l' : PPPoS} {rx rx' bs : List ℕ} {t : Result ℕ Refusal} {m : ℕ} {c : Drops} (d : Drops) → Consumes l rx bs t l' rx' → c ≡ dropped (held_by l rx) bs
    → all_of d + length bs < m → all_of d + all_of c < m
drops-fit {l} {rx = rx} {bs = bs} d e f h = rw f (omega (arith, dropped_most (held_by l rx) bs))

turn_most : (s : Progress) → all_of (one_turn s).drops ≤ all_of s.drops + (length s.left - length (one_turn s).left)
unfolding one_turn
turn_most s = omega (arith, all_together s.drops (dropped (held_by s.link s.rx) s.left), dropped_most (held_by s.link s.rx) s.left)

left_is : (s : Progress) → (one_turn s).left ≡ drop (length s.left - length (one_turn s).left) s.left
unfolding one_turn
left_is s = consumed_left (held_by s.link s.rx) s.left

left_le : (s : Progress) → length (one_turn s).left ≤ length s.left
left_le s = omega (arith, simp length-drop at (ap length (left_is s)))

-- ---- turns

-- a run that goes to the run end, with enough turns left
pub record Ahead (idle : ℕ) (s end : Progress) : Type 0 where
  pub fuel : ℕ
  pub enough : 2 * length s.left + 2 ≤ fuel + idle
  pub same : turns fuel idle s ≡ end

pub starts : (l : PPPoS) (tx rx bs : List ℕ) → Ahead 0 (progress_of l tx rx bs no_drops) (fed_link l tx rx bs)
unfolding fed_link
starts l tx rx bs = record { fuel = 2 * length bs + 2; enough = omega arith; same = refl }

pub goes_on_lem : (idle : ℕ) (s : Progress) {end : Progress} → 0 < length s.left → idle < 2 → (k : ℕ) → turns (suc k) idle s ≡ end
    → turns k (idle_after idle (length s.left - length (one_turn s).left)) (one_turn s) ≡ end
unfolding turns
goes_on_lem idle s h i k e =
    let f : eqb (length s.left) 0 ≡ false = ne_eqb (length s.left) 0 (λ z. omega arith) in
    rw (f, lt-leb 2 idle i) at e

idle_enough : (idle m m' k : ℕ) → 0 < m → m' ≤ m → idle < 2 → 2 * m + 2 ≤ suc k + idle → 2 * m' + 2 ≤ k + idle_after idle (m - m')
idle_enough idle m m' k h l i e =
    by_test (eqb (m - m') 0)
    (λ z. rw z (omega (arith, eqb-true (m - m') 0 z)))
    (λ z. rw z (omega (arith, eqb-false (m - m') 0 z)))

-- one turn on
ahead_next : (idle : ℕ) (s : Progress) {end : Progress} → 0 < length s.left → idle < 2 → Ahead idle s end
    → Ahead (idle_after idle (length s.left - length (one_turn s).left)) (one_turn s) end
ahead_next idle s {end} h i a = go a.fuel a.enough a.same
  where
    go : (k : ℕ) → 2 * length s.left + 2 ≤ k + idle → turns k idle s ≡ end
        → Ahead (idle_after idle (length s.left - length (one_turn s).left)) (one_turn s) end
    go zero e g = absurd (omega arith)
    go (suc k) e g =
        record { fuel = k; enough = idle_enough idle (length s.left) (length (one_turn s).left) k h (left_le s) i e; same = goes_on_lem idle s h i k g }

-- where nothing is left, or two turns took nothing, it is at its end
ahead_end : (idle : ℕ) (s : Progress) {end : Progress} → (0 < length s.left → 2 ≤ idle) → Ahead idle s end → s ≡ end
unfolding turns
ahead_end idle s {end} h a = go a.fuel a.same
  where
    go : (k : ℕ) → turns k idle s ≡ end → s ≡ end
    go zero e = e
    go (suc k) e =
        by_test (eqb (length s.left) 0)
        (λ z. rw z at e)
        (λ z. rw (z, le-leb 2 idle (h (omega (arith, eqb-false (length s.left) 0 z)))) at e)

-- ---- the loop: the bytes left are not taken yet

pub again : {idle n : ℕ} {l l' : PPPoS} {d d' : Drops} {tx tx' rx rx' : List ℕ} {end : Progress} (left : List ℕ) → 0 < length left → idle < 2
    → Ahead idle (progress_of l tx rx left d) end → Feeds (one_turn (progress_of l tx rx left d)) left n l' d' tx' rx'
    → Ahead (idle_after idle n) (progress_of l' tx' rx' (take (length left - n) (drop n left)) d') end
again {idle} {n} {l = l} {d = d} {tx = tx} {rx = rx} left h i a f =
    let s = progress_of l tx rx left d in
    rw (rest left n, f.link, f.drops, f.transmit, f.receive, f.count, ← left_is s) (ahead_next idle s h i a)

-- the bytes taken and those left are all
pub still_all : (at : ℕ) {m n : ℕ} {s : Progress} {l : PPPoS} {d : Drops} {tx rx : List ℕ} (left : List ℕ) → at + length left ≡ m → Feeds s left n l d tx rx
    → at + n + length (take (length left - n) (drop n left)) ≡ m
still_all at {n = n} left h f = rw (rest left n, length-drop n left) (omega (arith, f.count))

-- no more is dropped than is taken
pub still_few : {at n : ℕ} {l' : PPPoS} {d' : Drops} {tx' rx' : List ℕ} (l : PPPoS) (tx rx left : List ℕ) (d : Drops) → all_of d ≤ at
    → Feeds (one_turn (progress_of l tx rx left d)) left n l' d' tx' rx' → all_of d' ≤ at + n
still_few l tx rx left d h f = rw (f.drops, f.count) (omega (arith, turn_most (progress_of l tx rx left d)))

pub finished : {at idle : ℕ} {l : PPPoS} {d : Drops} {tx rx : List ℕ} {end : Progress} (src left : List ℕ) → at + length left ≡ length src → (0 < length left → 2 ≤ idle)
    → Ahead idle (progress_of l tx rx left d) end → Feeds end src at l d tx rx
finished {idle = idle} {l} {d} {tx} {rx} src left h i a =
    rw (← ahead_end idle (progress_of l tx rx left d) i a)
    (record { count = omega arith; link = refl; drops = refl; transmit = refl; receive = refl })

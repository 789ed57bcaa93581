-- What a feed counts: with a transmit buffer that is long enough it takes all bytes, and its counts are the reader's over the whole of them.
-- Assumes nothing.
use mathlib.Core.Path.{◌≡◌, refl, sym, ap, ap₂, ◌∙◌}
use mathlib.Core.Bool.{true, false}
use mathlib.Core.List.{List, [], ◌∷◌}
use Prim.Native.Nat.{ℕ, zero, suc, ◌+◌, ◌-◌, ◌*◌, ◌≤◌, ◌<◌}
use native.Mathlib.Omega.{arith}
use borrow.Author.Tests.{eq-eqb, ne_eqb}
use lib.Dec.{eqb}
use lib.ListN.{length}
use Rattle.laws.proofs.Cases.{by_test, by_le}
use Rattle.framing.specs.Reader.{Held, step, full, Fed, fed, consumed}
use Rattle.framing.specs.Heard.{fetched_in}
use Rattle.framing.specs.Drops.{no_drops, together, drops, missed}
use Rattle.framing.specs.declared.drops.Drops.{Drops}
use Rattle.framing.proofs.Reader.{Kept, Alike, full_alike, fed_kept, fed_stop, fed-step, fed_left_le, consumed-fed}
use Rattle.framing.proofs.Heard.{fetched_kept, fetched_none, fetched_open}
use Rattle.framing.proofs.Dropping.{together_none, none_together, together_assoc, drops_stop, dropped-drops, missed_nil, missed-fed, missed_alike}
use Rattle.link.specs.Frames.{always_enough}
use Rattle.link.specs.Link.{link_of, held_by}
use Rattle.link.specs.declared.pppos.PPPoS.{PPPoS}
use Rattle.link.proofs.Hearing.{poll-fetches}
use Rattle.link.proofs.Leaving.{poll-long}
use Rattle.feeding.specs.Feed.{turns, fed_link, Progress, progress_of, one_turn}
use Rattle.feeding.proofs.Feeding.{goes_on_lem}

-- ---- a turn

abbrev reader_of : Progress → Held
reader_of p = held_by p.link p.rx

-- what is kept lies in the receive buffer, and the transmit buffer is long enough
pub record Lent (p : Progress) : Type 0 where
  pub within : p.link.frame_reader.len ≤ length p.rx
  pub enough : always_enough ≤ length p.tx

module _ (p : Progress) (h : Lent p) where
  abbrev s : Held
  s = reader_of p

  turn_left : (one_turn p).left ≡ (fed s p.left).left
  unfolding one_turn
  turn_left = rw (consumed-fed s p.left h.within)

  turn_drops : (one_turn p).drops ≡ together p.drops (drops s p.left)
  unfolding one_turn
  turn_drops = rw (dropped-drops s p.left h.within)

  room : Kept (length p.rx) (fed s p.left).now
  room = fed_kept (length p.rx) s p.left (record { room = refl; within = h.within })

  -- its poll fetches what its consume completed
  turn_fetches : Alike (reader_of (one_turn p)) (fetched_in (fed s p.left).now)
  unfolding one_turn
  turn_fetches =
      rw (consumed-fed s p.left h.within)
      (poll-fetches (link_of (fed s p.left).now.reader p.link.ppp) p.tx (fed s p.left).now.buf (omega (arith, room.room, room.within)) h.enough)

  turn_open : full (reader_of (one_turn p)) ≡ false
  turn_open = full_alike (reader_of (one_turn p)) (fetched_in (fed s p.left).now) turn_fetches ∙ fetched_open (fed s p.left).now

  turn_long : length (one_turn p).tx ≡ length p.tx
  unfolding one_turn
  turn_long = poll-long (link_of (consumed s p.left).now.reader p.link.ppp) p.tx (consumed s p.left).now.buf

  turn_lent : Lent (one_turn p)
  turn_lent =
      let k = fetched_kept (length p.rx) (fed s p.left).now room in
      record {
        within = rw turn_fetches.same_reader (omega (arith, turn_fetches.same_room, k.room, k.within));
        enough = rw turn_long h.enough;
      }

-- ---- what is counted, and what is still to be counted, stays the same

abbrev Total : Progress → Drops
Total p = together p.drops (missed (fetched_in (reader_of p)) p.left)

turn_total : (p : Progress) → Lent p → Total (one_turn p) ≡ Total p
turn_total p h =
    let q = one_turn p in
    let t = reader_of p in
    let f = fed t p.left in
    let rest : missed (fetched_in (reader_of q)) q.left ≡ missed (fetched_in f.now) f.left =
    ap (λ (x : Held). missed x q.left) (fetched_none (reader_of q) (turn_open p h))
    ∙ missed_alike (reader_of q) (fetched_in f.now) q.left (turn_fetches p h)
    ∙ ap (missed (fetched_in f.now)) (turn_left p h) in
    let same : together (drops t p.left) (missed (fetched_in f.now) f.left) ≡ missed (fetched_in t) p.left =
    by_test (full t)
    (λ e. rw (drops_stop t p.left e, fed_stop t p.left e) (none_together (missed (fetched_in t) p.left)))
    (λ e. sym (missed-fed t p.left e) ∙ ap (λ (x : Held). missed x p.left) (sym (fetched_none t e))) in
    ap₂ together (turn_drops p h) rest
    ∙ together_assoc p.drops (drops t p.left) (missed (fetched_in f.now) f.left)
    ∙ ap (together p.drops) same

-- ---- turns

pub record Counts (end : Progress) (d : Drops) : Type 0 where
  pub counts : end.drops ≡ d
  pub all_taken : end.left ≡ []

none_left : (l : List ℕ) → length l < 1 → l ≡ []
none_left [] h = refl
none_left (b ∷ l) h = absurd (omega arith)

-- where no bytes are left
stops : (k idle : ℕ) (p : Progress) → length p.left < 1 → turns k idle p ≡ p
unfolding turns
stops zero idle p h = refl
stops (suc k) idle p h = rw (none_left p.left h)

done : (k idle : ℕ) (p : Progress) → length p.left < 1 → Counts (turns k idle p) (Total p)
done k idle p h =
    let e = none_left p.left h in
    let t = fetched_in (reader_of p) in
    rw (stops k idle p h)
    (record { counts = sym (ap (λ (l : List ℕ). together p.drops (missed t l)) e ∙ ap (together p.drops) (missed_nil t) ∙ together_none p.drops); all_taken = e })

-- a reader that waits for bytes takes one
shorter : (t : Held) (l : List ℕ) → full t ≡ false → 1 ≤ length l → length (fed t l).left < length l
shorter t [] e h = absurd (omega arith)
shorter t (b ∷ l) e h = rw (fed-step t b l e) (omega (arith, fed_left_le (step t b) l))

runs : (k idle : ℕ) (p : Progress) → Lent p → full (reader_of p) ≡ false → idle < 2 → 2 * length p.left ≤ k → Counts (turns k idle p) (Total p)
runs zero idle p h e i m = done zero idle p (omega arith)
runs (suc k) idle p h e i m =
    by_le 1 (length p.left)
    (λ some.
    let q = one_turn p in
    let less : length q.left < length p.left = rw (turn_left p h) (shorter (reader_of p) p.left e some) in
    let took : eqb (length p.left - length q.left) 0 ≡ false = ne_eqb (length p.left - length q.left) 0 (λ z. omega arith) in
    let on = goes_on_lem idle p some i k refl in
    rw (← on, ← turn_total p h, took) (runs k 0 q (turn_lent p h) (turn_open p h) (omega arith) (omega arith)))
    (λ none. done (suc k) idle p none)

-- a frame that is complete before the first turn is fetched by that turn's poll
waits : (k : ℕ) (p : Progress) → Lent p → full (reader_of p) ≡ true → 2 * length p.left ≤ k → Counts (turns (suc k) 0 p) (Total p)
waits k p h e m =
    by_le 1 (length p.left)
    (λ some.
    let q = one_turn p in
    let same : q.left ≡ p.left = turn_left p h ∙ ap (λ (f : Fed). f.left) (fed_stop (reader_of p) p.left e) in
    let took : eqb (length p.left - length q.left) 0 ≡ true = rw same (eq-eqb (length p.left - length p.left) 0 (omega arith)) in
    let on = goes_on_lem 0 p some (omega arith) k refl in
    rw (← on, ← turn_total p h, took) (runs k 1 q (turn_lent p h) (turn_open p h) (omega arith) (rw same m)))
    (λ none. done (suc k) 0 p none)

-- what a feed counts is what the reader counts over all of its bytes, wherever the calls part them
pub feed_counts : (l : PPPoS) (tx rx bs : List ℕ) → l.frame_reader.len ≤ length rx → always_enough ≤ length tx
    → Counts (fed_link l tx rx bs) (missed (fetched_in (held_by l rx)) bs)
unfolding fed_link
feed_counts l tx rx bs h enough =
    let p = progress_of l tx rx bs no_drops in
    let lent : Lent p = record { within = h; enough = enough } in
    let m : 2 * length bs + 2 ≡ suc (2 * length bs + 1) = omega arith in
    rw (← none_together (missed (fetched_in (held_by l rx)) bs), m)
    (by_test (full (held_by l rx))
    (λ e. waits (2 * length bs + 1) p lent e (omega arith))
    (λ e. runs (suc (2 * length bs + 1)) 0 p lent e (omega arith) (omega arith)))

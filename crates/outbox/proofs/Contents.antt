-- What is held: its length, the packet in front, one packet more, one packet less.
-- Assumes nothing.
use mathlib.Core.Path.{◌≡◌, ap, ap₂, sym, ◌∙◌}
use mathlib.Core.List.{List, ◌++◌}
use Prim.Native.Nat.{ℕ, ◌+◌, ◌*◌, ◌-◌, ◌≤◌, ◌<◌}
use native.Mathlib.Omega.{arith}
use borrow.Author.Tests.{lt-ltb, le-ltb, le-leb, lt-leb}
use lib.ListN.{length, get_or, take, drop, length-drop, drop_of_length-le}
use lib.Seq.{length-take-le, take_all, take-nil, drop-drop, take-append-le, get_or-take, get_or-drop}
use Rattle.laws.proofs.Cases.{by_le}
use Rattle.laws.proofs.Parts.{drop-take, take_of_take}
use Rattle.laws.proofs.Stores.{take_sets}
use Rattle.outbox.specs.Ring.{turned, placed, around}
use Rattle.outbox.specs.Outbox.{start, reach, content, size_in, entry, first, behind, front_in, ring_at, InFront, grown, gone, shrunk}
use Rattle.outbox.specs.declared.outbox.Outbox.{Outbox}
use Rattle.outbox.proofs.Rings.{around_out, around_lt, length-turned, turned_on, placed-turned, turned_at, part_one, part_two}

-- ---- the bytes used

pub start_le : (o : Outbox) → start o ≤ o.size
start_le o = by_le o.size o.front (λ h. rw (le-ltb o.front o.size h) (omega arith)) (λ h. rw (lt-ltb o.front o.size h) (omega arith))

pub reach_le : (o : Outbox) → reach o ≤ o.size
reach_le o = by_le o.size o.used (λ h. rw (le-ltb o.used o.size h) (omega arith)) (λ h. rw (lt-ltb o.used o.size h) (omega arith))

pub gone_le : (o : Outbox) (n : ℕ) → gone o n ≤ reach o
gone_le o n = by_le (reach o) (n + 2) (λ h. rw (le-ltb (n + 2) (reach o) h) (omega arith)) (λ h. rw (lt-ltb (n + 2) (reach o) h) (omega arith))

-- a packet that lies within what is used goes whole
pub gone_whole : (o : Outbox) (n : ℕ) → n + 2 ≤ o.used → o.used ≤ o.size → gone o n ≡ n + 2
gone_whole o n h room =
    by_le (reach o) (n + 2)
    (λ k. rw (le-ltb (n + 2) (reach o) k) (omega (arith, reach_used)))
    (λ k. rw (lt-ltb (n + 2) (reach o) k))
  where
    reach_used : reach o ≡ o.used
    reach_used = by_le o.size o.used (λ k. rw (le-ltb o.used o.size k) (omega arith)) (λ k. rw (lt-ltb o.used o.size k))

-- the ring as it is read
abbrev ring : Outbox → List ℕ → List ℕ
ring o buf = turned (start o) (take o.size buf)

module _ (o : Outbox) (buf : List ℕ) (long : o.size ≤ length buf) where
  pub length_ring : length (turned (start o) (take o.size buf)) ≡ o.size
  length_ring = length-turned (start o) (take o.size buf) ∙ length-take-le o.size buf long

  -- all that is used lies in the ring
  pub content_is : content o buf ≡ take (reach o) (turned (start o) (take o.size buf))
  content_is =
      by_le o.size o.used
      (λ h. rw (le-ltb o.used o.size h) (take_all o.used (ring o buf) (omega (arith, length_ring)) ∙ sym (take_all o.size (ring o buf) (omega (arith, length_ring)))))
      (λ h. rw (lt-ltb o.used o.size h))

  pub length-content : length (content o buf) ≡ reach o
  length-content = ap length content_is ∙ length-take-le (reach o) (ring o buf) (omega (arith, length_ring, reach_le o))

  -- the length that stands in front
  pub size_is : {h l : ℕ} → 2 ≤ reach o → h ≡ get_or (turned (start o) (take o.size buf)) 0 0 → l ≡ get_or (turned (start o) (take o.size buf)) 1 0 → size_in (content o buf) ≡ h * 256 + l
  size_is r p q =
      rw (content_is, get_or-take (reach o) (ring o buf) 0 0 (omega arith), get_or-take (reach o) (ring o buf) 1 0 (omega arith)) (ap₂ (λ (x y : ℕ). x * 256 + y) (sym p) (sym q))

-- ---- the packet in front

pub first_none : (c : List ℕ) → length c < 2 → length (first c) ≡ 0
first_none c h = rw (drop_of_length-le c {i = 2} (omega arith)) (ap length (take-nil {A = ℕ} (size_in c)))

pub first_cut : (c : List ℕ) → 2 ≤ length c → length c - 2 < size_in c → length (first c) ≡ length c - 2
first_cut c h k = ap length (take_all (size_in c) (drop 2 c) (simp length-drop (omega arith))) ∙ length-drop 2 c

pub first_whole : (c : List ℕ) → 2 ≤ length c → size_in c ≤ length c - 2 → length (first c) ≡ size_in c
first_whole c h k = length-take-le (size_in c) (drop 2 c) (simp length-drop (omega arith))

pub first_le : (c : List ℕ) → length (first c) ≤ length c - 2
first_le c = by_le (length c - 2) (size_in c)
    (λ k. omega (arith, ap length (take_all (size_in c) (drop 2 c) (simp length-drop (omega arith))), length-drop 2 c))
    (λ k. omega (arith, length-take-le (size_in c) (drop 2 c) (simp length-drop (omega arith))))

module _ (o : Outbox) (buf : List ℕ) (long : o.size ≤ length buf) where
  pub first_is : first (content o buf) ≡ take (length (first (content o buf))) (drop 2 (turned (start o) (take o.size buf)))
  first_is =
      let k = size_in (content o buf) in
      let d : drop 2 (content o buf) ≡ take (o.used - 2) (drop 2 (ring o buf)) = drop-take 2 o.used (ring o buf) in
      ap (take k) d ∙ take_of_take k (o.used - 2) (drop 2 (ring o buf))
      ∙ ap (λ (l : List ℕ). take (length (take k l)) (drop 2 (ring o buf))) (sym d)

  pub first_fits : (n : ℕ) → n ≡ length (first (content o buf)) → 0 < n → 2 + n ≤ o.size
  first_fits n e z = omega (arith, first_le (content o buf), length-content o buf long, reach_le o)

  pub front_one : (n at : ℕ) → n ≡ length (first (content o buf)) → 0 < n → at ≡ around o.size (start o + 2) → at + n ≤ o.size → take n (drop at buf) ≡ first (content o buf)
  front_one n at e z a h =
      sym (part_one o.size (start o) buf long (start_le o) 2 n (first_fits n e z) at a h)
      ∙ ap (λ (m : ℕ). take m (drop 2 (ring o buf))) e ∙ sym first_is

  pub front_two : (n at : ℕ) → n ≡ length (first (content o buf)) → 0 < n → at ≡ around o.size (start o + 2) → o.size < at + n
      → take (o.size - at) (drop at buf) ++ take (n - (o.size - at)) buf ≡ first (content o buf)
  front_two n at e z a h =
      sym (part_two o.size (start o) buf long (start_le o) 2 n (first_fits n e z) at a h)
      ∙ ap (λ (m : ℕ). take m (drop 2 (ring o buf))) e ∙ sym first_is

-- the packet in front, byte by byte
module _ (o : Outbox) (buf : List ℕ) (long : o.size ≤ length buf) where
  at_front : (i : ℕ) → i < o.size → get_or (turned (start o) (take o.size buf)) i 0 ≡ ring_at o buf i
  at_front i h = turned_at o.size (start o) buf long (start_le o) i h

  pub in_front : InFront o buf (front_in o buf)
  in_front =
      let c = content o buf in
      record {
        long =
            by_le 2 (reach o)
            (λ h.
            let s : size_in c ≡ ring_at o buf 0 * 256 + ring_at o buf 1 = size_is o buf long h (sym (at_front 0 (omega (arith, reach_le o)))) (sym (at_front 1 (omega (arith, reach_le o)))) in
            by_le (size_in c) (length c - 2)
            (λ k. omega (arith, first_whole c (omega (arith, length-content o buf long)) k, length-content o buf long))
            (λ k. omega (arith, first_cut c (omega (arith, length-content o buf long)) k, length-content o buf long)))
            (λ h. omega (arith, first_none c (omega (arith, length-content o buf long))));
        bytes =
            λ j h.
            ap (λ (l : List ℕ). get_or l j 0) (first_is o buf long)
            ∙ get_or-take (length (front_in o buf)) (drop 2 (ring o buf)) j 0 h ∙ get_or-drop 2 (ring o buf) j 0
            ∙ at_front (2 + j) (omega (arith, first_le c, length-content o buf long, reach_le o));
      }

-- the length in front, as the code reads it: with fewer than two bytes used, past what is used, or whole
module _ (o : Outbox) (buf : List ℕ) (long : o.size ≤ length buf) where
  pub read_none : {r : ℕ} → r ≡ reach o → r < 2 → 0 ≡ length (first (content o buf))
  read_none e h = sym (first_none (content o buf) (omega (arith, length-content o buf long)))

  module _ (f h l r x y : ℕ) (fe : f ≡ start o) (re : r ≡ reach o) (two : 2 ≤ r) (hx : h ≡ x) (ly : l ≡ y)
      (xe : x ≡ get_or (turned f (take o.size buf)) 0 0) (ye : y ≡ get_or (turned f (take o.size buf)) 1 0) where
    read_size : size_in (content o buf) ≡ h * 256 + l
    read_size = size_is o buf long (omega arith) (hx ∙ (rw fe at xe)) (ly ∙ (rw fe at ye))

    pub read_cut : r - 2 < h * 256 + l → r - 2 ≡ length (first (content o buf))
    read_cut k = sym (first_cut (content o buf) (omega (arith, length-content o buf long)) (omega (arith, length-content o buf long, read_size)) ∙ omega (arith, length-content o buf long))

    pub read_whole : h * 256 + l ≤ r - 2 → h * 256 + l ≡ length (first (content o buf))
    read_whole k = sym (first_whole (content o buf) (omega (arith, length-content o buf long)) (omega (arith, length-content o buf long, read_size)) ∙ read_size)

-- ---- one packet less

pub shrunk_last : (o : Outbox) (n : ℕ) {f : ℕ} → o.held ≤ 1 → f ≡ around o.size (start o + gone o n)
    → ◌≡◌ {A = Outbox} (record { size = o.size; front = f; used = 0; held = 0 }) (shrunk o n)
shrunk_last o n h e =
    let z : 0 ≡ o.held - 1 = omega arith in
    rw (le-leb o.held 1 h) (ap₂ (λ (x y : ℕ). record { size = o.size; front = x; used = 0; held = y }) e z)

pub shrunk_more : (o : Outbox) (n : ℕ) {f r g : ℕ} → 1 < o.held → f ≡ around o.size (start o + gone o n) → r ≡ reach o → g ≡ gone o n
    → ◌≡◌ {A = Outbox} (record { size = o.size; front = f; used = r - g; held = o.held - 1 }) (shrunk o n)
shrunk_more o n h e p q =
    rw (lt-leb o.held 1 h) (ap₂ (λ (x y : ℕ). record { size = o.size; front = x; used = y; held = o.held - 1 }) e (ap₂ (λ (x y : ℕ). x - y) p q))

pub start_lt : (o : Outbox) → 0 < o.size → start o < o.size
start_lt o z = by_le o.size o.front (λ h. rw (le-ltb o.front o.size h) (omega arith)) (λ h. rw (lt-ltb o.front o.size h) (omega arith))

pub start_front : (o : Outbox) → o.front < o.size → start o ≡ o.front
start_front o h = rw (lt-ltb o.front o.size h)

-- the front lies inside again
start-shrunk : (o : Outbox) (n : ℕ) → start (shrunk o n) ≡ around o.size (start o + gone o n)
start-shrunk o n = by_le 1 o.size
    (λ h.
    let k : around o.size (start o + gone o n) < o.size = around_lt o.size (start o + gone o n) (omega (arith, start_lt o (omega arith), gone_le o n, reach_le o)) in
    rw (lt-ltb (around o.size (start o + gone o n)) o.size k))
    (λ h.
    let e : start o + gone o n - o.size ≡ 0 = omega (arith, start_le o, gone_le o n, reach_le o) in
    let a : around o.size (start o + gone o n) ≡ 0 = around_out o.size (start o + gone o n) (omega arith) ∙ e in
    rw (a, le-ltb 0 o.size (omega arith)))

-- what goes with the packet in front is all up to what stands behind it
behind-gone : (o : Outbox) (c : List ℕ) → length c ≡ reach o → drop (gone o (length (first c))) c ≡ behind c
behind-gone o c e = sym (rw (drop-drop (size_in c) 2 c)
    (by_le (reach o) (length (first c) + 2)
    (λ h.
    let m : reach o ≤ 2 + size_in c = by_le (size_in c) (length c - 2) (λ k. by_le 2 (length c) (λ z. omega (arith, first_whole c z k)) (λ z. omega arith)) (λ k. omega arith) in
    rw (le-ltb (length (first c) + 2) (reach o) h) (drop_of_length-le c {i = 2 + size_in c} (omega arith) ∙ sym (drop_of_length-le c {i = reach o} (omega arith))))
    (λ h.
    let w : length (first c) ≡ size_in c = by_le (size_in c) (length c - 2) (first_whole c (omega arith)) (λ k. absurd (omega (arith, first_cut c (omega arith) k))) in
    let j : 2 + size_in c ≡ length (first c) + 2 = omega arith in
    rw (lt-ltb (length (first c) + 2) (reach o) h) (ap (λ (n : ℕ). drop n c) j))))

-- the front moves on by one packet
pub content-shrunk : (o : Outbox) (buf : List ℕ) → o.size ≤ length buf → 1 < o.held
    → content (shrunk o (length (first (content o buf)))) buf ≡ behind (content o buf)
content-shrunk o buf long h =
    let m = length (first (content o buf)) in
    let g = gone o m in
    let r = take o.size buf in
    let lr : length r ≡ o.size = length-take-le o.size buf long in
    let ld : length (drop g (ring o buf)) ≡ o.size - g = simp (length-drop, length_ring o buf long) in
    let turn : turned (start (shrunk o m)) r ≡ turned g (ring o buf) =
    ap (λ (i : ℕ). turned i r) (start-shrunk o m) ∙ sym (turned_on (start o) g o.size r lr (start_le o) (omega (arith, gone_le o m, reach_le o))) in
    rw (lt-leb o.held 1 h)
    (ap (take (reach o - g)) turn
    ∙ take-append-le (reach o - g) (drop g (ring o buf)) (take g (ring o buf)) (omega (arith, reach_le o))
    ∙ sym (drop-take g (reach o) (ring o buf)) ∙ ap (drop g) (sym (content_is o buf long))
    ∙ behind-gone o (content o buf) (length-content o buf long))

-- ---- one packet more

pub content-grown : (o : Outbox) (buf p : List ℕ) → o.size ≤ length buf → o.used + length (entry p) ≤ o.size
    → content (grown o (length p)) (placed o.size (start o) o.used (entry p) buf) ≡ content o buf ++ entry p
content-grown o buf p long room =
    let e : o.used + 2 + length p ≡ o.used + length (entry p) = omega arith in
    ap₂ (λ (n : ℕ) (l : List ℕ). take n l) e (placed-turned o.size (start o) o.used (entry p) buf long (start_le o))
    ∙ take_sets (entry p) (ring o buf) o.used (omega (arith, length_ring o buf long))

-- Laws of a ring: turning it, writing into it, reading a part of it.
-- Assumes nothing.
use mathlib.Core.Path.{◌≡◌, ap, ap₂, sym, ◌∙◌}
use mathlib.Core.List.{List, ◌++◌, append_assoc}
use Prim.Native.Nat.{ℕ, ◌+◌, ◌-◌, ◌%◌, ◌≤◌, ◌<◌}
use native.Mathlib.Nat.{mod-lt, mod-eq_of_lt, mod-add-mod, mod-eq-sub-mod}
use native.Mathlib.Omega.{arith}
use borrow.Author.Tests.{lt-ltb, le-ltb}
use lib.ListN.{length, get_or, take, drop, length-append, length-drop, take-append-drop, get_or-append}
use lib.Seq.{sets, length-sets, length-take-le, take_at, drop_at, take-take, take-add, drop-drop, take-append-le, drop-append-le, take-append-add, drop-append-add, get_or-append-add, get_or-take, get_or-drop}
use Rattle.laws.proofs.Cases.{by_le}
use Rattle.laws.proofs.Parts.{drop-take}
use Rattle.laws.proofs.Stores.{sets_append, sets_left, sets_right, sets_out, sets_in}
use Rattle.outbox.specs.Ring.{turned, placed, around}

-- ---- indexes

pub around_in : (n i : ℕ) → i < n → around n i ≡ i
around_in n i h = rw (lt-ltb i n h)

pub around_out : (n i : ℕ) → n ≤ i → around n i ≡ i - n
around_out n i h = rw (le-ltb i n h)

-- below the size, where there is one
pub around_lt : (n i : ℕ) → i < n + n → around n i < n
around_lt n i h = by_le n i (λ k. rw (around_out n i k) (omega arith)) (λ k. rw (around_in n i k) (omega arith))

-- once round is the remainder of a division by the size
around_rest : (n i : ℕ) → i < n + n → around n i ≡ i % n
around_rest n i h =
    by_le n i
    (λ k. around_out n i k ∙ sym (mod-eq-sub-mod k ∙ mod-eq_of_lt (omega arith)))
    (λ k. around_in n i k ∙ sym (mod-eq_of_lt k))

-- m indexes further on than a of them lead to from index 0, round and round
pub around_more : (n a m : ℕ) → 0 < n → m ≤ n → around n (a % n + m) ≡ (a + m) % n
around_more n a m z h = around_rest n (a % n + m) (omega (arith, mod-lt a z)) ∙ mod-add-mod a n m

-- ---- turning

pub length-turned : (f : ℕ) (r : List ℕ) → length (turned f r) ≡ length r
length-turned f r =
    omega (arith, length-append (drop f r) (take f r), length-append (take f r) (drop f r), ap length (take-append-drop f r))

pub swapped : (m : ℕ) (a b : List ℕ) → length b ≡ m → turned m (b ++ a) ≡ a ++ b
swapped m a b h = rw (drop_at b a m h, take_at b a m h)

pub turned_back : (f n : ℕ) (x : List ℕ) → length x ≡ n → f ≤ n → turned f (turned (n - f) x) ≡ x
turned_back f n x l h =
    let e : length (drop (n - f) x) ≡ f = simp length-drop (omega arith) in
    swapped f (take (n - f) x) (drop (n - f) x) e ∙ take-append-drop (n - f) x

-- one turn behind another
pub turned_on : (f g n : ℕ) (r : List ℕ) → length r ≡ n → f ≤ n → g ≤ n → turned g (turned f r) ≡ turned (around n (f + g)) r
turned_on f g n r l hf hg = by_le n (f + g) far near
  where
    lb : length (drop f r) ≡ n - f
    lb = simp length-drop (omega arith)

    near : f + g < n → turned g (turned f r) ≡ turned (around n (f + g)) r
    near h =
        rw (around_in n (f + g) h, drop-append-le g (drop f r) (take f r) (omega (arith, lb)), take-append-le g (drop f r) (take f r) (omega (arith, lb)), drop-drop g f r, take-add f g r)
        (append_assoc (drop (f + g) r) (take f r) (take g (drop f r)))

    far : n ≤ f + g → turned g (turned f r) ≡ turned (around n (f + g)) r
    far h =
        let j = f + g - n in
        let e : g ≡ length (drop f r) + j = omega (arith, lb) in
        let d : drop g (turned f r) ≡ drop j (take f r) = ap (λ (m : ℕ). drop m (turned f r)) e ∙ drop-append-add (drop f r) (take f r) j in
        let t : take g (turned f r) ≡ drop f r ++ take j (take f r) = ap (λ (m : ℕ). take m (turned f r)) e ∙ take-append-add (drop f r) (take f r) j in
        let x : drop j r ≡ drop j (take f r) ++ drop f r = ap (drop j) (sym (take-append-drop f r)) ∙ drop-append-le j (take f r) (drop f r) (omega (arith, length-take-le f r (omega arith))) in
        rw (around_out n (f + g) h, d, t, x, take-take j f r (omega arith))
        (sym (append_assoc (drop j (take f r)) (drop f r) (take j r)))

-- ---- writing

module _ (a b c : List ℕ) where
  into_second : (u : ℕ) (s : List ℕ) → u + length s ≤ length b → sets ((a ++ b) ++ c) (length a + u) s ≡ (a ++ sets b u s) ++ c
  into_second u s h =
      sets_left (a ++ b) c s (length a + u) (omega (arith, length-append a b)) ∙ ap (λ (l : List ℕ). l ++ c) (sets_right a b s u)

  into_first : (i : ℕ) (s : List ℕ) → i + length s ≤ length a → sets ((a ++ b) ++ c) i s ≡ (sets a i s ++ b) ++ c
  into_first i s h =
      sets_left (a ++ b) c s i (omega (arith, length-append a b)) ∙ ap (λ (l : List ℕ). l ++ c) (sets_left a b s i h)

module _ (n f u : ℕ) (s buf : List ℕ) (long : n ≤ length buf) (inside : f ≤ n) (room : u + length s ≤ n) where
  la : length (take f (take n buf)) ≡ f
  la = length-take-le f (take n buf) (rw (length-take-le n buf long) inside)

  lb : length (drop f (take n buf)) ≡ n - f
  lb = simp (length-drop, length-take-le n buf long)

  whole : (take f (take n buf) ++ drop f (take n buf)) ++ drop n buf ≡ buf
  whole = rw (take-append-drop f (take n buf)) (take-append-drop n buf)

  -- what stands where the ring is turned back
  pub placed_is : (x y : List ℕ) → length y ≡ n - f → sets (turned f (take n buf)) u s ≡ y ++ x → placed n f u s buf ≡ (x ++ y) ++ drop n buf
  unfolding placed
  placed_is x y h e = rw e (ap (λ (l : List ℕ). l ++ drop n buf) (swapped (n - f) x y h))

  pub put_one : (at : ℕ) → at ≡ around n (f + u) → at + length s ≤ n → sets buf at s ≡ placed n f u s buf
  put_one at e h = by_le n (f + u) far near
    where
      near : f + u < n → sets buf at s ≡ placed n f u s buf
      near k =
          let a = take f (take n buf) in
          let b = drop f (take n buf) in
          let fits : u + length s ≤ length b = omega (arith, lb, e ∙ around_in n (f + u) k) in
          let i : at ≡ length a + u = e ∙ around_in n (f + u) k ∙ sym (ap (λ (m : ℕ). m + u) la) in
          ap (λ (l : List ℕ). sets l at s) (sym whole) ∙ rw i (into_second a b (drop n buf) u s fits)
          ∙ sym (placed_is a (sets b u s) (length-sets b u s ∙ lb) (sets_left b a s u fits))

      far : n ≤ f + u → sets buf at s ≡ placed n f u s buf
      far k =
          let a = take f (take n buf) in
          let b = drop f (take n buf) in
          let i : at ≡ f + u - n = e ∙ around_out n (f + u) k in
          let j : u ≡ length b + at = omega (arith, lb) in
          let fits : at + length s ≤ length a = omega (arith, la) in
          ap (λ (l : List ℕ). sets l at s) (sym whole) ∙ into_first a b (drop n buf) at s fits
          ∙ sym (placed_is (sets a at s) b lb (ap (λ (m : ℕ). sets (b ++ a) m s) j ∙ sets_right b a s at))

  pub put_two : (at : ℕ) → at ≡ around n (f + u) → n < at + length s → sets (sets buf at (take (n - at) s)) 0 (drop (n - at) s) ≡ placed n f u s buf
  put_two at e h = by_le n (f + u) (λ k. absurd (omega (arith, e ∙ around_out n (f + u) k))) near
    where
      near : f + u < n → sets (sets buf at (take (n - at) s)) 0 (drop (n - at) s) ≡ placed n f u s buf
      near k =
          let a = take f (take n buf) in
          let b = drop f (take n buf) in
          let p = take (n - at) s in
          let q = drop (n - at) s in
          let i : at ≡ f + u = e ∙ around_in n (f + u) k in
          let lp : length p ≡ n - at = length-take-le (n - at) s (omega arith) in
          let lq : length q ≡ length s - (n - at) = length-drop (n - at) s in
          let j : at ≡ length a + u = omega (arith, la) in
          let fits : u + length p ≤ length b = omega (arith, lb) in
          let ends : u + length p ≡ length (sets b u p) + 0 = omega (arith, lb, length-sets b u p) in
          let fits2 : 0 + length q ≤ length a = omega (arith, la) in
          let split : sets (b ++ a) u s ≡ sets b u p ++ sets a 0 q =
          ap (sets (b ++ a) u) (sym (take-append-drop (n - at) s)) ∙ sym (sets_append p q (b ++ a) u)
          ∙ rw (sets_left b a p u fits, ends) (sets_right (sets b u p) a q 0) in
          ap (λ (l : List ℕ). sets (sets l at p) 0 q) (sym whole)
          ∙ ap (λ (l : List ℕ). sets l 0 q) (ap (λ (m : ℕ). sets ((a ++ b) ++ drop n buf) m p) j ∙ into_second a b (drop n buf) u p fits)
          ∙ into_first a (sets b u p) (drop n buf) 0 q fits2
          ∙ sym (placed_is (sets a 0 q) (sets b u p) (length-sets b u p ∙ lb) split)

-- what a writing leaves, turned; and the rest of the buffer
module _ (n f u : ℕ) (s buf : List ℕ) (long : n ≤ length buf) (inside : f ≤ n) where
  length-written : length (sets (turned f (take n buf)) u s) ≡ n
  length-written = length-sets (turned f (take n buf)) u s ∙ length-turned f (take n buf) ∙ length-take-le n buf long

  length_ring : length (turned (n - f) (sets (turned f (take n buf)) u s)) ≡ n
  length_ring = length-turned (n - f) (sets (turned f (take n buf)) u s) ∙ length-written

  pub placed-turned : turned f (take n (placed n f u s buf)) ≡ sets (turned f (take n buf)) u s
  unfolding placed
  placed-turned =
      ap (turned f) (take_at (turned (n - f) (sets (turned f (take n buf)) u s)) (drop n buf) n length_ring)
      ∙ turned_back f n (sets (turned f (take n buf)) u s) length-written inside

  pub placed-drop : drop n (placed n f u s buf) ≡ drop n buf
  unfolding placed
  placed-drop = drop_at (turned (n - f) (sets (turned f (take n buf)) u s)) (drop n buf) n length_ring

  pub length-placed : length (placed n f u s buf) ≡ length buf
  unfolding placed
  length-placed =
      omega (arith, length-append (turned (n - f) (sets (turned f (take n buf)) u s)) (drop n buf), length_ring, length-drop n buf)

pub placed_then : (n f u : ℕ) (s t buf : List ℕ) → n ≤ length buf → f ≤ n → placed n f (u + length s) t (placed n f u s buf) ≡ placed n f u (s ++ t) buf
unfolding placed
placed_then n f u s t buf long inside = ap₂ (λ (x y : List ℕ). turned (n - f) (sets x (u + length s) t) ++ y) (placed-turned n f u s buf long inside) (placed-drop n f u s buf long inside) ∙ go
  where
    go : turned (n - f) (sets (sets (turned f (take n buf)) u s) (u + length s) t) ++ drop n buf ≡ placed n f u (s ++ t) buf
    go = rw (sets_append s t (turned f (take n buf)) u)

-- ---- reading

module _ (n f : ℕ) (buf : List ℕ) (long : n ≤ length buf) (inside : f ≤ n) where
  length_turn : length (turned f (take n buf)) ≡ n
  length_turn = length-turned f (take n buf) ∙ length-take-le n buf long

  second : length (drop f (take n buf)) ≡ n - f
  second = simp (length-drop, length-take-le n buf long)

  pub turned_at : (i : ℕ) → i < n → get_or (turned f (take n buf)) i 0 ≡ get_or buf (around n (f + i)) 0
  turned_at i h = by_le n (f + i) far near
    where
      near : f + i < n → get_or (turned f (take n buf)) i 0 ≡ get_or buf (around n (f + i)) 0
      near k =
          rw (around_in n (f + i) k)
          (get_or-append (drop f (take n buf)) (take f (take n buf)) 0 i (omega (arith, second)) ∙ get_or-drop f (take n buf) i 0 ∙ get_or-take n buf (f + i) 0 k)

      far : n ≤ f + i → get_or (turned f (take n buf)) i 0 ≡ get_or buf (around n (f + i)) 0
      far k =
          let j = f + i - n in
          let e : i ≡ length (drop f (take n buf)) + j = omega (arith, second) in
          rw (around_out n (f + i) k)
          (ap (λ (m : ℕ). get_or (turned f (take n buf)) m 0) e ∙ get_or-append-add (drop f (take n buf)) (take f (take n buf)) j 0
          ∙ get_or-take f (take n buf) j 0 (omega arith) ∙ get_or-take n buf j 0 (omega arith))

  module _ (i m : ℕ) (room : i + m ≤ n) where
    near_part : f + i < n → drop i (turned f (take n buf)) ≡ take (n - (f + i)) (drop (f + i) buf) ++ take f (take n buf)
    near_part k =
        drop-append-le i (drop f (take n buf)) (take f (take n buf)) (omega (arith, second))
        ∙ ap (λ (l : List ℕ). l ++ take f (take n buf)) (drop-drop i f (take n buf) ∙ drop-take (f + i) n buf)

    near_long : f + i < n → length (take (n - (f + i)) (drop (f + i) buf)) ≡ n - (f + i)
    near_long k = length-take-le (n - (f + i)) (drop (f + i) buf) (simp length-drop (omega arith))

    pub part_one : (at : ℕ) → at ≡ around n (f + i) → at + m ≤ n → take m (drop i (turned f (take n buf))) ≡ take m (drop at buf)
    part_one at e h = by_le n (f + i) far near
      where
        near : f + i < n → take m (drop i (turned f (take n buf))) ≡ take m (drop at buf)
        near k =
            let q : at ≡ f + i = e ∙ around_in n (f + i) k in
            rw q
            (ap (take m) (near_part k) ∙ take-append-le m (take (n - (f + i)) (drop (f + i) buf)) (take f (take n buf)) (omega (arith, near_long k))
            ∙ take-take m (n - (f + i)) (drop (f + i) buf) (omega arith))

        far : n ≤ f + i → take m (drop i (turned f (take n buf))) ≡ take m (drop at buf)
        far k =
            let q : at ≡ f + i - n = e ∙ around_out n (f + i) k in
            let j : i ≡ length (drop f (take n buf)) + at = omega (arith, second) in
            ap (λ (x : ℕ). take m (drop x (turned f (take n buf)))) j
            ∙ ap (take m) (drop-append-add (drop f (take n buf)) (take f (take n buf)) at ∙ ap (drop at) (take-take f n buf inside) ∙ drop-take at f buf)
            ∙ take-take m (f - at) (drop at buf) (omega arith)

    pub part_two : (at : ℕ) → at ≡ around n (f + i) → n < at + m → take m (drop i (turned f (take n buf))) ≡ take (n - at) (drop at buf) ++ take (m - (n - at)) buf
    part_two at e h = by_le n (f + i) (λ k. absurd (omega (arith, e ∙ around_out n (f + i) k))) near
      where
        near : f + i < n → take m (drop i (turned f (take n buf))) ≡ take (n - at) (drop at buf) ++ take (m - (n - at)) buf
        near k =
            let q : at ≡ f + i = e ∙ around_in n (f + i) k in
            let x = take (n - (f + i)) (drop (f + i) buf) in
            let r = m - (n - (f + i)) in
            let lx : length x ≡ n - (f + i) = near_long k in
            let j : m ≡ length x + r = omega arith in
            rw q
            (ap (take m) (near_part k) ∙ ap (λ (y : ℕ). take y (x ++ take f (take n buf))) j ∙ take-append-add x (take f (take n buf)) r
            ∙ ap (λ (l : List ℕ). x ++ l) (take-take r f (take n buf) (omega arith) ∙ take-take r n buf (omega arith)))

-- ---- index by index

module _ (n f u : ℕ) (s buf : List ℕ) (long : n ≤ length buf) (inside : f ≤ n) (room : u + length s ≤ n) where
  still_long : n ≤ length (placed n f u s buf)
  still_long = omega (arith, length-placed n f u s buf long inside)

  -- what stands behind the first i from the front on
  at_front : (i : ℕ) → i < n → get_or (placed n f u s buf) (around n (f + i)) 0 ≡ get_or (sets (turned f (take n buf)) u s) i 0
  at_front i h =
      sym (turned_at n f (placed n f u s buf) still_long inside i h)
      ∙ ap (λ (l : List ℕ). get_or l i 0) (placed-turned n f u s buf long inside)

  pub placed_new : (j : ℕ) → j < length s → get_or (placed n f u s buf) (around n (f + (u + j))) 0 ≡ get_or s j 0
  placed_new j h =
      at_front (u + j) (omega arith)
      ∙ sets_in s (turned f (take n buf)) u j (omega (arith, length_turn n f buf long inside)) h

  -- the byte at index i is so many behind the front
  behind_front : (i : ℕ) → i < n → (k : ℕ) × (k < n) × (around n (f + k) ≡ i)
  behind_front i h =
      by_le f i
      (λ p. (i - f, omega arith, around_in n (f + (i - f)) (omega arith) ∙ omega arith))
      (λ p. (i + (n - f), omega arith, around_out n (f + (i + (n - f))) (omega arith) ∙ omega arith))

  pub placed_others : (i : ℕ) → ((j : ℕ) → j < length s → i ≡ around n (f + (u + j)) → ⊥) → get_or (placed n f u s buf) i 0 ≡ get_or buf i 0
  placed_others i h = by_le n i far near
    where
      far : n ≤ i → get_or (placed n f u s buf) i 0 ≡ get_or buf i 0
      far p =
          let e : i ≡ n + (i - n) = omega arith in
          ap (λ (m : ℕ). get_or (placed n f u s buf) m 0) e ∙ sym (get_or-drop n (placed n f u s buf) (i - n) 0)
          ∙ ap (λ (l : List ℕ). get_or l (i - n) 0) (placed-drop n f u s buf long inside) ∙ get_or-drop n buf (i - n) 0
          ∙ ap (λ (m : ℕ). get_or buf m 0) (sym e)

      near : i < n → get_or (placed n f u s buf) i 0 ≡ get_or buf i 0
      near p =
          let b = behind_front i p in
          let k = b.0 in
          let e : around n (f + k) ≡ i = b.2 in
          let out : u ≤ k → k < u + length s → ⊥ = λ x y. let j : u + (k - u) ≡ k = omega arith in h (k - u) (omega arith) (sym e ∙ ap (λ (m : ℕ). around n (f + m)) (sym j)) in
          ap (λ (m : ℕ). get_or (placed n f u s buf) m 0) (sym e) ∙ at_front k b.1
          ∙ sets_out s (turned f (take n buf)) u k out
          ∙ turned_at n f buf long inside k b.1 ∙ ap (λ (m : ℕ). get_or buf m 0) e

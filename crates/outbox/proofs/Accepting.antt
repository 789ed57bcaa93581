-- The call that accepts, by its tests.
-- Assumes nothing.
use mathlib.Core.Path.{◌≡◌, refl, ap, ap₂, sym, ◌∙◌, subst}
use mathlib.Core.Bool.{Bool, true, false, true≢false, ◌||◌}
use mathlib.Core.List.{List, ◌++◌}
use mathlib.Core.Logic.{◌⊎◌, inl, inr}
use Prim.Native.Nat.{ℕ, ◌+◌, ◌≤◌, ◌<◌}
use native.Mathlib.Omega.{arith}
use borrow.Author.Tests.{lt-ltb, le-ltb, eq-eqb, ne_eqb, eqb-false}
use lib.Dec.{eqb}
use lib.ListN.{length, get_or}
use Rattle.std.specs.Prelude.{Result, Ok, Err}
use Rattle.laws.proofs.Cases.{by_le, by_test}
use Rattle.outbox.specs.Ring.{placed}
use Rattle.outbox.specs.Outbox.{start, sized, entry, longest, free, is_full, Accept, declined, grown, Stored, unused, accept_of, as_accept}
use Rattle.outbox.specs.History.{taken}
use Rattle.outbox.specs.declared.refusal.Refusal.{Refusal}
use Rattle.outbox.specs.declared.refusal.Refusal.TheVariants.{BufferShort, PacketLength, NoRoom}
use Rattle.outbox.specs.declared.outbox.Outbox.{Outbox}
use Rattle.outbox.specs.declared.outbox.Accepted.{Accepted}
use Rattle.outbox.proofs.Rings.{placed_then, length-placed, placed_new, placed_others}
use Rattle.outbox.proofs.Contents.{start_le}

pub declined_is : {r : Accepted} {why : Refusal} {o : Outbox} (buf : List ℕ) → r.outcome ≡ Err why → r.outbox ≡ o → as_accept r buf ≡ declined why o buf
declined_is buf p q = ap₂ (λ (x : Result Unit Refusal) (y : Outbox). record { outcome = x; outbox = y; buf = buf }) p q

module _ (o : Outbox) (buf p : List ℕ) where
  pub accept_short : length buf < o.size → accept_of o buf p ≡ declined BufferShort o buf
  unfolding accept_of
  accept_short h = rw (lt-ltb _ _ h)

  pub accept_empty : o.size ≤ length buf → length p ≡ 0 → accept_of o buf p ≡ declined PacketLength o buf
  unfolding accept_of
  accept_empty h e = rw (le-ltb (length buf) o.size h, eq-eqb (length p) 0 e)

  pub accept_long : o.size ≤ length buf → longest < length p → accept_of o buf p ≡ declined PacketLength o buf
  unfolding accept_of
  accept_long h e = rw (le-ltb (length buf) o.size h, ne_eqb (length p) 0 (λ w. omega arith), lt-ltb longest (length p) e)

  pub accept_full : o.size ≤ length buf → 0 < length p → length p ≤ longest → is_full o (length p) ≡ true → accept_of o buf p ≡ declined NoRoom o buf
  unfolding accept_of
  accept_full h z e f = rw (le-ltb (length buf) o.size h, ne_eqb (length p) 0 (λ w. omega arith), le-ltb longest (length p) e, f)

  pub accept_done : o.size ≤ length buf → 0 < length p → length p ≤ longest → is_full o (length p) ≡ false
      → accept_of o buf p ≡ record { outcome = (Ok tt); outbox = grown o (length p); buf = placed o.size (start o) o.used (entry p) buf }
  unfolding accept_of
  accept_done h z e f = rw (le-ltb (length buf) o.size h, ne_eqb (length p) 0 (λ w. omega arith), le-ltb longest (length p) e, f)

  -- what holds of each answer where it may be given holds of the one that is given
  pub accept_cases : (P : Accept → Type 0)
      → (length buf < o.size → P (declined BufferShort o buf))
      → (o.size ≤ length buf → (length p ≡ 0) ⊎ (longest < length p) → P (declined PacketLength o buf))
      → (o.size ≤ length buf → 0 < length p → length p ≤ longest → is_full o (length p) ≡ true → P (declined NoRoom o buf))
      → (o.size ≤ length buf → 0 < length p → length p ≤ longest → is_full o (length p) ≡ false
      → P (record { outcome = (Ok tt); outbox = grown o (length p); buf = placed o.size (start o) o.used (entry p) buf }))
      → P (accept_of o buf p)
  accept_cases P short wrong full done =
      by_le o.size (length buf)
      (λ h.
      by_le 1 (length p)
      (λ z.
      by_le (length p) longest
      (λ s.
      by_test (is_full o (length p))
      (λ f. subst P (sym (accept_full h (omega arith) s f)) (full h (omega arith) s f))
      (λ f. subst P (sym (accept_done h (omega arith) s f)) (done h (omega arith) s f)))
      (λ s. subst P (sym (accept_long h s)) (wrong h (inr s))))
      (λ z. let e : length p ≡ 0 = omega arith in subst P (sym (accept_empty h e)) (wrong h (inl e))))
      (λ h. subst P (sym (accept_short h)) (short h))

  -- the same where it is one thing for all refusals
  pub accept_either : (P : Accept → Type 0)
      → ((why : Refusal) → P (declined why o buf))
      → (o.size ≤ length buf → 0 < length p → length p ≤ longest → is_full o (length p) ≡ false
      → P (record { outcome = (Ok tt); outbox = grown o (length p); buf = placed o.size (start o) o.used (entry p) buf }))
      → P (accept_of o buf p)
  accept_either P refused done = accept_cases P (λ h. refused BufferShort) (λ h w. refused PacketLength) (λ h z s f. refused NoRoom) done

-- ---- room

pub full_bytes : (o : Outbox) (n : ℕ) → free o < n + 2 → is_full o n ≡ true
full_bytes o n h = ap (λ (t : Bool). t || eqb o.held 0xFFFFFFFFFFFFFFFF) (lt-ltb (free o) (n + 2) h)

pub full_count : (o : Outbox) (n : ℕ) → n + 2 ≤ free o → is_full o n ≡ eqb o.held 0xFFFFFFFFFFFFFFFF
full_count o n h = ap (λ (t : Bool). t || eqb o.held 0xFFFFFFFFFFFFFFFF) (le-ltb (free o) (n + 2) h)

pub room_bytes : (o : Outbox) (n : ℕ) → is_full o n ≡ false → n + 2 ≤ free o
room_bytes o n e = by_le (n + 2) (free o) (λ h. h) (λ h. absurd (true≢false (sym (full_bytes o n h) ∙ e)))

pub room_count : (o : Outbox) (n : ℕ) → is_full o n ≡ false → o.held ≡ 0xFFFFFFFFFFFFFFFF → ⊥
room_count o n e = eqb-false o.held 0xFFFFFFFFFFFFFFFF (sym (full_count o n (room_bytes o n e)) ∙ e)

-- a length and a packet written one behind the other
pub stored : (n f g u : ℕ) (h p b b₁ b₂ : List ℕ) → f ≡ g → h ≡ sized (length p) → n ≤ length b → f ≤ n → b₁ ≡ placed n f u h b → b₂ ≡ placed n f (u + 2) p b₁ → b₂ ≡ placed n g u (entry p) b
stored n f g u h p b b₁ b₂ e q long inside k₁ k₂ =
    let two : 2 ≡ length h = sym (ap length q) in
    k₂ ∙ ap₂ (λ (x : List ℕ) (m : ℕ). placed n f (u + m) p x) k₁ two ∙ placed_then n f u h p b long inside
    ∙ ap₂ (λ (m : ℕ) (x : List ℕ). placed n m u (x ++ p) b) e q

-- ---- the bytes

-- of an answer that is done; `at` is another way to say the indexes behind what is used
pub accepted_at : (o : Outbox) (buf p : List ℕ) (at : ℕ → ℕ) → ((j : ℕ) → o.used + j < o.size → unused o j ≡ at j)
    → taken (accept_of o buf p).outcome ≡ true → Stored at p buf (accept_of o buf p).buf
accepted_at o buf p at same =
    accept_either o buf p (λ (a : Accept). taken a.outcome ≡ true → Stored at p buf a.buf)
    (λ why e. absurd (true≢false (sym e)))
    (λ h z s f e.
    let room : o.used + length (entry p) ≤ o.size = omega (arith, room_bytes o (length p) f) in
    record {
      long = length-placed o.size (start o) o.used (entry p) buf h (start_le o);
      new =
          λ j k.
          ap (λ (i : ℕ). get_or (placed o.size (start o) o.used (entry p) buf) i 0) (sym (same j (omega arith)))
          ∙ placed_new o.size (start o) o.used (entry p) buf h (start_le o) room j k;
      others = λ i w. placed_others o.size (start o) o.used (entry p) buf h (start_le o) room i (λ j k q. w j k (q ∙ same j (omega arith)));
    })

pub accepted_bytes : (o : Outbox) (buf p : List ℕ) → taken (accept_of o buf p).outcome ≡ true → Stored (unused o) p buf (accept_of o buf p).buf
accepted_bytes o buf p = accepted_at o buf p (unused o) (λ j h. refl)

-- Laws of packets: what a record holds once bytes are pushed.
-- Assumes nothing.
use Prim.Native.Nat.{ℕ, ◌+◌, ◌-◌, ◌≤◌, ◌<◌}
use native.Mathlib.Nat.{add-zero}
use mathlib.Core.Path.{◌≡◌, refl, ap, sym, ◌∙◌}
use mathlib.Core.List.{List, [], ◌++◌, append_assoc}
use native.Mathlib.Omega.{arith}
use borrow.Author.Tests.{le-leb, lt-leb}
use borrow.Rule.Slice.PartMut.{put_mid}
use lib.Dec.{leb}
use lib.ListN.{length, replicate, length-append, length-replicate}
use lib.Seq.{take-append_seam, drop-append-add, sets-eq}
use Rattle.laws.proofs.Cases.{cond_all}
use Rattle.laws.proofs.Lent.{put_sets}
use Rattle.laws.proofs.Lists.{drop-replicate}
use Rattle.laws.proofs.Stores.{sets_append}
use Rattle.options.specs.declared.wire.Packet.{Packet}
use Rattle.options.specs.Wire.{max_packet, pkt_of, content_of, Tidy, Pushed, pushed_all}

-- a packet holds what it was made of
pub content_pkt : (l : List ℕ) → content_of (pkt_of l) ≡ l
unfolding pkt_of
content_pkt l = take-append_seam l _

pub tidy_pkt : (l : List ℕ) → Tidy (pkt_of l)
tidy_pkt l = ap pkt_of (sym (content_pkt l))

pub len_pkt : (l : List ℕ) → (pkt_of l).len ≡ length l
unfolding pkt_of
len_pkt l = refl

-- what follows for a packet of which a callee says what it holds
pub tidy_of : {q : Packet} (l : List ℕ) → q ≡ pkt_of l → Tidy q
tidy_of l e = rw e (tidy_pkt l)

pub len_of : {q : Packet} (l : List ℕ) → q ≡ pkt_of l → q.len ≡ length l
len_of l e = rw e (len_pkt l)

pub content_of_lem : {q : Packet} {l : List ℕ} → q ≡ pkt_of l → content_of q ≡ l
content_of_lem {q} {l} e = rw e (content_pkt l)

-- no bytes, and too many
pub push_none : (p : Packet) → p ≡ pushed_all p []
unfolding pushed_all
push_none p = cond_all (λ q. p ≡ q) (leb (p.len + 0) max_packet) (rw (add-zero p.len) refl) refl

pub push_long : (p : Packet) (d : List ℕ) → max_packet < p.len + length d → p ≡ pushed_all p d
unfolding pushed_all
push_long p d h = rw (lt-leb (p.len + length d) max_packet h) refl

-- bytes written over a part of the array, behind those held
pub push_mid : (p : Packet) {d w : List ℕ} → w ≡ d → length p.bytes ≡ max_packet → p.len + length d ≤ max_packet
    → record { len = p.len + length d; bytes = put_mid p.len (p.len + length d - p.len) p.bytes w } ≡ pushed_all p d
unfolding pushed_all
push_mid p {d} {w} e n h = rw (le-leb (p.len + length d) max_packet h, put_sets d p.bytes p.len e (omega arith)) refl

pub push_both : (p : Packet) (a b : List ℕ) → p.len + length a + length b ≤ max_packet → pushed_all (pushed_all p a) b ≡ pushed_all p (a ++ b)
unfolding pushed_all
push_both p a b h =
    let i : p.len + length a ≤ max_packet = omega arith in
    let e : p.len + (length a + length b) ≡ p.len + length a + length b = omega arith in
    rw (
      le-leb (p.len + length a) max_packet i,
      le-leb (p.len + length a + length b) max_packet h,
      length-append,
      e,
      le-leb (p.len + length a + length b) max_packet h,
      sets_append a b p.bytes p.len,
    ) refl

pub push_three : (p : Packet) (a b c : List ℕ) → p.len + length (a ++ (b ++ c)) ≤ max_packet
    → pushed_all (pushed_all (pushed_all p a) b) c ≡ pushed_all p (a ++ (b ++ c))
push_three p a b c h =
    let n : length (a ++ (b ++ c)) ≡ length a + (length b + length c) = rw (length-append, length-append) refl in
    rw (push_both p a b (omega arith), push_both p (a ++ b) c (rw length-append (omega arith)), append_assoc) refl

-- bytes behind those held, where there is room
push_pkt : (l d : List ℕ) → length l + length d ≤ max_packet → pushed_all (pkt_of l) d ≡ pkt_of (l ++ d)
unfolding pkt_of pushed_all
push_pkt l d h =
    let z : List ℕ = replicate (max_packet - length l) 0 in
    let long : length l + length d ≤ length (l ++ z) = rw (length-append, length-replicate) (omega arith) in
    let e : max_packet - length l ≡ length d + (max_packet - (length l + length d)) = omega arith in
    rw (le-leb (length l + length d) max_packet h, sets-eq d (l ++ z) (length l) long, take-append_seam l z, drop-append-add l z (length d), e, drop-replicate, length-append) refl

pub pushes : {p r : Packet} {d : List ℕ} → r ≡ pushed_all p d → Tidy p → p.len + length d ≤ max_packet → Pushed p r d
pushes {p} {r} {d} e t h =
    let n : p.len ≡ length (content_of p) = len_of _ t in
    let is : r ≡ pkt_of (content_of p ++ d) = e ∙ ap (λ (x : Packet). pushed_all x d) t ∙ push_pkt (content_of p) d (omega arith) in
    record { is = is; tidy = tidy_of _ is; len = len_of _ is ∙ rw length-append (omega arith) }

-- pushes compose
pub pushed_both : {p q r : Packet} {a b : List ℕ} → Pushed p q a → Pushed q r b → Pushed p r (a ++ b)
pushed_both h k =
    record { is = k.is ∙ rw (content_of_lem h.is, append_assoc) refl; tidy = k.tidy; len = rw length-append (omega arith) }

-- bytes in a fresh packet
pub push_fresh : {p r : Packet} (d : List ℕ) → length d ≤ max_packet → p ≡ pkt_of [] → r ≡ pushed_all p d → r ≡ pkt_of d
push_fresh d h e f = f ∙ rw e (push_pkt [] d (omega arith))

pub pushed_fresh : {p r : Packet} (d : List ℕ) → p ≡ pkt_of [] → Pushed p r d → r ≡ pkt_of d
pushed_fresh d e h = h.is ∙ rw (content_of_lem e) refl

-- Laws of the reader as a transducer: runs one after the other, by calls, and whatever the cuts.
-- Assumes nothing.
use mathlib.Core.Path.{◌≡◌, refl, sym, ap, ap₂, ◌∙◌}
use mathlib.Core.Bool.{true, false}
use mathlib.Core.List.{List, [], ◌∷◌, ◌++◌, append_assoc, append-nil, flatten}
use Prim.Native.Nat.{ℕ}
use native.Mathlib.Omega.{arith}
use Rattle.laws.specs.Quiet.{Quiet, none, more}
use Rattle.laws.proofs.Cases.{by_test, cond_by, cond_all, cond_both}
use Rattle.laws.proofs.Quiet.{quiet_first}
use Rattle.framing.specs.Reader.{Held, step, full, packet_of, fed, fetched}
use Rattle.framing.specs.Heard.{packets_in, fetched_in, Heard, behind, heard, served}
use Rattle.framing.proofs.Reader.{Kept, step_kept, fed_kept, fed_nil, fed-step, fed_stop, Alike, full_alike, step_alike, packet_alike}

-- ---- a fetch

pub fetched_kept : (l : ℕ) (s : Held) → Kept l s → Kept l (fetched_in s)
fetched_kept l s h = cond_all (Kept l) (full s) (record { room = h.room; within = omega arith }) h

-- where no frame is complete it changes nothing
pub fetched_none : (s : Held) → full s ≡ false → fetched_in s ≡ s
fetched_none s e = rw e

-- once fetched, the reader takes bytes again
pub fetched_open : (s : Held) → full (fetched_in s) ≡ false
fetched_open s = cond_by (λ (t : Held). full t ≡ false) (full s) (λ _. refl) (λ e. e)

pub fetched_alike : (s t : Held) → Alike s t → Alike (fetched_in s) (fetched_in t)
fetched_alike s t h =
    cond_both Alike (full_alike s t h)
    (λ _. record { same_reader = ap fetched h.same_reader; same_room = h.same_room; same_kept = refl })
    (λ _. h)

pub packets_alike : (s t : Held) → Alike s t → packets_in s ≡ packets_in t
packets_alike s t h = rw (full_alike s t h, packet_alike s t h)

-- ---- a run of bytes

behind-behind : (p q : List (List ℕ)) (h : Heard) → behind (p ++ q) h ≡ behind p (behind q h)
behind-behind p q h = rw append_assoc

pub heard_kept : (l : ℕ) (s : Held) (bs : List ℕ) → Kept l s → Kept l (heard s bs).now
unfolding heard
heard_kept l s [] h = h
heard_kept l s (b ∷ bs) h = heard_kept l (fetched_in (step s b)) bs (fetched_kept l (step s b) (step_kept l s b h))

pub heard-append : (s : Held) (a b : List ℕ) → heard s (a ++ b) ≡ behind (heard s a).packets (heard (heard s a).now b)
unfolding heard
heard-append s [] b = refl
heard-append s (x ∷ a) b =
    ap (behind (packets_in (step s x))) (heard-append (fetched_in (step s x)) a b)
    ∙ sym (behind-behind (packets_in (step s x)) (heard (fetched_in (step s x)) a).packets (heard (heard (fetched_in (step s x)) a).now b))

-- bytes that complete no frame, and one that does
pub heard_quiet : {s t : Held} {w : List ℕ} → Quiet step full s w t → (r : List ℕ) → heard s (w ++ r) ≡ heard t r
unfolding heard
heard_quiet (none e) r = refl
heard_quiet (more e q) r = rw (quiet_first step full q) (heard_quiet q r)

pub heard_last : (s : Held) (b : ℕ) → full (step s b) ≡ true → heard s (b ∷ []) ≡ record { now = fetched_in (step s b); packets = packet_of (step s b) ∷ [] }
unfolding heard
heard_last s b e = rw e

-- one call and its fetch, then the rest
pub heard-fed : (s : Held) (bs : List ℕ) → full s ≡ false → heard s bs ≡ behind (packets_in (fed s bs).now) (heard (fetched_in (fed s bs).now) (fed s bs).left)
unfolding heard
heard-fed s [] e = rw (fed_nil s, e)
heard-fed s (b ∷ bs) e =
    rw (fed-step s b bs e)
    (by_test (full (step s b))
    (λ t. rw (fed_stop (step s b) bs t))
    (λ t. rw t (heard-fed (step s b) bs t)))

-- the same with more bytes behind
pub heard_fed_more : (s : Held) (a b : List ℕ) → full s ≡ false → heard s (a ++ b) ≡ behind (packets_in (fed s a).now) (heard (fetched_in (fed s a).now) ((fed s a).left ++ b))
heard_fed_more s a b e =
    let f = fed s a in
    heard-append s a b
    ∙ ap (λ (h : Heard). behind h.packets (heard h.now b)) (heard-fed s a e)
    ∙ behind-behind (packets_in f.now) (heard (fetched_in f.now) f.left).packets (heard (heard (fetched_in f.now) f.left).now b)
    ∙ ap (behind (packets_in f.now)) (sym (heard-append (fetched_in f.now) f.left b))

-- calls with any cuts read the packets that one run reads
pub served-heard : (s : Held) (rest : List ℕ) (cs : List (List ℕ)) → full s ≡ false → heard s (rest ++ flatten cs) ≡ behind (served s rest cs).packets (heard (served s rest cs).now (served s rest cs).left)
unfolding served flatten
served-heard s rest [] e = rw append-nil
served-heard s rest (c ∷ cs) e =
    let f = fed s (rest ++ c) in
    ap (heard s) (sym (append_assoc rest c (flatten cs)))
    ∙ heard_fed_more s (rest ++ c) (flatten cs) e
    ∙ ap (behind (packets_in f.now)) (served-heard (fetched_in f.now) f.left cs (fetched_open f.now))
    ∙ sym (behind-behind (packets_in f.now) _ _)

pub served_kept : (l : ℕ) (s : Held) (rest : List ℕ) (cs : List (List ℕ)) → Kept l s → Kept l (served s rest cs).now
unfolding served
served_kept l s rest [] h = h
served_kept l s rest (c ∷ cs) h =
    let f = fed s (rest ++ c) in
    served_kept l (fetched_in f.now) f.left cs (fetched_kept l f.now (fed_kept l s (rest ++ c) h))

-- ---- bytes behind the kept length change no packet

pub record HeardAlike (g h : Heard) : Type 0 where
  pub same-packets : g.packets ≡ h.packets
  pub same_now : Alike g.now h.now

pub heard_alike : (s t : Held) (bs : List ℕ) → Alike s t → HeardAlike (heard s bs) (heard t bs)
unfolding heard
heard_alike s t [] h = record { same-packets = refl; same_now = h }
heard_alike s t (b ∷ bs) h =
    let e = step_alike s t b h in
    let ih = heard_alike (fetched_in (step s b)) (fetched_in (step t b)) bs (fetched_alike (step s b) (step t b) e) in
    record { same-packets = ap₂ (λ (p q : List (List ℕ)). p ++ q) (packets_alike (step s b) (step t b) e) ih.same-packets; same_now = ih.same_now }

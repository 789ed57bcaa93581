-- Over any history, whatever is lent: accepted equals sent plus held, and the size stays.
-- Assumes nothing.
use mathlib.Core.Path.{◌≡◌, refl, sym, ◌∙◌}
use mathlib.Core.Bool.{Bool, true, false, cond}
use mathlib.Core.List.{List, [], ◌∷◌, ◌++◌}
use Prim.Native.Nat.{ℕ, ◌+◌}
use native.Mathlib.Nat.{add-zero}
use native.Mathlib.Omega.{arith}
use lib.ListN.{length, take, length-append}
use Rattle.link.specs.Link.{remote_map, ip_frame}
use Rattle.link.specs.declared.pppos.PPPoS.{PPPoS}
use Rattle.outbox.specs.Outbox.{Accept, accept_of, Send, front_in, send_of}
use Rattle.outbox.specs.History.{taken, went, Call, Book, after, history, begun, Balanced, SizeKept}
use Rattle.outbox.specs.declared.outbox.Outbox.{Outbox}
use Rattle.outbox.proofs.Accepting.{accept_either}
use Rattle.outbox.proofs.Sending.{send_cases, frame_some}

abbrev one : Bool → ℕ
one t = cond t 1 0

count_accept : (o : Outbox) (buf p : List ℕ) → (accept_of o buf p).outbox.held ≡ o.held + one (taken (accept_of o buf p).outcome)
count_accept o buf p =
    accept_either o buf p (λ (a : Accept). a.outbox.held ≡ o.held + one (taken a.outcome))
    (λ why. sym (add-zero o.held))
    (λ h z s f. refl)

count_send : (o : Outbox) (l : PPPoS) (buf tx : List ℕ) → (send_of o l buf tx).outbox.held + one (went (send_of o l buf tx).count) ≡ o.held
count_send o l buf tx =
    send_cases o l buf tx (λ (s : Send). s.outbox.held + one (went s.count) ≡ o.held)
    (λ h. add-zero o.held)
    (λ h e. add-zero o.held)
    (λ h e u t. add-zero o.held)
    (λ h e u t. rw (frame_some (remote_map l) (ip_frame (front_in o buf))) (omega arith))

length_more : {A : Type 0} (xs : List A) (t : Bool) (x : A) → length (xs ++ cond t (x ∷ []) []) ≡ length xs + one t
length_more xs true x = length-append xs (x ∷ [])
length_more xs false x = length-append xs []

balanced_after : (b : Book) (c : Call) → Balanced b → Balanced (after b c)
balanced_after b (Call.accepts p buf) e =
    let a = accept_of b.outbox buf p in
    omega (arith, count_accept b.outbox buf p, length_more b.accepted (taken a.outcome) p)
balanced_after b (Call.sends l buf tx) e =
    let s = send_of b.outbox l buf tx in
    omega (arith, count_send b.outbox l buf tx, length_more b.sent (went s.count) (record { link = l; bytes = take s.count s.tx }))

balanced_from : (b : Book) (cs : List Call) → Balanced b → Balanced (history b cs)
unfolding history
balanced_from b [] e = e
balanced_from b (c ∷ cs) e = balanced_from (after b c) cs (balanced_after b c e)

pub balanced : (buf : List ℕ) (cs : List Call) → Balanced (history (begun buf) cs)
balanced buf cs = balanced_from (begun buf) cs refl

-- no call changes the size
size_after : (b : Book) (c : Call) → (after b c).outbox.size ≡ b.outbox.size
size_after b (Call.accepts p buf) = accept_either b.outbox buf p (λ (a : Accept). a.outbox.size ≡ b.outbox.size) (λ why. refl) (λ h z s f. refl)
size_after b (Call.sends l buf tx) = send_cases b.outbox l buf tx (λ (s : Send). s.outbox.size ≡ b.outbox.size) (λ h. refl) (λ h e. refl) (λ h e u t. refl) (λ h e u t. refl)

size_from : (b : Book) (cs : List Call) → (history b cs).outbox.size ≡ b.outbox.size
unfolding history
size_from b [] = refl
size_from b (c ∷ cs) = size_from (after b c) cs ∙ size_after b c

pub size_kept : (buf : List ℕ) (cs : List Call) → SizeKept buf (history (begun buf) cs)
size_kept buf cs = size_from (begun buf) cs

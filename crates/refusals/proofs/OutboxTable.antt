-- The refusal table holds of the outbox's calls: each row is given exactly when it says, and leaves what it says.
-- Assumes nothing.
use mathlib.Core.Path.{◌≡◌, refl, ap, sym, ◌∙◌, subst}
use mathlib.Core.Bool.{Bool, true, false, cond, true≢false}
use mathlib.Core.List.{List, ◌∷◌}
use mathlib.Core.Logic.{◌⊎◌, inl, inr}
use Prim.Native.Nat.{ℕ, ◌+◌, ◌-◌, ◌≤◌, ◌<◌, ◌^◌}
use native.Mathlib.Omega.{arith}
use borrow.Author.Tests.{eqb-true, eqb-false, le-leb, leb-true, leb-false}
use lib.Dec.{eqb}
use lib.ListN.{length}
use Rattle.std.specs.Prelude.{Result, Ok, Err}
use Rattle.laws.proofs.Cases.{by_le, by_test}
use Rattle.framing.specs.Rfc1662.{frame}
use Rattle.framing.specs.Writer.{holds}
use Rattle.framing.specs.Refusal.{count_of}
use Rattle.negotiation.specs.declared.states.State.TheVariants.{Opened}
use Rattle.link.specs.Link.{remote_map, ip_frame}
use Rattle.link.specs.declared.pppos.PPPoS.{PPPoS}
use Rattle.outbox.specs.Refusal.{outcome_number}
use Rattle.outbox.specs.declared.refusal.Refusal.{Refusal}
use Rattle.outbox.specs.Outbox.{longest, free, is_full, Accept, accept_of, as_accept, front_in, up, written, Send, sent_first, kept_first, idle, send_of, outcome_in, as_send}
use Rattle.outbox.specs.declared.outbox.Outbox.{Outbox}
use Rattle.outbox.specs.declared.outbox.Accepted.{Accepted}
use Rattle.outbox.specs.declared.outbox.Sent.{Sent}
use Rattle.outbox.proofs.Accepting.{accept_cases, full_count, room_bytes, room_count}
use Rattle.outbox.proofs.Sending.{send-none, send_down, send-up, send_cases, up_opened, opened_up}
use Rattle.refusals.specs.Rows.{Exactly}
use Rattle.refusals.specs.Framing.{Counted, Fitted, units_of, encode_rows, whole_frame}
use Rattle.refusals.specs.Outbox.{accept_rows, outbox_rows}
use Rattle.refusals.proofs.Rows.{First, first_exactly}
use Rattle.refusals.proofs.FramingCalls.{lays_right}

-- ---- accept

module _ (o : Outbox) (buf p : List ℕ) where
  -- the first row that holds of an answer
  abbrev Files : Accept → Type 0
  Files a = First (outcome_number a.outcome) (record { outbox = a.outbox; bytes = a.buf }) (accept_rows o buf p)

  full_is : is_full o (length p) ≡ true → (o.size < o.used + (2 + length p)) ⊎ (o.held ≡ 2 ^ 64 - 1)
  full_is f =
      by_le (length p + 2) (free o)
      (λ h. inr (eqb-true o.held 0xFFFFFFFFFFFFFFFF (sym (full_count o (length p) h) ∙ f)))
      (λ h. inl (omega arith))

  not_full : is_full o (length p) ≡ false → (o.size < o.used + (2 + length p)) ⊎ (o.held ≡ 2 ^ 64 - 1) → ⊥
  not_full f (inl h) = omega (arith, room_bytes o (length p) f)
  not_full f (inr h) = room_count o (length p) f h

  fair : 0 < length p → length p ≤ longest → (length p ≡ 0) ⊎ (1500 < length p) → ⊥
  fair z s (inl e) = omega arith
  fair z s (inr e) = omega arith

  files : Files (accept_of o buf p)
  files =
      accept_cases o buf p Files
      (λ h. inl (refl, h, (refl, refl)))
      (λ h w. inr ((λ k. omega arith), inl (refl, w, (refl, refl))))
      (λ h z s f. inr ((λ k. omega arith), inr (fair z s, inl (refl, full_is f, (refl, refl)))))
      (λ h z s f. inr ((λ k. omega arith), inr (fair z s, inr (not_full f, refl))))

-- ---- send

-- what was sent, or its outcome alone: one refusal number
same_number : (r : Result ℕ Refusal) → outcome_number (outcome_in r) ≡ outcome_number r
same_number (Ok n) = refl
same_number (Err why) = refl

module _ (o : Outbox) (l : PPPoS) (buf tx : List ℕ) where
  abbrev Mails : Send → Type 0
  Mails s = First (outcome_number s.outcome) (record { count = s.count; outbox = s.outbox; tx = s.tx }) (outbox_rows o l buf tx (front_in o buf))

  abbrev front_holds : Bool
  front_holds = holds (remote_map l) (ip_frame (front_in o buf)) (length tx)

  -- what the link's send leaves where the frame does not fit
  stopped : front_holds ≡ false → Fitted (units_of (remote_map l) (ip_frame (front_in o buf))) 0 tx (written l (front_in o buf) tx)
  stopped e = go (lays_right (remote_map l) (ip_frame (front_in o buf)) tx {k = 1} (sym (rw e refl)) (record { count = sym (rw e refl); bytes = refl })).first
    where
      go : First 1 (record { count = 0; bytes = written l (front_in o buf) tx }) (encode_rows (remote_map l) (ip_frame (front_in o buf)) tx)
          → Fitted (units_of (remote_map l) (ip_frame (front_in o buf))) 0 tx (written l (front_in o buf) tx)
      go (inl h) = h.2.1
      go (inr h) = absurd (omega (arith, h.1))

  -- none is held or IPv4CP is not Opened
  silent : (o.held ≡ 0) ⊎ (up l ≡ false) → 0 < o.held → l.ppp.ipv4cp.state ≡ Opened → ⊥
  silent (inl e) z d = omega arith
  silent (inr u) z d = true≢false (sym (opened_up l d) ∙ u)

  mails : Mails (send_of o l buf tx)
  mails =
      send_cases o l buf tx Mails
      (λ h. inl (refl, h, (refl, refl, refl)))
      (λ h e. inr ((λ k. omega arith), inr ((λ x. silent e x.0 x.1), refl)))
      (λ h some u t. inr ((λ k. omega arith), inl (refl, (omega (arith, some_held some), up_opened l u, leb-false (length (frame (remote_map l) (ip_frame (front_in o buf)))) (length tx) t), (refl, refl, stopped t))))
      (λ h some u t. inr ((λ k. omega arith), inr ((λ x. omega (arith, x.2, leb-true (length (frame (remote_map l) (ip_frame (front_in o buf)))) (length tx) t)), refl)))
    where
      some_held : (o.held ≡ 0 → ⊥) → 0 < o.held
      some_held some = by_le 1 o.held (λ h. omega arith) (λ h. absurd (some (omega arith)))

-- each call as its contract has it
pub record OutboxHolds : Type 0 where
  pub accept : (o : Outbox) (buf p : List ℕ) {r : Accepted} {buf' : List ℕ} → as_accept r buf' ≡ accept_of o buf p
      → Exactly ⊥ (accept_rows o buf p) (outcome_number r.outcome) (record { outbox = r.outbox; bytes = buf' })
  pub send : (o : Outbox) (l : PPPoS) (buf tx : List ℕ) (r : Sent) {tx' : List ℕ} → as_send r tx' ≡ send_of o l buf tx
      → Exactly ⊥ (outbox_rows o l buf tx (front_in o buf)) (outcome_number r.sent) (record { count = count_of r.sent; outbox = r.outbox; tx = tx' })
  -- "while it is not Opened, or none is held, nothing is sent and the count is 0"
  pub rests : (o : Outbox) (l : PPPoS) (buf tx : List ℕ) (r : Sent) {tx' : List ℕ} → as_send r tx' ≡ send_of o l buf tx
      → o.size ≤ length buf → (o.held ≡ 0) ⊎ (l.ppp.ipv4cp.state ≡ Opened → ⊥)
      → (outcome_number r.sent ≡ 0) × (count_of r.sent ≡ 0) × (r.outbox ≡ o) × (tx' ≡ tx)
  -- else, where its frame has room, the packet in front goes as one frame of the link's
  pub goes : (o : Outbox) (l : PPPoS) (buf tx : List ℕ) (r : Sent) {tx' : List ℕ} → as_send r tx' ≡ send_of o l buf tx
      → o.size ≤ length buf → 0 < o.held → l.ppp.ipv4cp.state ≡ Opened
      → let m = l.ppp.lcp.proto.asyncmap_remote in
      let p : List ℕ = 0x00 ∷ 0x21 ∷ front_in o buf in
      length (frame m p) ≤ length tx → ◌≡◌ {A = Counted} (record { count = count_of r.sent; bytes = tx' }) (whole_frame m p tx)

-- an answer that is idle leaves all as it is
still : (o : Outbox) (tx : List ℕ) (r : Sent) {tx' : List ℕ} → as_send r tx' ≡ idle o tx → (outcome_number r.sent ≡ 0) × (count_of r.sent ≡ 0) × (r.outbox ≡ o) × (tx' ≡ tx)
still o tx r e = (sym (same_number r.sent) ∙ ap (λ (s : Send). outcome_number s.outcome) e, ap (λ (s : Send). s.count) e, ap (λ (s : Send). s.outbox) e, ap (λ (s : Send). s.tx) e)

module _ (o : Outbox) (l : PPPoS) (buf tx : List ℕ) (h : o.size ≤ length buf) where
  rests_still : (r : Sent) {tx' : List ℕ} → as_send r tx' ≡ send_of o l buf tx → (o.held ≡ 0) ⊎ (l.ppp.ipv4cp.state ≡ Opened → ⊥)
      → (outcome_number r.sent ≡ 0) × (count_of r.sent ≡ 0) × (r.outbox ≡ o) × (tx' ≡ tx)
  rests_still r e (inl z) = still o tx r (e ∙ send-none o l buf tx h z)
  rests_still r e (inr d) =
      by_test (eqb o.held 0)
      (λ z. still o tx r (e ∙ send-none o l buf tx h (eqb-true o.held 0 z)))
      (λ z. by_test (up l) (λ u. absurd (d (up_opened l u))) (λ u. still o tx r (e ∙ send_down o l buf tx h (eqb-false o.held 0 z) u)))

  goes_whole : (r : Sent) {tx' : List ℕ} → as_send r tx' ≡ send_of o l buf tx → 0 < o.held → l.ppp.ipv4cp.state ≡ Opened
      → length (frame (remote_map l) (ip_frame (front_in o buf))) ≤ length tx
      → ◌≡◌ {A = Counted} (record { count = count_of r.sent; bytes = tx' }) (whole_frame (remote_map l) (ip_frame (front_in o buf)) tx)
  goes_whole r e z d k =
      let p = ip_frame (front_in o buf) in
      let t = le-leb (length (frame (remote_map l) p)) (length tx) k in
      let w = e ∙ send-up o l buf tx h (λ q. omega arith) (opened_up l d) ∙ ap (λ (b : Bool). cond b (sent_first o l (front_in o buf) tx) (kept_first o l (front_in o buf) tx)) t in
      ap (λ (s : Send). record { count = s.count; bytes = s.tx }) w
      ∙ (lays_right (remote_map l) p tx {k = 0} (sym (rw t refl)) (record { count = sym (rw t refl); bytes = refl })).done refl

pub exactly_outbox : OutboxHolds
exactly_outbox =
    record {
      accept = λ o buf p e. first_exactly _ _ (accept_rows o buf p) (subst (Files o buf p) (sym e) (files o buf p)) refl;
      send = λ o l buf tx r e. first_exactly _ _ (outbox_rows o l buf tx (front_in o buf)) (rw (← same_number r.sent) (subst (Mails o l buf tx) (sym e) (mails o l buf tx))) refl;
      rests = λ o l buf tx r e h d. rests_still o l buf tx h r e d;
      goes = λ o l buf tx r e h z d k. goes_whole o l buf tx h r e z d k;
    }

-- The call that sends, by its tests.
-- Assumes nothing.
use mathlib.Core.Path.{◌≡◌, ap, sym, ◌∙◌, subst}
use mathlib.Core.Bool.{Bool, true, false, cond}
use mathlib.Core.List.{List, ◌∷◌, ◌++◌}
use mathlib.Core.Logic.{◌⊎◌, inl, inr}
use Prim.Native.Nat.{ℕ, ◌+◌, ◌*◌, ◌≤◌, ◌<◌}
use native.Mathlib.Omega.{arith}
use borrow.Author.Tests.{lt-ltb, le-ltb, eq-eqb, ne_eqb, eqb-true, eqb-false}
use lib.Dec.{eqb}
use lib.ListN.{length, length-append}
use Rattle.std.specs.Prelude.{Result, Ok, Err}
use Rattle.laws.proofs.Cases.{by_le, by_test, cond_by}
use Rattle.framing.specs.Rfc1662.{fcs, check_bytes, escaped, unit, stuffed, frame}
use Rattle.framing.specs.Writer.{holds}
use Rattle.framing.specs.declared.refusal.Refusal.TheVariants as framing
use Rattle.framing.proofs.Stuffing.{unit_plain, unit_narrow, escaped_cases, stuffed-drop, stuffed_narrow}
use Rattle.framing.proofs.Unstuffing.{frame_least}
use Rattle.framing.proofs.Frame.{frame_parts}
use Rattle.negotiation.specs.Automaton.{is_opened}
use Rattle.negotiation.specs.declared.states.State.TheVariants.{Opened}
use Rattle.negotiation.proofs.StateTable.{is_opened_lem}
use Rattle.link.specs.Link.{remote_map, ip_frame, Sends}
use Rattle.link.specs.declared.refusal.Refusal.TheVariants as link
use Rattle.link.specs.declared.refusal.Refusal as linked
use Rattle.link.specs.declared.pppos.PPPoS.{PPPoS}
use Rattle.outbox.specs.Outbox.{Send, up, front_in, sent_first, kept_first, idle, send_of, as_send, answered, shrunk}
use Rattle.outbox.specs.History.{went}
use Rattle.outbox.specs.declared.refusal.Refusal.TheVariants.{BufferShort, Link}
use Rattle.outbox.specs.declared.outbox.Outbox.{Outbox}

pub sends_as : {l : PPPoS} {x y tx tx' : List ℕ} {r : Result ℕ linked.Refusal} → x ≡ y → Sends l x tx r tx' → Sends l y tx r tx'
sends_as {l} {x} {y} {tx} {tx'} {r} e h = subst (λ (p : List ℕ). Sends l p tx r tx') e h

-- ---- IPv4CP

pub up_opened : (l : PPPoS) → up l ≡ true → l.ppp.ipv4cp.state ≡ Opened
up_opened l e = is_opened_lem l.ppp.ipv4cp.state e

pub opened_up : (l : PPPoS) → l.ppp.ipv4cp.state ≡ Opened → up l ≡ true
opened_up l e = ap is_opened e

-- ---- by its tests

module _ (o : Outbox) (l : PPPoS) (buf tx : List ℕ) where
  pub send_short : length buf < o.size → send_of o l buf tx ≡ record { outcome = Err BufferShort; count = 0; outbox = o; tx = tx }
  unfolding send_of
  send_short h = rw (lt-ltb _ _ h)

  pub send-none : o.size ≤ length buf → o.held ≡ 0 → send_of o l buf tx ≡ idle o tx
  unfolding send_of
  send-none h e = rw (le-ltb (length buf) o.size h, eq-eqb o.held 0 e)

  pub send_down : o.size ≤ length buf → (o.held ≡ 0 → ⊥) → up l ≡ false → send_of o l buf tx ≡ idle o tx
  unfolding send_of
  send_down h e d = rw (le-ltb (length buf) o.size h, ne_eqb o.held 0 e, d)

  pub send-up : o.size ≤ length buf → (o.held ≡ 0 → ⊥) → up l ≡ true
      → send_of o l buf tx ≡ cond (holds (remote_map l) (ip_frame (front_in o buf)) (length tx)) (sent_first o l (front_in o buf) tx) (kept_first o l (front_in o buf) tx)
  unfolding send_of
  send-up h e d = rw (le-ltb (length buf) o.size h, ne_eqb o.held 0 e, d)

  -- what holds of each answer where it may be given holds of the one that is given
  pub send_cases : (P : Send → Type 0)
      → (length buf < o.size → P (record { outcome = Err BufferShort; count = 0; outbox = o; tx = tx }))
      → (o.size ≤ length buf → (o.held ≡ 0) ⊎ (up l ≡ false) → P (idle o tx))
      → (o.size ≤ length buf → (o.held ≡ 0 → ⊥) → up l ≡ true → holds (remote_map l) (ip_frame (front_in o buf)) (length tx) ≡ false → P (kept_first o l (front_in o buf) tx))
      → (o.size ≤ length buf → (o.held ≡ 0 → ⊥) → up l ≡ true → holds (remote_map l) (ip_frame (front_in o buf)) (length tx) ≡ true → P (sent_first o l (front_in o buf) tx))
      → P (send_of o l buf tx)
  send_cases P short none stays goes =
      by_le o.size (length buf)
      (λ h.
      by_test (eqb o.held 0)
      (λ e. let z = eqb-true o.held 0 e in subst P (sym (send-none h z)) (none h (inl z)))
      (λ e.
      let some = eqb-false o.held 0 e in
      by_test (up l)
      (λ u. subst P (sym (send-up h some u)) (cond_by P (holds (remote_map l) (ip_frame (front_in o buf)) (length tx)) (goes h some u) (stays h some u)))
      (λ u. subst P (sym (send_down h some u)) (none h (inr u)))))
      (λ h. subst P (sym (send_short h)) (short h))

-- what the link's answer comes to is what the definition says
pub answer_is : (o : Outbox) (n : ℕ) {e : Result ℕ linked.Refusal} {l : PPPoS} {p tx tx' : List ℕ} → Sends l p tx e tx' → n ≡ length p
    → as_send (answered o n e) tx' ≡ cond (holds (remote_map l) (ip_frame p) (length tx)) (sent_first o l p tx) (kept_first o l p tx)
answer_is o n {e} {l} {p} {tx} {tx'} s q =
    ap (λ (r : Result ℕ linked.Refusal). as_send (answered o n r) tx') s.outcome
    ∙ go (holds (remote_map l) (ip_frame p) (length tx))
    ∙ ap (λ (b : List ℕ). cond (holds (remote_map l) (ip_frame p) (length tx)) (did b) (not_did b)) s.lays.bytes
  where
    did : List ℕ → Send
    did b = record { outcome = Ok tt; count = length (frame (remote_map l) (ip_frame p)); outbox = shrunk o (length p); tx = b }

    not_did : List ℕ → Send
    not_did b = record { outcome = Err (Link (link.Framing framing.BufferFull)); count = 0; outbox = o; tx = b }

    go : (t : Bool) → as_send (answered o n (cond t (Ok (length (frame (remote_map l) (ip_frame p)))) (Err (link.Framing framing.BufferFull)))) tx' ≡ cond t (did tx') (not_did tx')
    go true = ap (λ (m : ℕ). record { outcome = Ok tt; count = length (frame (remote_map l) (ip_frame p)); outbox = shrunk o m; tx = tx' }) q
    go false = λ i. not_did tx'

-- ---- the frame of an IP packet

ip_plain : (m : ℕ) → escaped m 0x21 ≡ false
ip_plain m =
    by_test (escaped m 0x21)
    (λ e. absurd (escaped_cases {P = ⊥} m 0x21 e (λ h. omega arith) (λ h. omega arith) (λ h. omega arith)))
    (λ e. e)

-- of the protocol's two bytes the second is never escaped
pub frame_most : (m : ℕ) (p : List ℕ) → length (frame m (ip_frame p)) ≤ 2 * length p + 12
frame_most m p =
    let c = check_bytes (fcs 0x3DE3 (ip_frame p)) in
    let one : length (stuffed m (ip_frame p)) ≡ length (unit m 0x00 ++ stuffed m (0x21 ∷ p)) = ap length (stuffed-drop m (ip_frame p) 0 (omega arith)) in
    let two : length (stuffed m (0x21 ∷ p)) ≡ length (unit m 0x21 ++ stuffed m p) = ap length (stuffed-drop m (0x21 ∷ p) 0 (omega arith)) in
    let plain : length (unit m 0x21) ≡ 1 = ap length (unit_plain m 0x21 (ip_plain m)) in
    omega (
      arith,
      frame_parts m (ip_frame p),
      one,
      two,
      plain,
      length-append (unit m 0x00) (stuffed m (0x21 ∷ p)),
      length-append (unit m 0x21) (stuffed m p),
      unit_narrow m 0x00,
      unit_narrow m 0x03,
      stuffed_narrow m p,
      stuffed_narrow m c,
    )

pub frame_some : (m : ℕ) (p : List ℕ) → went (length (frame m p)) ≡ true
frame_some m p = lt-ltb 0 (length (frame m p)) (omega (arith, frame_least m p))

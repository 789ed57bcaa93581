-- Laws of PAP: the packet that carries the credentials, and a step by cases.
-- Assumes nothing.
use Rattle.std.proofs.Common.{◌≡◌, ℕ, ◌+◌, ◌≤◌, Bool, not, sym, ◌∙◌, true, false, List, [], ◌++◌, length, refl, arith, length-append, eq-eqb}
use Rattle.negotiation.specs.declared.credentials.Credentials.{Credentials}
use Rattle.negotiation.specs.declared.pap.Pap.{Pap}
use Rattle.negotiation.specs.declared.pap.PapState.{PapState}
use Rattle.negotiation.specs.declared.pap.PapState.TheVariants.{Closed, ReqSent, Opened}
use Rattle.negotiation.specs.contracts.pap.PapState.{the_type}
use denote.Enum.Bare.{sameb}
use borrow.Author.Tests.{not-true, not-false}
use Rattle.negotiation.specs.Messages.{next_id}
use Rattle.negotiation.specs.Pap.{credential_bytes, pap_bytes, is_pap_sent, pap_act_of, pap_reacts, pap_requested, with_pap_state}
use Rattle.negotiation.specs.Credentials.{name_of, password_of}
use Rattle.negotiation.proofs.CredentialLaws.{credentials_short}
use Rattle.options.specs.declared.wire.Packet.{Packet}
use Rattle.options.specs.Wire.{max_packet, pkt_of, Pushed, pushed_all}
use Rattle.options.proofs.Fair.{length_packet}
use Rattle.options.proofs.Wires.{tidy_of, len_of, pushes, pushed_both}

-- ---- the packet

-- four pieces one behind the other in a fresh packet
pub pushed_four : {p q r s t : Packet} (a b c d : List ℕ) → p ≡ pkt_of []
    → q ≡ pushed_all p a → r ≡ pushed_all q b → s ≡ pushed_all r c → t ≡ pushed_all s d
    → length a + length b + length c + length d ≤ max_packet
    → Pushed p t (a ++ (b ++ (c ++ d))) × (t.len ≡ length a + length b + length c + length d)
pushed_four a b c d e u v w x h =
    let n = len_of [] e in
    let k = pushes u (tidy_of [] e) (omega (arith, n)) in
    let l = pushes v k.tidy (omega (arith, n, k.len)) in
    let m = pushes w l.tidy (omega (arith, n, k.len, l.len)) in
    let o = pushes x m.tidy (omega (arith, n, k.len, l.len, m.len)) in
    (pushed_both k (pushed_both l (pushed_both m o)), omega (arith, n, k.len, l.len, m.len, o.len))

-- its header, two lengths, and the credentials
pub pap_short : (c : Credentials) (p : Pap) → length (pap_bytes c p) ≤ max_packet
pap_short c p =
    let d = credential_bytes (name_of c) (password_of c) in
    let g : length d ≡ length (name_of c) + length (password_of c) + 2 = rw length-append (omega arith) in
    omega (arith, length_packet 0xC023 1 (next_id p.id) d, credentials_short c)

-- ---- a step, by cases

-- the code's test
waiting_same : (s : PapState) → sameb the_type s ReqSent ≡ is_pap_sent s
waiting_same Closed = refl
waiting_same ReqSent = refl
waiting_same Opened = refl

pub pap_waits : {t : Bool} (s : PapState) → t ≡ not (sameb the_type s ReqSent) → t ≡ false → is_pap_sent s ≡ true
pap_waits s e f = not-false (is_pap_sent s) (rw (← waiting_same s) (sym e ∙ f))

pub pap_idle : {t : Bool} (s : PapState) → t ≡ not (sameb the_type s ReqSent) → t ≡ true → is_pap_sent s ≡ false
pap_idle s e f = not-true (is_pap_sent s) (rw (← waiting_same s) (sym e ∙ f))

module _ (c : Credentials) (p : Pap) (code : ℕ) where
  pub act_idle : is_pap_sent p.state ≡ false → pap_act_of c p code ≡ pap_reacts p []
  unfolding pap_act_of
  act_idle e = rw e refl

  pub act_ack : is_pap_sent p.state ≡ true → code ≡ 2 → pap_act_of c p code ≡ pap_reacts (with_pap_state p Opened) []
  unfolding pap_act_of
  act_ack e f = rw (e, eq-eqb code 2 f) refl

  pub act_nack : is_pap_sent p.state ≡ true → code ≡ 3 → pap_act_of c p code ≡ pap_requested c p
  unfolding pap_act_of
  act_nack e f = rw (e, f) refl

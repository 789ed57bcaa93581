-- How much each step of an automaton and of PAP sends.
-- Assumes nothing.
use Rattle.std.proofs.Common.{ℕ, suc, ◌+◌, ◌≤◌, ◌&&◌, eqb, ltb, List, [], ◌∷◌, ◌++◌, length, get_or, arith, length-append}
use Rattle.laws.specs.Each.{Each}
use Rattle.laws.proofs.Cases.{cond_all}
use Rattle.laws.proofs.Each.{each_append}
use Rattle.options.specs.declared.proto.Proto.{Proto}
use Rattle.negotiation.specs.declared.option_fsm.OptionFsm.{OptionFsm}
use Rattle.negotiation.specs.declared.credentials.Credentials.{Credentials}
use Rattle.negotiation.specs.declared.pap.Pap.{Pap}
use Rattle.negotiation.specs.declared.pap.PapState.TheVariants.{ReqSent}
use Rattle.options.specs.Wire.{max_packet, length_field}
use Rattle.negotiation.specs.Automaton.{handle_of, protocol_reject_of, opened_fsm}
use Rattle.negotiation.specs.Pap.{is_pap_sent, with_pap_state, PapReaction, pap_bytes, pap_requested, pap_act_of, pap_handle_of, opened_pap}
use Rattle.options.proofs.Fair.{Short}
use Rattle.negotiation.proofs.Proper.{proper_handle, proper_reject, proper_opened, opened_one}
use Rattle.negotiation.proofs.Paps.{pap_short}

-- at most n packets, each of at most max_packet bytes
pub record Sends (n : ℕ) (ps : List (List ℕ)) : Type 0 where
  pub few : length ps ≤ n
  pub short : Each Short ps

pub sends_none : (n : ℕ) → Sends n []
sends_none n = record { few = omega arith; short = tt }

sends_one : (n : ℕ) (l : List ℕ) → length l ≤ max_packet → Sends (suc n) (l ∷ [])
sends_one n l h = record { few = omega arith; short = (h, tt) }

pub sends_both : {m n : ℕ} (a b : List (List ℕ)) → Sends m a → Sends n b → Sends (m + n) (a ++ b)
sends_both a b p q = record { few = rw length-append (omega arith); short = each_append Short a b p.short q.short }

module _ (f : OptionFsm Proto) where
  pub handle-sends : (pkt : List ℕ) → Sends 2 (handle_of f pkt).sent
  handle-sends pkt = record { few = (proper_handle f pkt).few; short = (proper_handle f pkt).short }

  pub reject-sends : (pkt : List ℕ) → Sends 2 (protocol_reject_of f pkt).sent
  reject-sends pkt = record { few = (proper_reject f pkt).few; short = (proper_reject f pkt).short }

  pub opened-sends : Sends 1 (opened_fsm f).sent
  opened-sends = record { few = omega (arith, opened_one f); short = (proper_opened f).short }

module _ (c : Credentials) (p : Pap) where
  pub pap-sends : (pkt : List ℕ) → Sends 2 (pap_handle_of c p pkt).sent
  unfolding pap_handle_of pap_act_of pap_requested
  pap-sends pkt =
      let P : PapReaction → Type 0 = λ t. Sends 2 t.sent in
      let none = sends_none 2 in
      let code = get_or pkt 2 0 in
      let s = is_pap_sent p.state in
      cond_all P (ltb (length pkt) 6) none
      (cond_all P (ltb (length pkt) (length_field pkt)) none
      (cond_all P (ltb (length pkt) (length_field pkt + 2)) none
      (cond_all P (s && eqb code 2) none (cond_all P (s && eqb code 3) (sends_one 1 (pap_bytes c p) (pap_short c p)) none))))

  pub pap_opened_sends : Sends 1 (opened_pap c p).sent
  unfolding opened_pap pap_requested
  pap_opened_sends = let q = with_pap_state p ReqSent in sends_one 0 (pap_bytes c q) (pap_short c q)

-- How an automaton takes a received packet of RFC 1661, by the paper's code: what it sends, and what it leaves.
-- Assumes nothing.
use Prim.Native.Nat.{ℕ, ◌+◌, ◌≤◌, ◌<◌}
use mathlib.Core.Path.{◌≡◌, refl, ◌∙◌}
use mathlib.Core.Bool.{Bool, true, false}
use mathlib.Core.List.{List, [], ◌∷◌}
use borrow.Author.Tests.{le-ltb, ne_eqb}
use native.Mathlib.Omega.{arith}
use lib.ListN.{length, drop}
use Rattle.std.specs.Prelude.{Ok}
use Rattle.laws.specs.Be.{be_bytes}
use Rattle.laws.specs.Each.{Each}
use Rattle.options.specs.declared.proto.Proto.{Proto}
use Rattle.negotiation.specs.declared.option_fsm.OptionFsm.{OptionFsm}
use Rattle.papers.specs.Rfc1661.{Carried, configure_ack, configure_nak, configure_reject, terminate_request, terminate_ack, code_reject, protocol_reject, echo_request, echo_reply, discard_request, Option, Options}
use Rattle.options.specs.Wire.{max_packet, packet_of}
use Rattle.options.specs.Options.{walk_of}
use Rattle.options.specs.Proto.{protocol_of, own_nacked, nacks_of}
use Rattle.options.proofs.Fair.{length_packet}
use Rattle.negotiation.specs.Messages.{term_ack_bytes}
use Rattle.negotiation.specs.Automaton.{after_term, is_closed, is_opened, reacts, with_state, requested, ack_of, after_nacked, nack_with, nack_of, term_ack_of, ignore_of, echo_of, act_of, handle_of}
use Rattle.papers.proofs.Packets.{Sent, read_as}
use Rattle.papers.proofs.Walked.{walk_options, walk_options_lem}
use Rattle.papers.proofs.Sending.{number_for, sent_by_lem}

-- the packet of the paper, without its padding, by its code
pub by_code : (f : OptionFsm Proto) {bytes info : List ℕ} {p c i : ℕ} → Carried bytes p c i info → handle_of f bytes ≡ act_of f c i (packet_of p c i info)
unfolding handle_of
by_code f {bytes} k =
    let r = read_as k in
    let h : 6 ≤ length bytes = omega (arith, r.count, r.within) in
    rw (le-ltb _ _ h, le-ltb _ _ r.within, r.code, r.id, r.cut) refl

pub data_of : (p c i : ℕ) (d : List ℕ) → drop 6 (packet_of p c i d) ≡ d
unfolding be_bytes
data_of p c i d = refl

-- one packet sent, with the paper's number and code
pub record One (sent : List (List ℕ)) (protocol code id : ℕ) (info : List ℕ) : Type 0 where
  pub bytes : List ℕ
  pub only : sent ≡ bytes ∷ []
  pub packet : Sent bytes protocol code id info

-- a Terminate-Ack
terminates : (f : OptionFsm Proto) {i : ℕ} → i < 256 → ((term_ack_of f i).fsm ≡ f) × One (term_ack_of f i).sent (number_for f.proto) terminate_ack i []
unfolding term_ack_of
terminates f {i} h = (
  refl,
  record { bytes = term_ack_bytes f.proto i; only = refl; packet = sent_by_lem f.proto 6 i [] (omega arith) h (omega arith) },
)

-- ---- Configure-Nak and Configure-Reject

-- the own options as a Reject drops those of a list, or as a Nak suggests others
abbrev pub taken_up : Bool → Proto → List Option → Proto
taken_up rej p [] = p
taken_up rej p (o ∷ os) = taken_up rej (own_nacked p o.type o.value rej) os

taken-up : (rej : Bool) (p : Proto) (os : List Option) → nacks_of rej p (walk_options os) ≡ record { outcome = Ok tt; proto = taken_up rej p os }
unfolding nacks_of
taken-up rej p [] = refl
taken-up rej p (o ∷ os) = taken-up rej (own_nacked p o.type o.value rej) os

-- a list of the paper is not refused
taken : (f : OptionFsm Proto) (rej : Bool) {info : List ℕ} {os : List Option} → Options info os
    → nack_with f (nacks_of rej f.proto (walk_of info)) ≡ requested (after_nacked f (taken_up rej f.proto os)) []
unfolding nack_with
taken f rej {info} {os} l = rw (walk_options_lem 0 l, taken-up rej f.proto os) refl

in_list : (f : OptionFsm Proto) (rej : Bool) (p c i : ℕ) (info : List ℕ) → nack_of f rej (packet_of p c i info) ≡ nack_with f (nacks_of rej f.proto (walk_of info))
unfolding nack_of
in_list f rej p c i info =
    let h : 6 ≤ length (packet_of p c i info) = omega (arith, length_packet p c i info) in
    rw (le-ltb _ _ h, data_of p c i info) refl

module _ (f : OptionFsm Proto) (n : is_closed f.state ≡ false) {bytes info : List ℕ} {p i : ℕ} where
  pub by_nak : Carried bytes p configure_nak i info → handle_of f bytes ≡ nack_with f (nacks_of false f.proto (walk_of info))
  unfolding act_of
  by_nak k = by_code f k ∙ rw n (in_list f false p configure_nak i info)

  pub by_reject : Carried bytes p configure_reject i info → handle_of f bytes ≡ nack_with f (nacks_of true f.proto (walk_of info))
  unfolding act_of
  by_reject k = by_code f k ∙ rw n (in_list f true p configure_reject i info)

  -- the values that a Nak has replace the own ones
  pub takes_nak : {os : List Option} → Carried bytes p configure_nak i info → Options info os
      → handle_of f bytes ≡ requested (after_nacked f (taken_up false f.proto os)) []
  takes_nak k l = by_nak k ∙ taken f false l

  -- the options that a Reject has are dropped
  pub takes-reject : {os : List Option} → Carried bytes p configure_reject i info → Options info os
      → handle_of f bytes ≡ requested (after_nacked f (taken_up true f.proto os)) []
  takes-reject k l = by_reject k ∙ taken f true l

  -- ---- Configure-Ack

  pub takes-ack : Carried bytes p configure_ack i info → handle_of f bytes ≡ ack_of f
  unfolding act_of
  takes-ack k = by_code f k ∙ rw n refl

  -- ---- Terminate-Request

  pub takes-terminate : Carried bytes p terminate_request i info
      → ((handle_of f bytes).fsm ≡ with_state f (after_term f.state)) × One (handle_of f bytes).sent (number_for f.proto) terminate_ack i []
  unfolding act_of
  takes-terminate k = rw (by_code f k, n) (terminates (with_state f (after_term f.state)) k.packet.id_octet)

  -- ---- what gets no answer

  pub ignores : Each (λ c. Carried bytes p c i info → handle_of f bytes ≡ reacts f []) (terminate_ack ∷ code_reject ∷ protocol_reject ∷ echo_reply ∷ [])
  unfolding act_of ignore_of
  ignores =
      ((λ k. by_code f k ∙ rw n refl), ((λ k. by_code f k ∙ rw n refl), ((λ k. by_code f k ∙ rw n refl), ((λ k. by_code f k ∙ rw n refl), tt))))

module _ (f : OptionFsm Proto) {bytes info : List ℕ} {p i : ℕ} where
  pub discards : Carried bytes p discard_request i info → handle_of f bytes ≡ reacts f []
  unfolding act_of ignore_of
  discards k = by_code f k

  -- what is Closed answers all but an echo and what is to be discarded with a Terminate-Ack
  pub closed_terminates : {c : ℕ} → is_closed f.state ≡ true → Carried bytes p c i info → (c ≡ echo_request → ⊥) → (c ≡ discard_request → ⊥)
      → ((handle_of f bytes).fsm ≡ f) × One (handle_of f bytes).sent (number_for f.proto) terminate_ack i []
  unfolding act_of
  closed_terminates {c} n k a b = rw (by_code f k, ne_eqb c 9 a, ne_eqb c 11 b, n) (terminates f k.packet.id_octet)

  -- ---- Echo-Request

  pub takes-echo : is_opened f.state ≡ true → Carried bytes p echo_request i info → length info + 6 ≤ max_packet
      → ((handle_of f bytes).fsm ≡ f) × One (handle_of f bytes).sent (number_for f.proto) echo_reply i info
  unfolding act_of echo_of be_bytes
  takes-echo e k h =
      let a : 3 ≤ length (packet_of p 9 i info) = omega (arith, length_packet p 9 i info) in
      let b : length (packet_of p 9 i info) ≤ max_packet = omega (arith, length_packet p 9 i info) in
      rw (by_code f k, e, le-ltb _ _ a, le-ltb _ _ b)
      (refl, record { bytes = packet_of (protocol_of f.proto) 10 i info; only = refl; packet = sent_by_lem f.proto 10 i info (omega arith) k.packet.id_octet (omega arith) })

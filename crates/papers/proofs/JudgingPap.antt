-- How PAP takes a received packet of RFC 1334, by the paper's code, and what it sends.
-- Assumes nothing.
use Prim.Native.Nat.{ℕ, ◌≤◌}
use mathlib.Core.Path.{◌≡◌, refl, ◌∙◌}
use mathlib.Core.Bool.{true, false}
use mathlib.Core.List.{List, [], ◌∷◌}
use borrow.Author.Tests.{le-ltb, ne_eqb}
use native.Mathlib.Omega.{arith}
use lib.ListN.{length}
use Rattle.negotiation.specs.declared.credentials.Credentials.{Credentials}
use Rattle.negotiation.specs.declared.pap.Pap.{Pap}
use Rattle.negotiation.specs.declared.pap.PapState.TheVariants.{ReqSent, Opened}
use Rattle.papers.specs.Rfc1661.{Carried}
use Rattle.papers.specs.Rfc1334.{pap, authenticate_ack, authenticate_nak, Answer}
use Rattle.options.specs.Wire.{length_field}
use Rattle.negotiation.specs.Messages.{next_id}
use Rattle.negotiation.specs.Pap.{is_pap_sent, pap_bytes, with_pap_state, stepped_pap, PapReaction, pap_reacts, pap_requested, pap_act_of, pap_handle_of, opened_pap}
use Rattle.negotiation.specs.Credentials.{name_of, password_of}
use Rattle.papers.proofs.Packets.{read_as}
use Rattle.papers.proofs.Layouts1334.{Authenticates, authenticates}

-- ---- what is sent

-- PAP asks: one packet, an Authenticate-Request with the credentials that it is handed, and the id steps
pub record Asks (c : Credentials) (p : Pap) (t : PapReaction) : Type 0 where
  pub bytes : List ℕ
  pub request : Authenticates bytes (next_id p.id) (name_of c) (password_of c)
  pub turn : t ≡ pap_reacts (stepped_pap p) (bytes ∷ [])

asks : (c : Credentials) (p : Pap) → Asks c p (pap_requested c p)
unfolding pap_requested
asks c p = record { bytes = pap_bytes c p; request = authenticates c p; turn = refl }

-- as it opens
pub opened_asks : (c : Credentials) (p : Pap) → Asks c (with_pap_state p ReqSent) (opened_pap c p)
unfolding opened_pap
opened_asks c p = asks c (with_pap_state p ReqSent)

-- ---- what is received

by_code : (c : Credentials) (p : Pap) {bytes info : List ℕ} {n code i : ℕ} → Carried bytes n code i info → pap_handle_of c p bytes ≡ pap_act_of c p code
unfolding pap_handle_of
by_code c p {bytes} k =
    let r = read_as k in
    let a : 6 ≤ length bytes = omega (arith, r.count, r.within) in
    let b : length_field bytes ≤ length bytes = omega (arith, r.within) in
    rw (le-ltb _ _ a, le-ltb _ _ b, le-ltb _ _ r.within, r.code) refl

-- the data is not read, so any will do
module _ (c : Credentials) (p : Pap) (s : is_pap_sent p.state ≡ true) {bytes info : List ℕ} {n i : ℕ} where
  pub takes-ack : Carried bytes n authenticate_ack i info → pap_handle_of c p bytes ≡ pap_reacts (with_pap_state p Opened) []
  unfolding pap_act_of
  takes-ack k = by_code c p k ∙ rw s refl

  pub takes_nak : Carried bytes n authenticate_nak i info → Asks c p (pap_handle_of c p bytes)
  unfolding pap_act_of
  takes_nak k = rw (by_code c p k, s) (asks c p)

  -- any other code is ignored
  pub ignores : {code : ℕ} → Carried bytes n code i info → (code ≡ authenticate_ack → ⊥) → (code ≡ authenticate_nak → ⊥) → pap_handle_of c p bytes ≡ pap_reacts p []
  unfolding pap_act_of
  ignores {code} k a b = by_code c p k ∙ rw (s, ne_eqb code authenticate_ack a, ne_eqb code authenticate_nak b) refl

-- and so is any packet while no answer is awaited
pub idle_ignores : (c : Credentials) (p : Pap) → is_pap_sent p.state ≡ false → {bytes info : List ℕ} {n code i : ℕ} → Carried bytes n code i info → pap_handle_of c p bytes ≡ pap_reacts p []
unfolding pap_act_of
idle_ignores c p s k = by_code c p k ∙ rw s refl

-- ---- so it is with an answer of the paper

pub record Answered (bytes : List ℕ) (code id : ℕ) (message : List ℕ) : Type 0 where
  pub info : List ℕ
  pub carried : Carried bytes pap code id info
  pub answer : Answer info message

module _ (c : Credentials) (p : Pap) (s : is_pap_sent p.state ≡ true) {bytes message : List ℕ} {i : ℕ} where
  pub ack-opens : Answered bytes authenticate_ack i message → pap_handle_of c p bytes ≡ pap_reacts (with_pap_state p Opened) []
  ack-opens a = takes-ack c p s a.carried

  pub nak_asks : Answered bytes authenticate_nak i message → Asks c p (pap_handle_of c p bytes)
  nak_asks a = takes_nak c p s a.carried

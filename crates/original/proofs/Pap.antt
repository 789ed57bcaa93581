-- pap.rs is our PAP.
-- Assumes nothing.
use mathlib.Core.Path.{◌≡◌, refl}
use mathlib.Core.Bool.{Bool, true, false, cond, ◌&&◌}
use mathlib.Core.List.{List, [], ◌∷◌}
use Prim.Native.Nat.{ℕ, ◌+◌, ◌%◌, ◌<◌}
use native.Mathlib.Nat.{mod-lt, mod-eq_of_lt}
use native.Mathlib.Omega.{arith}
use lib.Dec.{ltb, eqb, lit<, lit≤}
use lib.ListN.{length, drop, get_or, length-append}
use Rattle.std.specs.Prelude.{Ok}
use Rattle.laws.specs.Each.{Bytes}
use Rattle.laws.proofs.Cases.{cond_both}
use Rattle.negotiation.specs.Credentials.{name_len, password_len, name_of, password_of}
use Rattle.negotiation.specs.Pap as ours
use Rattle.negotiation.specs.Auth.{auth_after, AuthReaction, by_pap, auth_handle_of}
use Rattle.options.specs.Wire.{length_field}
use Rattle.options.specs.declared.refusal.Refusal.TheVariants.{PapPast}
use Rattle.negotiation.specs.declared.auth.Auth as auth
use Rattle.negotiation.specs.declared.pap.PapState as pap_state
use Rattle.negotiation.proofs.CredentialLaws.{credentials_short}
use Rattle.original.specs.Run.{Place, Run, returns, panics}
use Rattle.original.specs.Wire.{PAP, Credentials, PPP, code_from}
use Rattle.original.specs.Protocols as theirs
use Rattle.original.specs.View.{view_pap_state, view_pap}
use Rattle.original.specs.Panics.{RefusedAt}
use Rattle.original.proofs.Bytes.{each_take, each_drop}
use Rattle.original.proofs.Frames.{Carries, Carried, none, more}
use Rattle.original.proofs.Packets.{carries_ppp, bytes_append}
use Rattle.original.proofs.Refused.{refused_at}
use Rattle.original.proofs.Handle.{code_is}

-- what our record can hold
pub record Held (a : auth.Auth) : Type 0 where
  pub id : a.pap.id < 256
  pub bytes : Bytes a.credentials.bytes

-- both leave the same and send the same, or the original panics where ours refuses
pub data SamePap : Run theirs.PapHandled → AuthReaction → Type 0 where
  same : {h : theirs.PapHandled} {t : AuthReaction} → h.pap ≡ view_pap t.auth → Held t.auth → t.outcome ≡ Ok tt → Carried h.tx t.sent → SamePap (returns h) t
  stops : {p : Place} {t : AuthReaction} → RefusedAt p t.outcome → SamePap (panics p) t

sent_is : (s : pap_state.PapState) → theirs.is_pap_sent (view_pap_state s) ≡ ours.is_pap_sent s
sent_is pap_state.TheVariants.Closed = refl
sent_is pap_state.TheVariants.ReqSent = refl
sent_is pap_state.TheVariants.Opened = refl

module _ (u : auth.Auth) (held : Held u) where
  pub request_carries : Carries (record { proto = PAP; payload = PPP 1 ((u.pap.id + 1) % 256) (Credentials (name_of u.credentials) (password_of u.credentials)) }) (ours.pap_bytes u.credentials u.pap)
  request_carries =
      let p = u.pap in
      let c = u.credentials in
      let name = name_of c in
      let word = password_of c in
      let short = credentials_short c in
      let P : ℕ → Type 0 = λ x. x < 256 in
      let first : Bytes name = each_take P (name_len c) c.bytes held.bytes in
      let second : Bytes word = each_take P (password_len c) (drop (name_len c) c.bytes) (each_drop P (name_len c) c.bytes held.bytes) in
      let a : length name % 256 ≡ length name = mod-eq_of_lt (omega arith) in
      let b : length word % 256 ≡ length word = mod-eq_of_lt (omega arith) in
      carries_ppp PAP 0xC023 1 _ (Credentials name word) (ours.credential_bytes name word) refl (lit< tt) (mod-lt (p.id + 1) {m = 256} (lit< tt))
      (rw (a, b) refl)
      (rw length-append (omega arith))
      (omega arith, bytes_append name (length word ∷ word) first (omega arith, second))
      (rw length-append (omega arith))

  pub stepped-held : Held (auth_after u (ours.stepped_pap u.pap))
  stepped-held = record { id = mod-lt (u.pap.id + 1) {m = 256} (lit< tt); bytes = held.bytes }

  request-same : SamePap (returns (theirs.send_pap_request (view_pap u))) (by_pap u (ours.pap_requested u.credentials u.pap))
  unfolding ours.pap_requested
  request-same = same refl stepped-held refl (more request_carries none)

  act_same : (c : ℕ) → SamePap (returns (theirs.pap_act (view_pap u) (code_from c))) (by_pap u (ours.pap_act_of u.credentials u.pap c))
  unfolding theirs.pap_act ours.pap_act_of
  act_same c =
      rw (code_is c 2 (lit< tt) (lit≤ tt), code_is c 3 (lit< tt) (lit≤ tt), sent_is u.pap.state)
      (go (ours.is_pap_sent u.pap.state) (eqb c 2) (eqb c 3))
    where
      go : (s a b : Bool) → SamePap (returns (cond (a && s) (record { pap = theirs.with_pap_state (view_pap u) theirs.PapOpened; tx = [] }) (cond (b && s) (theirs.send_pap_request (view_pap u)) (record { pap = view_pap u; tx = [] }))))
          (by_pap u (cond (s && a) (ours.pap_reacts (ours.with_pap_state u.pap pap_state.TheVariants.Opened) []) (cond (s && b) (ours.pap_requested u.credentials u.pap) (ours.pap_reacts u.pap []))))
      go true true b = same refl (record { id = held.id; bytes = held.bytes }) refl none
      go true false true = request-same
      go true false false = same refl held refl none
      go false true true = same refl held refl none
      go false true false = same refl held refl none
      go false false true = same refl held refl none
      go false false false = same refl held refl none

  pub pap-same : (pkt : List ℕ) → SamePap (theirs.handle_pap (view_pap u) pkt) (auth_handle_of u pkt)
  unfolding theirs.handle_pap auth_handle_of ours.pap_handle_of
  pap-same pkt =
      let P : Run theirs.PapHandled → ours.PapReaction → Type 0 = λ x t. SamePap x (by_pap u t) in
      cond_both P {t = ltb (length pkt) 6} refl (λ _. same refl held refl none)
      (λ _. cond_both P {t = ltb (length pkt) (length_field pkt)} refl (λ _. same refl held refl none)
      (λ _. cond_both P {t = ltb (length pkt) (length_field pkt + 2)} refl (λ _. stops (refused_at PapPast refl))
      (λ _. act_same (get_or pkt 2 0))))

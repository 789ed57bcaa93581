-- Laws of authentication, as the phases use them: the three tests, what a step leaves and how much it sends.
-- Assumes nothing.
use Rattle.std.proofs.Common.{◌≡◌, ℕ, ◌+◌, true, false, ◌&&◌, eqb, ltb, ◌⊎◌, List, length, get_or, sym, refl, ap, ◌∙◌, inl, inr, true≢false}
use mathlib.Core.Bool.{false≢true}
use Rattle.laws.proofs.Cases.{both, cond_by, cond_all}
use Rattle.options.specs.Wire.{length_field}
use Rattle.negotiation.specs.declared.credentials.Credentials.{Credentials}
use Rattle.negotiation.specs.declared.pap.Pap.{Pap}
use Rattle.negotiation.specs.declared.pap.PapState.{PapState}
use Rattle.negotiation.specs.declared.pap.PapState.TheVariants.{Closed, ReqSent, Opened}
use Rattle.negotiation.specs.declared.auth.Auth.{Auth}
use Rattle.negotiation.specs.Pap.{is_pap_closed, is_pap_sent, is_pap_opened, with_pap_state, PapReaction, pap_requested, pap_act_of, pap_handle_of, opened_pap}
use Rattle.negotiation.specs.Auth.{auth_after, is_auth_closed, is_auth_sent, is_auth_opened, auth_handle_of, opened_auth, closed_auth}
use Rattle.negotiation.proofs.Sends.{Sends, pap-sends, pap_opened_sends}

-- ---- the three tests

closed_is : (s : PapState) → is_pap_closed s ≡ true → s ≡ Closed
closed_is Closed e = refl
closed_is ReqSent e = absurd (false≢true e)
closed_is Opened e = absurd (false≢true e)

opened_is : (s : PapState) → is_pap_opened s ≡ true → s ≡ Opened
opened_is Closed e = absurd (false≢true e)
opened_is ReqSent e = absurd (false≢true e)
opened_is Opened e = refl

sent_is : (s : PapState) → is_pap_sent s ≡ true → s ≡ ReqSent
sent_is Closed e = absurd (false≢true e)
sent_is ReqSent e = refl
sent_is Opened e = absurd (false≢true e)

module _ (a : Auth) where
  pub closed_unsent : is_auth_closed a ≡ true → is_auth_sent a ≡ false
  unfolding is_auth_closed is_auth_sent
  closed_unsent e = ap is_pap_sent (closed_is a.pap.state e)

  pub opened_unsent : is_auth_opened a ≡ true → is_auth_sent a ≡ false
  unfolding is_auth_opened is_auth_sent
  opened_unsent e = ap is_pap_sent (opened_is a.pap.state e)

  pub sent_unopened : is_auth_sent a ≡ true → is_auth_opened a ≡ false
  unfolding is_auth_opened is_auth_sent
  sent_unopened e = ap is_pap_opened (sent_is a.pap.state e)

  -- ---- opened and closed

  pub opens-sent : is_auth_sent (opened_auth a).auth ≡ true
  unfolding is_auth_sent opened_auth opened_pap pap_requested
  opens-sent = refl

  pub closes_closed : is_auth_closed (closed_auth a) ≡ true
  unfolding is_auth_closed closed_auth
  closes_closed = refl

  pub closes_same : is_auth_closed a ≡ true → closed_auth a ≡ a
  unfolding is_auth_closed closed_auth
  closes_same e i = auth_after a (with_pap_state a.pap (sym (closed_is a.pap.state e) i))

  -- ---- how much is sent

  pub auth_sends : (pkt : List ℕ) → Sends 2 (auth_handle_of a pkt).sent
  unfolding auth_handle_of
  auth_sends = pap-sends a.credentials a.pap

  pub auth_opened_sends : Sends 1 (opened_auth a).sent
  unfolding opened_auth
  auth_opened_sends = pap_opened_sends a.credentials a.pap

-- ---- what a received packet leaves

-- of a packet that leads from a to b: what waits for nothing stays so, and what waits ends only by being opened
pub record AuthNear (a b : Auth) : Type 0 where
  pub closed : is_auth_closed a ≡ true → is_auth_closed b ≡ true
  pub unsent : is_auth_sent a ≡ false → is_auth_sent b ≡ false
  pub sent : is_auth_sent a ≡ true → is_auth_opened b ≡ false → is_auth_sent b ≡ true

pub near_same : (a : Auth) → AuthNear a a
near_same a = record { closed = λ e. e; unsent = λ e. e; sent = λ e _. e }

-- PAP's state stays, or an Ack opens it
abbrev PapNear : PapState → PapState → Type 0
PapNear s t = (t ≡ s) ⊎ ((s ≡ ReqSent) × (t ≡ Opened))

pap_near : (c : Credentials) (p : Pap) (pkt : List ℕ) → PapNear p.state (pap_handle_of c p pkt).pap.state
unfolding pap_handle_of pap_act_of pap_requested
pap_near c p pkt =
    let P : PapReaction → Type 0 = λ t. PapNear p.state t.pap.state in
    let code = get_or pkt 2 0 in
    let s = is_pap_sent p.state in
    cond_all P (ltb (length pkt) 6) (inl refl)
    (cond_all P (ltb (length pkt) (length_field pkt)) (inl refl)
    (cond_all P (ltb (length pkt) (length_field pkt + 2)) (inl refl)
    (cond_by P (s && eqb code 2) (λ e. inr (sent_is p.state (both s (eqb code 2) e).0, refl)) (λ _. cond_all P (s && eqb code 3) (inl refl) (inl refl)))))

pub handle_near : (a : Auth) (pkt : List ℕ) → AuthNear a (auth_handle_of a pkt).auth
unfolding auth_handle_of is_auth_closed is_auth_sent is_auth_opened
handle_near a pkt = go (pap_near a.credentials a.pap pkt)
  where
    go : PapNear a.pap.state (pap_handle_of a.credentials a.pap pkt).pap.state → AuthNear a (auth_handle_of a pkt).auth
    go (inl e) = record { closed = λ k. ap is_pap_closed e ∙ k; unsent = λ k. ap is_pap_sent e ∙ k; sent = λ k _. ap is_pap_sent e ∙ k }
    go (inr (e, f)) =
        record {
          closed = λ k. absurd (false≢true (sym (ap is_pap_closed e) ∙ k));
          unsent = λ _. ap is_pap_sent f;
          sent = λ _ k. absurd (true≢false (sym (ap is_pap_opened f) ∙ k));
        }

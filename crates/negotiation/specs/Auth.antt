-- Authentication, as the phases see it: one set of credentials, and the protocols that may carry them.
use Rattle.std.specs.Prelude.{ℕ, Bool, false, List, Result}
use Rattle.negotiation.specs.Replies.{replies_of}
use Rattle.negotiation.specs.Pap.{is_pap_closed, is_pap_sent, is_pap_opened, fresh_pap, with_pap_state, PapReaction, pap_handle_of, opened_pap}
use Rattle.options.specs.declared.refusal.Refusal.{Refusal}
use Rattle.negotiation.specs.declared.credentials.Credentials.{Credentials}
use Rattle.negotiation.specs.declared.pap.Pap.{Pap}
use Rattle.negotiation.specs.declared.pap.PapState.TheVariants as pap_state
use Rattle.negotiation.specs.declared.auth.Auth.{Auth}
use Rattle.negotiation.specs.declared.replies.Handled.{Handled}

abbrev pub auth_with : Credentials → Auth
auth_with c = record { credentials = c; pap = fresh_pap }

-- the credentials stay
abbrev pub auth_after : Auth → Pap → Auth
auth_after a p = record { credentials = a.credentials; pap = p }

-- ---- what shows of it

unfoldable pub is_auth_closed : Auth → Bool
is_auth_closed a = is_pap_closed a.pap.state

-- it has asked, and has no answer yet
unfoldable pub is_auth_sent : Auth → Bool
is_auth_sent a = is_pap_sent a.pap.state

unfoldable pub is_auth_opened : Auth → Bool
is_auth_opened a = is_pap_opened a.pap.state

-- ---- a step

pub record AuthReaction : Type 0 where
  pub outcome : Result Unit Refusal
  pub auth : Auth
  pub sent : List (List ℕ)

abbrev pub auth_handled : AuthReaction → Handled Auth
auth_handled t = record { outcome = t.outcome; echoed = false; left = t.auth; replies = replies_of t.sent }

-- by a step of PAP
abbrev pub by_pap : Auth → PapReaction → AuthReaction
by_pap a t = record { outcome = t.outcome; auth = auth_after a t.pap; sent = t.sent }

-- as the code holds it
abbrev pub pap_taken : Auth → Handled Pap → Handled Auth
pap_taken a h = record { outcome = h.outcome; echoed = h.echoed; left = auth_after a h.left; replies = h.replies }

-- a received packet of protocol C023
unfoldable pub auth_handle_of : Auth → List ℕ → AuthReaction
auth_handle_of a pkt = by_pap a (pap_handle_of a.credentials a.pap pkt)

-- whatever the state was
unfoldable pub opened_auth : Auth → AuthReaction
opened_auth a = by_pap a (opened_pap a.credentials a.pap)

unfoldable pub closed_auth : Auth → Auth
closed_auth a = auth_after a (with_pap_state a.pap pap_state.Closed)

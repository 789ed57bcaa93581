-- PAP (document 01, 'Negotiation'): RFC 1334.
use Rattle.std.specs.Prelude.{ℕ, ◌+◌, Bool, true, false, cond, ◌&&◌, List, [], ◌∷◌, ◌++◌, length, ◌==◌, nat_lt, slice_index}
use Rattle.options.specs.Wire.{packet_of, length_field}
use Rattle.negotiation.specs.Replies.{replies_of}
use Rattle.negotiation.specs.Messages.{next_id}
use Rattle.negotiation.specs.Credentials.{name_of, password_of}
use Rattle.options.specs.declared.refusal.Refusal.{Refusal}
use Rattle.options.specs.declared.refusal.Refusal.TheVariants.{PapPast}
use Rattle.std.specs.Prelude.{Result, Ok, Err}
use Rattle.negotiation.specs.declared.credentials.Credentials.{Credentials}
use Rattle.negotiation.specs.declared.pap.PapState.{PapState}
use Rattle.negotiation.specs.declared.pap.PapState.TheVariants.{Closed, ReqSent, Opened}
use Rattle.negotiation.specs.declared.pap.Pap.{Pap}
use Rattle.negotiation.specs.declared.replies.Handled.{Handled}

abbrev pub is_pap_closed : PapState → Bool
is_pap_closed Closed = true
is_pap_closed ReqSent = false
is_pap_closed Opened = false

abbrev pub is_pap_sent : PapState → Bool
is_pap_sent Closed = false
is_pap_sent ReqSent = true
is_pap_sent Opened = false

abbrev pub is_pap_opened : PapState → Bool
is_pap_opened Closed = false
is_pap_opened ReqSent = false
is_pap_opened Opened = true

abbrev pub fresh_pap : Pap
fresh_pap = record { state = Closed; id = 1 }

-- ---- packets

-- Peer-ID Length, Peer-ID, Passwd-Length, Password
abbrev pub credential_bytes : List ℕ → List ℕ → List ℕ
credential_bytes name password = length name ∷ (name ++ (length password ∷ password))

abbrev pub pap_bytes : Credentials → Pap → List ℕ
pap_bytes c p = packet_of 0xC023 1 (next_id p.id) (credential_bytes (name_of c) (password_of c))

abbrev pub with_pap_state : Pap → PapState → Pap
with_pap_state p s = record { state = s; id = p.id }

abbrev pub stepped_pap : Pap → Pap
stepped_pap p = record { state = p.state; id = next_id p.id }

-- ---- a step

pub record PapReaction : Type 0 where
  pub outcome : Result Unit Refusal
  pub pap : Pap
  pub sent : List (List ℕ)

abbrev pub pap_handled : PapReaction → Handled Pap
pap_handled t = record { outcome = t.outcome; echoed = false; left = t.pap; replies = replies_of t.sent }

abbrev pub pap_reacts : Pap → List (List ℕ) → PapReaction
pap_reacts p ps = record { outcome = Ok tt; pap = p; sent = ps }

unfoldable pub pap_requested : Credentials → Pap → PapReaction
pap_requested c p = pap_reacts (stepped_pap p) (pap_bytes c p ∷ [])

-- in ReqSent an Ack opens and a Nack sends again; ids are not compared
unfoldable pub pap_act_of : Credentials → Pap → ℕ → PapReaction
pap_act_of c p code =
    cond (is_pap_sent p.state && code == 2)
    (pap_reacts (with_pap_state p Opened) [])
    (cond (is_pap_sent p.state && code == 3) (pap_requested c p) (pap_reacts p []))

-- under 6 bytes, or Length above the packet: ignored; Length + 2 above it: refused
unfoldable pub pap_handle_of : Credentials → Pap → List ℕ → PapReaction
pap_handle_of c p pkt =
    cond (nat_lt (length pkt) 6)
    (pap_reacts p [])
    (cond (nat_lt (length pkt) (length_field pkt))
    (pap_reacts p [])
    (cond (nat_lt (length pkt) (length_field pkt + 2))
    (record { outcome = Err PapPast; pap = p; sent = [] })
    (pap_act_of c p (slice_index pkt 2))))

-- whatever the state was
unfoldable pub opened_pap : Credentials → Pap → PapReaction
opened_pap c p = pap_requested c (with_pap_state p ReqSent)

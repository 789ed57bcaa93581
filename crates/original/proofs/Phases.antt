-- poll of ppp/mod.rs is our phase step, but for the two asserts of open, where ours opens as if Closed.
-- Assumes nothing.
use mathlib.Core.Path.{◌≡◌, refl}
use mathlib.Core.Bool.{Bool, true, false}
use mathlib.Core.List.{[], ◌∷◌}
use Prim.Native.Nat.{ℕ, ◌<◌}
use Rattle.laws.proofs.Cases.{apart, by_test}
use Rattle.negotiation.proofs.Lengths.{next_small}
use Rattle.negotiation.specs.Messages.{next_id}
use Rattle.negotiation.specs.Automaton.{is_closed, is_opened, requested, opened_fsm}
use Rattle.negotiation.specs.Pap.{opened_pap, pap_requested, with_pap_state, stepped_pap}
use Rattle.negotiation.specs.Auth.{auth_after, is_auth_closed, is_auth_opened, opened_auth, closed_auth}
use Rattle.phases.specs.Phases as ours
use Rattle.options.specs.declared.lcp.AuthType as auth
use Rattle.options.specs.declared.lcp.Lcp as lcp
use Rattle.options.specs.declared.ipv4cp.Ipv4cp as ipv4cp
use Rattle.options.specs.declared.proto.Proto.TheVariants as proto
use Rattle.negotiation.specs.declared.states.State.{State}
use Rattle.negotiation.specs.declared.states.State.TheVariants.{Closed, ReqSent, AckReceived, AckSent, Opened}
use Rattle.negotiation.specs.declared.auth.Auth as authentication
use Rattle.negotiation.specs.declared.pap.PapState as pap_state
use Rattle.phases.specs.declared.ppp.Phase.{Phase}
use Rattle.phases.specs.declared.ppp.Phase.TheVariants.{Dead, Establish, Auth, Network, Open}
use Rattle.phases.specs.declared.ppp.Ppp as ppp
use Rattle.phases.proofs.Sounds.{Ready}
use Rattle.original.specs.Run.{returns, panics, fsm_open}
use Rattle.original.specs.Fsm as fsm
use Rattle.original.specs.Protocols.{lcp_protocol, ipv4cp_protocol, open_pap, send_pap_request}
use Rattle.original.specs.Ppp as theirs
use Rattle.original.specs.View.{view_state, view_lcp, view_ipv4cp, view_pap, view_ppp}
use Rattle.original.specs.Panics.{ipv4cp_opened, pap_opened}
use Rattle.original.proofs.Frames.{none, more}
use Rattle.original.proofs.Automaton.{request_carries}
use Rattle.original.proofs.Handle.{closed_is, opened_is}
use Rattle.original.proofs.Protocols.{lcp_stands, ipv4cp_stands}
use Rattle.original.proofs.Pap as credentials
use Rattle.original.proofs.Received.{Held}
use Rattle.original.proofs.Opening.{Steps, SamePhase, same, asserts, lcp_packet, ipv4cp_packet, open_lcp_lem, open_ipv4cp_lem, opens_not, auth_opened_is, ends, shut_ipv4cp_lem, shut_both}

-- ---- by phase

abbrev at : Phase → Bool → ℕ → State → lcp.Lcp → authentication.Auth → ℕ → State → ipv4cp.Ipv4cp → ppp.Ppp
at f o i s x c j t y = record { phase = f; opening = o; lcp = record { id = i; state = s; proto = x }; auth = c; ipv4cp = record { id = j; state = t; proto = y } }

module _ (o : Bool) (i : ℕ) (s : State) (x : lcp.Lcp) (c : authentication.Auth) (j : ℕ) (y : ipv4cp.Ipv4cp) (hi : i < 256) (hc : credentials.Held c) (hj : j < 256) where
  any_held : (f : Phase) (o : Bool) (i j : ℕ) (s t : State) (x : lcp.Lcp) (y : ipv4cp.Ipv4cp) → i < 256 → j < 256 → Held (at f o i s x c j t y)
  any_held f o i j s t x y h k = record { lcp_id = h; ipv4cp_id = k; auth = hc }

  abbrev Goal : Phase → State → Type 0
  Goal f t = SamePhase (at f o i s x c j t y) (theirs.poll_ppp (view_ppp (at f o i s x c j t y)))

  in_dead : (t : State) → Goal Dead t
  unfolding theirs.poll_ppp ours.phase_of
  in_dead t = same (ends (at Dead o i s x c j t y) (any_held Dead o i j s t x y hi hj) none)

  in_open : (t : State) → Goal Open t
  unfolding theirs.poll_ppp ours.phase_of
  in_open t = same (ends (at Open o i s x c j t y) (any_held Open o i j s t x y hi hj) none)

  in_network : (t : State) → Goal Network t
  unfolding theirs.poll_ppp ours.phase_of ours.network_of
  in_network Closed = same (ends (at Network o i s x c j Closed y) (any_held Network o i j s Closed x y hi hj) none)
  in_network ReqSent = same (ends (at Network o i s x c j ReqSent y) (any_held Network o i j s ReqSent x y hi hj) none)
  in_network AckReceived = same (ends (at Network o i s x c j AckReceived y) (any_held Network o i j s AckReceived x y hi hj) none)
  in_network AckSent = same (ends (at Network o i s x c j AckSent y) (any_held Network o i j s AckSent x y hi hj) none)
  in_network Opened = same (ends (at Open o i s x c j Opened y) (any_held Open o i j s Opened x y hi hj) none)

  -- IPv4CP, once opened
  opened-steps : Steps (record { ppp = theirs.settle (view_ppp (at Network o i s x c (next_id j) ReqSent y)); tx = ipv4cp_packet j y ∷ [] })
      (ours.step_to (ours.settled (at Network o i s x c (next_id j) ReqSent y)) (opened_fsm (ours.ipv4cp_in (record { id = j; state = Closed; proto = y }))).sent)
  unfolding ipv4cp_packet opened_fsm requested
  opened-steps =
      ends (at Network o i s x c (next_id j) ReqSent y) (any_held Network o i (next_id j) s ReqSent x y hi (next_small j))
      (more (request_carries ipv4cp_protocol proto.Ipv4cp view_ipv4cp ipv4cp_stands j y) none)

  -- IPv4CP is opened in phase f: from Closed, or past the assert
  opens : (f : Phase) (r : theirs.Polled) → theirs.poll_ppp (view_ppp (at f o i s x c j Closed y)) ≡ returns r
      → ((t : State) → fsm.is_closed (view_state t) ≡ false → theirs.poll_ppp (view_ppp (at f o i s x c j t y)) ≡ panics fsm_open)
      → ((t : State) → Steps r (ours.phase_of (at f o i s x c j t y))) → ((t : State) → Ready (at f o i s x c j t y) → t ≡ Closed) → (t : State) → Goal f t
  opens f r run stop steps shut Closed = rw run (same (steps Closed))
  opens f r run stop steps shut ReqSent = rw (stop ReqSent refl) (asserts (λ h. let e = shut ReqSent h in apart cc) ipv4cp_opened run (steps ReqSent))
  opens f r run stop steps shut AckReceived = rw (stop AckReceived refl) (asserts (λ h. let e = shut AckReceived h in apart cc) ipv4cp_opened run (steps AckReceived))
  opens f r run stop steps shut AckSent = rw (stop AckSent refl) (asserts (λ h. let e = shut AckSent h in apart cc) ipv4cp_opened run (steps AckSent))
  opens f r run stop steps shut Opened = rw (stop Opened refl) (asserts (λ h. let e = shut Opened h in apart cc) ipv4cp_opened run (steps Opened))

  abbrev opened : theirs.Polled
  opened = record { ppp = theirs.settle (view_ppp (at Network o i s x c (next_id j) ReqSent y)); tx = ipv4cp_packet j y ∷ [] }

  auth_opens : is_auth_opened c ≡ true → (t : State) → Goal Auth t
  unfolding theirs.poll_ppp ours.phase_of ours.auth_of opened_fsm requested
  auth_opens e =
      opens Auth opened (rw (auth_opened_is c, e, open_ipv4cp_lem j y) refl)
      (λ t k. rw (auth_opened_is c, e, opens_not ipv4cp_protocol (record { id = j; state = view_state t; proto = view_ipv4cp y }) k) refl)
      (λ t. rw e opened-steps) (λ t h. h.auth refl)

  auth_waits : is_auth_opened c ≡ false → (t : State) → Goal Auth t
  unfolding theirs.poll_ppp ours.phase_of ours.auth_of
  auth_waits e t =
      let q = at Auth o i s x c j Closed y in
      let steps : Steps (record { ppp = theirs.settle (view_ppp q); tx = [] }) (ours.phase_of (at Auth o i s x c j t y)) = rw e (ends q (any_held Auth o i j s Closed x y hi hj) none) in
      rw (auth_opened_is c, e, shut_ipv4cp_lem (at Auth o i s x c j t y)) (same steps)

  in_auth : (t : State) → Goal Auth t
  in_auth t = by_test (is_auth_opened c) (λ e. auth_opens e t) (λ e. auth_waits e t)

-- Establish, by LCP's state; LCP is taken apart for its auth
module _ (o : Bool) (i : ℕ) (m n : ℕ) (b : Bool) (c : authentication.Auth) (j : ℕ) (y : ipv4cp.Ipv4cp) (hi : i < 256) (hc : credentials.Held c) (hj : j < 256) where
  abbrev with : auth.AuthType → lcp.Lcp
  with a = record { auth = a; asyncmap_remote = m; asyncmap = n; asyncmap_rej = b }

  abbrev Here : State → auth.AuthType → State → Type 0
  Here s a t = SamePhase (at Establish o i s (with a) c j t y) (theirs.poll_ppp (view_ppp (at Establish o i s (with a) c j t y)))

  -- no packet comes, and PAP and IPv4CP are shut
  shuts : (s : State) (a : auth.AuthType) (t : State) → Held (ours.closes_ipv4cp (ours.closes_auth (at Establish o i s (with a) c j t y)))
  unfolding closed_auth
  shuts s a t = record { lcp_id = hi; ipv4cp_id = hj; auth = record { id = hc.id; bytes = hc.bytes } }

  waits : (a : auth.AuthType) (s t : State) → is_closed s ≡ false → is_opened s ≡ false → Here s a t
  unfolding theirs.poll_ppp ours.phase_of ours.establish_of
  waits a s t e f =
      let p = at Establish o i s (with a) c j t y in
      let q = ours.closes_ipv4cp (ours.closes_auth p) in
      let steps : Steps (record { ppp = theirs.settle (view_ppp q); tx = [] }) (ours.phase_of p) = rw (e, f) (ends q (shuts s a t) none) in
      rw (closed_is s, e, opened_is s, f, shut_both p) (same steps)

  -- LCP is opened
  starts : (a : auth.AuthType) (t : State) → Here Closed a t
  unfolding theirs.poll_ppp ours.phase_of ours.establish_of closed_auth opened_fsm requested lcp_packet
  starts a t =
      let p = at Establish false (next_id i) ReqSent (with a) c j t y in
      rw (open_lcp_lem i (with a), shut_both p)
      (same (ends (ours.closes_ipv4cp (ours.closes_auth p)) (record { lcp_id = next_small i; ipv4cp_id = hj; auth = record { id = hc.id; bytes = hc.bytes } })
      (more (request_carries lcp_protocol proto.Lcp view_lcp lcp_stands i (with a)) none)))

  none-opens : (t : State) → Here Opened auth.TheVariants.None t
  unfolding theirs.poll_ppp ours.phase_of ours.establish_of opened_fsm requested
  none-opens =
      let x = with auth.TheVariants.None in
      opens o i Opened x c j y hi hc hj Establish (opened o i Opened x c j y hi hc hj) (rw (open_ipv4cp_lem j y) refl)
      (λ t k. rw (opens_not ipv4cp_protocol (record { id = j; state = view_state t; proto = view_ipv4cp y }) k) refl)
      (λ t. opened-steps o i Opened x c j y hi hc hj) (λ t h. (h.establish refl refl).0)

  -- PAP, once opened
  abbrev sent : authentication.Auth
  sent = auth_after c (stepped_pap (with_pap_state c.pap pap_state.TheVariants.ReqSent))

  -- and before its request
  abbrev asking : authentication.Auth
  asking = auth_after c (with_pap_state c.pap pap_state.TheVariants.ReqSent)

  abbrev asked : State → theirs.Polled
  asked t = record { ppp = theirs.settle (view_ppp (at Auth o i Opened (with auth.TheVariants.Pap) sent j t y)); tx = (send_pap_request (view_pap asking)).tx }

  asked-steps : (t : State) → Steps (asked t) (ours.phase_of (at Establish o i Opened (with auth.TheVariants.Pap) c j t y))
  unfolding ours.phase_of ours.establish_of opened_auth opened_pap pap_requested
  asked-steps t =
      let h : credentials.Held asking = record { id = hc.id; bytes = hc.bytes } in
      ends (at Auth o i Opened (with auth.TheVariants.Pap) sent j t y) (record { lcp_id = hi; ipv4cp_id = hj; auth = credentials.stepped-held asking h })
      (more (credentials.request_carries asking h) none)

  pap-opens : (t : State) → Here Opened auth.TheVariants.Pap t
  unfolding theirs.poll_ppp open_pap ours.phase_of ours.establish_of opened_auth opened_pap is_auth_closed
  pap-opens t = go c.pap.state refl
    where
      go : (u : pap_state.PapState) → c.pap.state ≡ u → Here Opened auth.TheVariants.Pap t
      go pap_state.TheVariants.Closed e = rw e (same (asked-steps t))
      go pap_state.TheVariants.ReqSent e = rw e (asserts (λ h. let k = (h.establish refl refl).1 in apart cc) pap_opened refl (asked-steps t))
      go pap_state.TheVariants.Opened e = rw e (asserts (λ h. let k = (h.establish refl refl).1 in apart cc) pap_opened refl (asked-steps t))

  in_establish : (s : State) (a : auth.AuthType) (t : State) → Here s a t
  in_establish Closed a t = starts a t
  in_establish ReqSent a t = waits a ReqSent t refl refl
  in_establish AckReceived a t = waits a AckReceived t refl refl
  in_establish AckSent a t = waits a AckSent t refl refl
  in_establish Opened auth.TheVariants.None t = none-opens t
  in_establish Opened auth.TheVariants.Pap t = pap-opens t

pub phase_same : (p : ppp.Ppp) → Held p → SamePhase p (theirs.poll_ppp (view_ppp p))
phase_same p h = go p.phase
  where
    go : (f : Phase) → SamePhase (ours.with_phase p f) (theirs.poll_ppp (view_ppp (ours.with_phase p f)))
    go Dead = in_dead p.opening p.lcp.id p.lcp.state p.lcp.proto p.auth p.ipv4cp.id p.ipv4cp.proto h.lcp_id h.auth h.ipv4cp_id p.ipv4cp.state
    go Establish =
        in_establish p.opening p.lcp.id p.lcp.proto.asyncmap_remote p.lcp.proto.asyncmap p.lcp.proto.asyncmap_rej p.auth p.ipv4cp.id p.ipv4cp.proto h.lcp_id h.auth h.ipv4cp_id
        p.lcp.state p.lcp.proto.auth p.ipv4cp.state
    go Auth = in_auth p.opening p.lcp.id p.lcp.state p.lcp.proto p.auth p.ipv4cp.id p.ipv4cp.proto h.lcp_id h.auth h.ipv4cp_id p.ipv4cp.state
    go Network = in_network p.opening p.lcp.id p.lcp.state p.lcp.proto p.auth p.ipv4cp.id p.ipv4cp.proto h.lcp_id h.auth h.ipv4cp_id p.ipv4cp.state
    go Open = in_open p.opening p.lcp.id p.lcp.state p.lcp.proto p.auth p.ipv4cp.id p.ipv4cp.proto h.lcp_id h.auth h.ipv4cp_id p.ipv4cp.state

-- What holds of every record that calls reach: each call keeps it, and a phase step right behind another does nothing.
-- Assumes nothing.
use mathlib.Core.Path.{◌≡◌, refl, ap, sym, subst, ◌∙◌}
use mathlib.Core.Bool.{Bool, true, false, ◌&&◌, or-false, true≢false, false≢true}
use mathlib.Core.List.{List, []}
use mathlib.Core.Logic.{◌⊎◌, inl, inr}
use Prim.Native.Nat.{ℕ}
use lib.Dec.{ltb, eqb}
use lib.ListN.{length}
use Rattle.laws.proofs.Cases.{apart, by_test, cond_by, cond_all}
use Rattle.options.specs.declared.lcp.AuthType.{AuthType}
use Rattle.options.specs.declared.lcp.AuthType.TheVariants as auth_type
use Rattle.negotiation.specs.declared.auth.Auth as authentication
use Rattle.options.specs.declared.lcp.Lcp.{Lcp}
use Rattle.negotiation.specs.declared.option_fsm.OptionFsm.{OptionFsm}
use Rattle.phases.specs.declared.ppp.Phase.{Phase}
use Rattle.phases.specs.declared.ppp.Phase.TheVariants.{Dead, Establish, Auth, Network, Open}
use Rattle.phases.specs.declared.ppp.Ppp.{Ppp}
use Rattle.std.specs.Prelude.{Ok}
use Rattle.negotiation.specs.declared.states.State.TheVariants.{Closed}
use Rattle.options.specs.Refusal.{is_done}
use Rattle.options.specs.Wire.{protocol_in}
use Rattle.negotiation.specs.Automaton.{is_closed, is_opened}
use Rattle.phases.specs.Phases.{fresh_with, with_phase, with_opening, with_lcp, lcp_in, ipv4cp_in, Turn, reject_of, received_of, Step, step_to, opens_lcp, opens_ipv4cp, closes_ipv4cp, by_auth, establish_of, auth_of, network_of, dies_of, settled, phase_of, rests_of, poll_of, turn_of, is_dead, turn_to, open_of, new_of, opens_auth, closes_auth}
use Rattle.negotiation.specs.Credentials.{fits_credentials}
use Rattle.negotiation.specs.Auth.{is_auth_closed, is_auth_sent, is_auth_opened}
use Rattle.negotiation.proofs.Auths as auth
use Rattle.negotiation.proofs.Auths.{AuthNear}
use Rattle.phases.specs.Sound.{is_establish, Sound, Calm}
use Rattle.negotiation.proofs.Steps.{Near, closed_shut, stays_closed, handle_near, reject_near, opened_asks}
use Rattle.phases.proofs.Resting.{rests_still}

-- ---- one phase's clause gives all

-- and LCP is no longer to be opened
record Rests (p : Ppp) : Type 0 where
  sound : Sound p
  opened : p.opening ≡ false

-- what a phase asks of the other states
abbrev Own : Phase → Ppp → Type 0
Own Dead p = Unit {0}
Own Establish p = (is_opened p.lcp.state ≡ false) × (p.ipv4cp.state ≡ Closed) × (is_auth_closed p.auth ≡ true)
Own Auth p = (is_auth_sent p.auth ≡ true) × (p.ipv4cp.state ≡ Closed)
Own Network p = (is_closed p.ipv4cp.state ≡ false) × (is_opened p.ipv4cp.state ≡ false) × (is_auth_sent p.auth ≡ false)
Own Open p = is_auth_sent p.auth ≡ false

establish_alive : (f : Phase) → (is_establish f && is_dead f) ≡ false
establish_alive Dead = refl
establish_alive Establish = refl
establish_alive Auth = refl
establish_alive Network = refl
establish_alive Open = refl

rests_by : (p : Ppp) → p.opening ≡ false → is_closed p.lcp.state ≡ is_dead p.phase → Own p.phase p → Rests p
rests_by p o c own =
    record {
      sound =
          record {
            opens = let e = establish_alive p.phase in cc;
            closed = let e = or-false (is_dead p.phase) in cc;
            establish = λ e _. subst (λ f. Own f p) e own;
            auth = λ e. subst (λ f. Own f p) e own;
            network = λ e. let h = subst (λ f. Own f p) e own in (h.0, h.1);
            past = past;
          };
      opened = o;
    }
  where
    past : (p.phase ≡ Network) ⊎ (p.phase ≡ Open) → is_auth_sent p.auth ≡ false
    past (inl e) = (subst (λ f. Own f p) e own).2
    past (inr e) = subst (λ f. Own f p) e own

-- ---- new and open

fresh_sound : (a : authentication.Auth) → Sound (fresh_with a)
fresh_sound a = (rests_by (fresh_with a) refl refl tt).sound

pub sound_new : (name password : List ℕ) → Sound (new_of name password).ppp
sound_new name password =
    cond_all (λ (t : Turn). Sound t.ppp) (fits_credentials (length name) (length password)) (fresh_sound _) (fresh_sound _)

pub sound_open : {p : Ppp} → Sound p → Sound (open_of p).ppp
sound_open {p} s = cond_by (λ (t : Turn). Sound t.ppp) (is_dead p.phase) opened (λ _. s)
  where
    waits : (Establish ≡ Network) ⊎ (Establish ≡ Open) → is_auth_sent p.auth ≡ false
    waits (inl e) = apart cc
    waits (inr e) = apart cc

    opened : is_dead p.phase ≡ true → Sound (with_opening (with_phase p Establish) true)
    opened d =
        let c : is_closed p.lcp.state ≡ true = rw d at s.closed in
        record {
          opens = sym c;
          closed = c;
          establish = λ _ o. absurd (true≢false o);
          auth = λ e. apart cc;
          network = λ e. apart cc;
          past = waits;
        }

-- ---- what a received packet leaves

record Heard (p q : Ppp) : Type 0 where
  phase : q.phase ≡ p.phase
  opening : q.opening ≡ p.opening
  lcp : Near p.lcp.state q.lcp.state
  auth : AuthNear p.auth q.auth
  ipv4cp : Near p.ipv4cp.state q.ipv4cp.state

heard-lcp : (p : Ppp) (a : OptionFsm Lcp) → Near p.lcp.state a.state → Heard p (with_lcp p a)
heard-lcp p a n = record { phase = refl; opening = refl; lcp = n; auth = auth.near_same p.auth; ipv4cp = λ _. refl }

heard_none : (p : Ppp) → Heard p p
heard_none p = heard-lcp p p.lcp (λ _. refl)

received-heard : (p : Ppp) (pkt : List ℕ) → Heard p (received_of p pkt).ppp
unfolding received_of reject_of
received-heard p pkt =
    let P : Turn → Type 0 = λ t. Heard p t.ppp in
    let n = protocol_in pkt in
    cond_all P (ltb (length pkt) 2) (heard_none p)
    (cond_all P (eqb n 0xC021) (heard-lcp p _ (handle_near (lcp_in p.lcp) pkt))
    (cond_all P (eqb n 0xC023) (record { phase = refl; opening = refl; lcp = λ _. refl; auth = auth.handle_near p.auth pkt; ipv4cp = λ _. refl })
    (cond_all P (eqb n 0x0021) (heard_none p)
    (cond_all P (eqb n 0x8021) (record { phase = refl; opening = refl; lcp = λ _. refl; auth = auth.near_same p.auth; ipv4cp = handle_near (ipv4cp_in p.ipv4cp) pkt })
    (heard-lcp p _ (reject_near (lcp_in p.lcp) pkt))))))

-- ---- what a phase step finds

-- where a phase step may open authentication or IPv4CP, it finds it Closed
pub record Ready (p : Ppp) : Type 0 where
  pub establish : p.phase ≡ Establish → is_closed p.lcp.state ≡ false → (p.ipv4cp.state ≡ Closed) × (is_auth_closed p.auth ≡ true)
  pub auth : p.phase ≡ Auth → p.ipv4cp.state ≡ Closed

heard_ready : {p q : Ppp} → Heard p q → Sound p → Ready q
heard_ready {p} {q} h s = record { establish = establish; auth = λ e. stays_closed (s.auth (sym h.phase ∙ e)).1 h.ipv4cp }
  where
    establish : q.phase ≡ Establish → is_closed q.lcp.state ≡ false → (q.ipv4cp.state ≡ Closed) × (is_auth_closed q.auth ≡ true)
    establish e c =
        let f : p.phase ≡ Establish = sym h.phase ∙ e in
        let closed : is_closed p.lcp.state ≡ p.opening = rw f at s.closed in
        let shut = by_test p.opening (λ o. closed_shut p.lcp.state (closed ∙ o)) (λ o. (s.establish f o).0) in
        let own = s.establish f (sym closed ∙ sym (h.lcp shut) ∙ c) in
        (stays_closed own.1 h.ipv4cp, h.auth.closed own.2)

pub ready : {p : Ppp} → Sound p → Ready p
ready {p} s = heard_ready (heard_none p) s

pub ready_received : {p : Ppp} (pkt : List ℕ) → Sound p → Ready (received_of p pkt).ppp
ready_received {p} pkt s = heard_ready (received-heard p pkt) s

-- ---- what a phase step leaves

settled_rests : (p : Ppp) → p.opening ≡ false → (is_dead p.phase ≡ true → is_closed p.lcp.state ≡ true)
    → (is_closed p.lcp.state ≡ false → Own p.phase p) → Rests (settled p)
settled_rests p o d own =
    by_test (is_closed p.lcp.state)
    (λ c. rw (c, o) (rests_by (with_opening (with_phase p Dead) false) refl c tt))
    (λ c. rw c (rests_by p o (by_test (is_dead p.phase) (λ e. absurd (true≢false (sym (d e) ∙ c))) (λ e. c ∙ sym e)) (own c)))

-- of a phase that is not Dead
alive : {t : Bool} → false ≡ true → t ≡ true
alive e = absurd (false≢true e)

-- an IPv4CP that is opened waits for its answer
asked_waits : (p : Ppp) → is_auth_sent p.auth ≡ false → Own Network (opens_ipv4cp p).ppp
asked_waits p a = let e = opened_asks (ipv4cp_in p.ipv4cp) in (ap is_closed e, ap is_opened e, a)

auth_rests : (p : Ppp) (a : AuthType) → p.opening ≡ false → p.ipv4cp.state ≡ Closed → is_auth_closed p.auth ≡ true → Rests (settled (by_auth a p).ppp)
auth_rests p auth_type.None o i a = settled_rests (opens_ipv4cp p).ppp o alive (λ _. asked_waits p (auth.closed_unsent p.auth a))
auth_rests p auth_type.Pap o i a = settled_rests (opens_auth p).ppp o alive (λ _. (auth.opens-sent p.auth, i))

-- a packet, then a phase step; the phase is an argument of its own, to be taken by cases
module _ (p q : Ppp) (h : Heard p q) where
  step_rests : (f : Phase) → Sound (with_phase p f) → Rests (phase_of (with_phase q f)).ppp
  unfolding phase_of establish_of auth_of network_of
  step_rests Dead s =
      settled_rests (with_phase q Dead) (h.opening ∙ s.opens) (λ _. h.lcp (closed_shut p.lcp.state s.closed) ∙ s.closed) (λ _. tt)
  step_rests Establish s =
      let P : Step → Type 0 = λ t. Rests (settled t.ppp) in
      let r = with_phase q Establish in
      let shut = by_test p.opening (λ o. closed_shut p.lcp.state (s.closed ∙ o)) (λ o. (s.establish refl o).0) in
      cond_by P (is_closed q.lcp.state)
      (λ _. settled_rests (closes_ipv4cp (closes_auth (opens_lcp r).ppp)) refl alive (λ _. (ap is_opened (opened_asks (lcp_in q.lcp)), refl, auth.closes_closed q.auth)))
      (λ c. let o : p.opening ≡ false = s.opens ∙ sym (h.lcp shut) ∙ c in
      let e = s.establish refl o in
      cond_by P (is_opened q.lcp.state)
      (λ _. auth_rests r q.lcp.proto.auth (h.opening ∙ o) (stays_closed e.1 h.ipv4cp) (h.auth.closed e.2))
      (λ n. settled_rests (closes_ipv4cp (closes_auth r)) (h.opening ∙ o) alive (λ _. (n, refl, auth.closes_closed q.auth))))
  step_rests Auth s =
      let P : Step → Type 0 = λ t. Rests (settled t.ppp) in
      let r = with_phase q Auth in
      let o = h.opening ∙ s.opens in
      cond_by P (is_auth_opened q.auth)
      (λ a. settled_rests (opens_ipv4cp r).ppp o alive (λ _. asked_waits r (auth.opened_unsent q.auth a)))
      (λ a. settled_rests (closes_ipv4cp r) o alive (λ _. (h.auth.sent (s.auth refl).0 a, refl)))
  step_rests Network s =
      let r = with_phase q Network in
      let o = h.opening ∙ s.opens in
      let n = s.network refl in
      let unsent = h.auth.unsent (s.past (inl refl)) in
      cond_by (λ (t : Ppp). Rests (settled t)) (is_opened q.ipv4cp.state)
      (λ _. settled_rests (with_phase q Open) o alive (λ _. unsent))
      (λ m. settled_rests r o alive (λ _. (h.ipv4cp n.1 ∙ n.0, m, unsent)))
  step_rests Open s = settled_rests (with_phase q Open) (h.opening ∙ s.opens) alive (λ _. h.auth.unsent (s.past (inr refl)))

  heard_rests : Sound p → Rests (phase_of q).ppp
  heard_rests s = subst (λ f. Rests (phase_of (with_phase q f)).ppp) (sym h.phase) (step_rests p.phase s)

-- ---- where a phase step does nothing

step_none : (f : Phase) (p : Ppp) → Sound (with_phase p f) → p.opening ≡ false → phase_of (with_phase p f) ≡ step_to (with_phase p f) []
unfolding phase_of rests_of
step_none Dead p s o = cond_all (λ (r : Ppp). step_to r [] ≡ step_to (with_phase p Dead) []) (dies_of p) refl refl
step_none Establish p s o =
    let e = s.establish refl o in
    rests_still (with_phase p Establish) (rw (s.closed ∙ o, e.0, e.2, ap is_closed e.1) refl)
step_none Auth p s o = let e = s.auth refl in rests_still (with_phase p Auth) (rw (auth.sent_unopened p.auth e.0, ap is_closed e.1, s.closed ∙ o) refl)
step_none Network p s o = rests_still (with_phase p Network) (rw ((s.network refl).1, s.closed ∙ o) refl)
step_none Open p s o = rests_still (with_phase p Open) (rw (s.closed ∙ o) refl)

pub calm : {p : Ppp} → Sound p → p.opening ≡ false → Calm p
calm {p} s o = ap (λ (t : Step). turn_to t.ppp t.sent) (step_none p.phase p s o)

-- ---- poll and a received packet

pub sound_poll : {p : Ppp} → Sound p → Sound (poll_of p).ppp
sound_poll {p} s = (heard_rests p p (heard_none p) s).sound

pub sound_turn : {p : Ppp} (pkt : List ℕ) → Sound p → Sound (turn_of p pkt).ppp
unfolding turn_of
sound_turn {p} pkt s =
    cond_all (λ (t : Turn). Sound t.ppp) (is_done (received_of p pkt).outcome) (heard_rests p _ (received-heard p pkt) s).sound s

-- a phase step right behind a phase step does nothing
pub calm_after : {p : Ppp} → Sound p → Calm (phase_of p).ppp
calm_after {p} s = let r = heard_rests p p (heard_none p) s in calm r.sound r.opened

-- nor does one behind a packet that was not refused
pub calm_after_turn : {p : Ppp} (pkt : List ℕ) → Sound p → (turn_of p pkt).outcome ≡ Ok tt → Calm (turn_of p pkt).ppp
unfolding turn_of
calm_after_turn {p} pkt s =
    let t = received_of p pkt in
    let r = heard_rests p t.ppp (received-heard p pkt) s in
    cond_by (λ (x : Turn). x.outcome ≡ Ok tt → Calm x.ppp) (is_done t.outcome) (λ _ _. calm r.sound r.opened)
    (λ e d. absurd (true≢false (sym (ap is_done d) ∙ e)))

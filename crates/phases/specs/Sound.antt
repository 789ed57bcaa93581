-- What holds of every record that calls reach from a fresh one.
use Rattle.std.specs.Prelude.{◌≡◌, Bool, true, false, ◌&&◌, ◌||◌, [], ◌⊎◌}
use Rattle.negotiation.specs.Automaton.{is_closed, is_opened}
use Rattle.negotiation.specs.Auth.{is_auth_closed, is_auth_sent}
use Rattle.phases.specs.Phases.{is_dead, turn_to, poll_of}
use Rattle.negotiation.specs.declared.states.State.TheVariants.{Closed}
use Rattle.phases.specs.declared.ppp.Phase.{Phase}
use Rattle.phases.specs.declared.ppp.Phase.TheVariants.{Dead, Establish, Auth, Network, Open}
use Rattle.phases.specs.declared.ppp.Ppp.{Ppp}

abbrev pub is_establish : Phase → Bool
is_establish Dead = false
is_establish Establish = true
is_establish Auth = false
is_establish Network = false
is_establish Open = false

pub record Sound (p : Ppp) : Type 0 where
  -- LCP is still to be opened exactly in phase Establish with LCP Closed
  pub opens : p.opening ≡ (is_establish p.phase && is_closed p.lcp.state)
  -- LCP is Closed exactly in phase Dead and while it is still to be opened
  pub closed : is_closed p.lcp.state ≡ (is_dead p.phase || p.opening)
  -- in Establish, once LCP was opened, it is not Opened yet, and the other two are Closed
  pub establish : p.phase ≡ Establish → p.opening ≡ false
      → (is_opened p.lcp.state ≡ false) × (p.ipv4cp.state ≡ Closed) × (is_auth_closed p.auth ≡ true)
  -- in Auth, an answer is awaited and IPv4CP is Closed
  pub auth : p.phase ≡ Auth → (is_auth_sent p.auth ≡ true) × (p.ipv4cp.state ≡ Closed)
  -- in Network, IPv4CP is on its way: ReqSent, AckReceived or AckSent
  pub network : p.phase ≡ Network → (is_closed p.ipv4cp.state ≡ false) × (is_opened p.ipv4cp.state ≡ false)
  -- in Network and in Open, authentication waits for nothing
  pub past : (p.phase ≡ Network) ⊎ (p.phase ≡ Open) → is_auth_sent p.auth ≡ false

-- a phase step alone changes nothing and sends nothing
abbrev pub Calm : Ppp → Type 0
Calm p = poll_of p ≡ turn_to p []

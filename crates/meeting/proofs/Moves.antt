-- The nine moves of two plain ends, each computed with every value left open.
-- Assumes nothing.
use mathlib.Core.Path.{◌≡◌, refl, ap, ◌∙◌}
use mathlib.Core.Bool.{Bool, true, false, ◌&&◌, true≢false}
use mathlib.Core.List.{[], ◌∷◌, ◌++◌}
use Prim.Native.Nat.{ℕ, ◌<◌}
use native.Mathlib.Omega.{arith}
use Rattle.laws.specs.Be.{be_from, be_bytes}
use Rattle.laws.specs.Same.{same}
use Rattle.options.specs.Wire.{pkt_of, packet_of}
use Rattle.options.specs.Options.{walk_in, walk_from}
use Rattle.options.specs.Proto.{own_nacked, nacks_of}
use Rattle.options.specs.Reply.{listed_of, step_of, reply_of}
use Rattle.negotiation.proofs.Lengths.{next_small}
use Rattle.negotiation.specs.Messages.{next_id}
use Rattle.negotiation.specs.Automaton.{requested, ack_of, req_with, req_of, nack_with, nack_of, term_ack_of, ignore_of, echo_of, act_of, handle_of, protocol_reject_of, opened_fsm}
use Rattle.negotiation.specs.Auth.{closed_auth}
use Rattle.phases.specs.Phases.{turn_to, reject_of, received_of, establish_of, auth_of, network_of, phase_of, open_of, poll_of, turn_of}
use Rattle.phases.specs.Sound.{Calm}
use Rattle.meeting.proofs.Says.{Self, self_of, offer, heard, lcp_packet, hello, ask, grant, deny, lcp_at, ip_at, end, begun, greeted, net, Small, Moves}
use Rattle.options.specs.declared.lcp.AuthType.TheVariants.{None}
use Rattle.negotiation.specs.declared.states.State.TheVariants.{Closed, ReqSent, AckReceived, AckSent, Opened}
use Rattle.phases.specs.declared.ppp.Phase.TheVariants.{Dead, Establish, Network, Open}
use Rattle.phases.specs.declared.ppp.Ppp.{Ppp}

-- every definition that a turn goes through
unfoldable opened : Unit {0}
unfolding be_from be_bytes same pkt_of walk_in walk_from own_nacked nacks_of listed_of step_of reply_of requested ack_of req_with req_of nack_with nack_of term_ack_of ignore_of echo_of act_of handle_of opened_fsm protocol_reject_of closed_auth reject_of received_of establish_of auth_of network_of phase_of turn_of
opened = tt

-- ---- packets are small

lcp_small : (c i v : ℕ) (r : Bool) → c < 256 → i < 256 → Small (packet_of 0xC021 c i (offer 2 v r))
unfolding be_bytes
lcp_small c i v true hc hi = record { short = omega arith; bytes = omega arith }
lcp_small c i v false hc hi = record { short = omega arith; bytes = omega arith }

ip_small : (c i a d e : ℕ) (r m n : Bool) → c < 256 → i < 256 → Small (packet_of 0x8021 c i (offer 3 a r ++ (offer 129 d m ++ offer 131 e n)))
unfolding be_bytes
ip_small c i a d e true true true hc hi = record { short = omega arith; bytes = omega arith }
ip_small c i a d e true true false hc hi = record { short = omega arith; bytes = omega arith }
ip_small c i a d e true false true hc hi = record { short = omega arith; bytes = omega arith }
ip_small c i a d e true false false hc hi = record { short = omega arith; bytes = omega arith }
ip_small c i a d e false true true hc hi = record { short = omega arith; bytes = omega arith }
ip_small c i a d e false true false hc hi = record { short = omega arith; bytes = omega arith }
ip_small c i a d e false false true hc hi = record { short = omega arith; bytes = omega arith }
ip_small c i a d e false false false hc hi = record { short = omega arith; bytes = omega arith }

deny_small : (i d e : ℕ) (m n : Bool) → i < 256 → Small (packet_of 0x8021 4 i (offer 129 d m ++ offer 131 e n))
deny_small i d e m n hi = ip_small 4 i 0 d e true m n (omega arith) hi

-- ---- opened and polled once

-- a link in phase Dead with LCP Closed, whatever the rest
abbrev dead : Ppp → Ppp
dead p =
    record { phase = Dead; opening = p.opening; lcp = record { id = p.lcp.id; state = Closed; proto = p.lcp.proto }; auth = p.auth; ipv4cp = p.ipv4cp }

begins_dead : (p : Ppp) → poll_of (open_of (dead p)).ppp
    ≡ turn_to (begun (self_of p) p.ipv4cp.proto.dns_server_1.is_rejected p.ipv4cp.proto.dns_server_2.is_rejected) (hello (self_of p) ∷ [])
unfolding opened
begins_dead p = refl

pub begins : (p : Ppp) → p.phase ≡ Dead → p.lcp.state ≡ Closed → poll_of (open_of p).ppp
    ≡ turn_to (begun (self_of p) p.ipv4cp.proto.dns_server_1.is_rejected p.ipv4cp.proto.dns_server_2.is_rejected) (hello (self_of p) ∷ [])
begins p e f =
    let same : p ≡ dead p = λ i. record { phase = e i; opening = p.opening; lcp = record { id = p.lcp.id; state = f i; proto = p.lcp.proto }; auth = p.auth; ipv4cp = p.ipv4cp } in
    ap (λ (q : Ppp). poll_of (open_of q).ppp) same ∙ begins_dead p

-- ---- LCP

-- a request with the map v, or without one
lcp_req : (X : Self) (m n : Bool) (i v : ℕ) (r : Bool)
    → turn_of (begun X m n) (packet_of 0xC021 1 i (offer 2 v r))
    ≡ turn_to (end X Establish (lcp_at X AckSent None (heard v r X.remote)) (ip_at X X.ip_id Closed X.peer m n)) (packet_of 0xC021 2 i (offer 2 v r) ∷ [])
unfolding opened
lcp_req X m n i v true = refl
lcp_req X m n i v false = refl

begun_calm : (X : Self) (m n : Bool) → Calm (begun X m n)
unfolding opened
begun_calm X m n = refl

greeted_calm : (X Y : Self) (m n : Bool) → Calm (greeted X Y m n)
unfolding opened
greeted_calm X Y m n = refl

-- an acknowledgement opens LCP, and IPv4CP asks
lcp_ack : (X Y : Self) (m n : Bool) (i v : ℕ) (r : Bool)
    → turn_of (greeted X Y m n) (packet_of 0xC021 2 i (offer 2 v r)) ≡ turn_to (net X Y Network (next_id X.ip_id) ReqSent X.peer m n) (ask (next_id X.ip_id) X m n ∷ [])
unfolding opened
lcp_ack X Y m n i v true = refl
lcp_ack X Y m n i v false = refl

module _ (X Y : Self) (m n : Bool) where
  pub hears : Moves (begun X m n) (hello Y) (greeted X Y m n) (lcp_packet 2 (next_id Y.lcp_id) Y ∷ [])
  hears =
      record {
        calm = begun_calm X m n;
        small = lcp_small 1 (next_id Y.lcp_id) Y.map Y.map_rej (omega arith) (next_small Y.lcp_id);
        few = lcp_small 2 (next_id Y.lcp_id) Y.map Y.map_rej (omega arith) (next_small Y.lcp_id);
        is = lcp_req X m n (next_id Y.lcp_id) Y.map Y.map_rej;
      }

  pub enters : Moves (greeted X Y m n) (lcp_packet 2 (next_id X.lcp_id) X) (net X Y Network (next_id X.ip_id) ReqSent X.peer m n) (ask (next_id X.ip_id) X m n ∷ [])
  enters =
      record {
        calm = greeted_calm X Y m n;
        small = lcp_small 2 (next_id X.lcp_id) X.map X.map_rej (omega arith) (next_small X.lcp_id);
        few = ip_small 1 (next_id X.ip_id) X.address X.dns1 X.dns2 X.address_rej m n (omega arith) (next_small X.ip_id);
        is = lcp_ack X Y m n (next_id X.lcp_id) X.map X.map_rej;
      }

-- ---- IPv4CP

-- in phase Network a phase step does nothing until IPv4CP is Opened
module _ (X Y : Self) (k p : ℕ) (m n : Bool) where
  sent_calm : Calm (net X Y Network k ReqSent p m n)
  unfolding opened
  sent_calm = refl

  received_calm : Calm (net X Y Network k AckReceived p m n)
  unfolding opened
  received_calm = refl

  acked_calm : Calm (net X Y Network k AckSent p m n)
  unfolding opened
  acked_calm = refl

  pub open_calm : Calm (net X Y Open k Opened p m n)
  unfolding opened
  open_calm = refl

  -- a request for the address alone, or for nothing
  ip_clean : (i a d e : ℕ) (r : Bool)
      → turn_of (net X Y Network k ReqSent p m n) (packet_of 0x8021 1 i (offer 3 a r ++ (offer 129 d true ++ offer 131 e true)))
      ≡ turn_to (net X Y Network k AckSent (heard a r p) m n) (packet_of 0x8021 2 i (offer 3 a r ++ (offer 129 d true ++ offer 131 e true)) ∷ [])
  unfolding opened
  ip_clean i a d e true = refl
  ip_clean i a d e false = refl

  ip_clean_last : (i a d e : ℕ) (r : Bool)
      → turn_of (net X Y Network k AckReceived p m n) (packet_of 0x8021 1 i (offer 3 a r ++ (offer 129 d true ++ offer 131 e true)))
      ≡ turn_to (net X Y Open k Opened (heard a r p) m n) (packet_of 0x8021 2 i (offer 3 a r ++ (offer 129 d true ++ offer 131 e true)) ∷ [])
  unfolding opened
  ip_clean_last i a d e true = refl
  ip_clean_last i a d e false = refl

  -- a request with a name server gets a Rej of those
  ip_dns : (i a d e : ℕ) (r m' n' : Bool) → m' && n' ≡ false
      → turn_of (net X Y Network k ReqSent p m n) (packet_of 0x8021 1 i (offer 3 a r ++ (offer 129 d m' ++ offer 131 e n')))
      ≡ turn_to (net X Y Network k ReqSent (heard a r p) m n) (packet_of 0x8021 4 i (offer 129 d m' ++ offer 131 e n') ∷ [])
  unfolding opened
  ip_dns i a d e true true true h = absurd (true≢false h)
  ip_dns i a d e true true false h = refl
  ip_dns i a d e true false true h = refl
  ip_dns i a d e true false false h = refl
  ip_dns i a d e false true true h = absurd (true≢false h)
  ip_dns i a d e false true false h = refl
  ip_dns i a d e false false true h = refl
  ip_dns i a d e false false false h = refl

  ip_ack : (i a d e : ℕ) (r : Bool)
      → turn_of (net X Y Network k ReqSent p m n) (packet_of 0x8021 2 i (offer 3 a r ++ (offer 129 d true ++ offer 131 e true))) ≡ turn_to (net X Y Network k AckReceived p m n) []
  unfolding opened
  ip_ack i a d e true = refl
  ip_ack i a d e false = refl

  ip_ack_last : (i a d e : ℕ) (r : Bool)
      → turn_of (net X Y Network k AckSent p m n) (packet_of 0x8021 2 i (offer 3 a r ++ (offer 129 d true ++ offer 131 e true))) ≡ turn_to (net X Y Open k Opened p m n) []
  unfolding opened
  ip_ack_last i a d e true = refl
  ip_ack_last i a d e false = refl

-- a Rej of the own name servers: they are dropped, and a request without them follows
ip_rej : (X Y : Self) (k p i : ℕ) (m n : Bool) → m && n ≡ false
    → turn_of (net X Y Network k ReqSent p m n) (deny i X m n) ≡ turn_to (net X Y Network (next_id k) ReqSent p true true) (ask (next_id k) X true true ∷ [])
unfolding opened
ip_rej X Y k p i true true h = absurd (true≢false h)
ip_rej X Y k p i true false h = refl
ip_rej X Y k p i false true h = refl
ip_rej X Y k p i false false h = refl

ip_rej_acked : (X Y : Self) (k p i : ℕ) (m n : Bool) → m && n ≡ false
    → turn_of (net X Y Network k AckSent p m n) (deny i X m n) ≡ turn_to (net X Y Network (next_id k) AckSent p true true) (ask (next_id k) X true true ∷ [])
unfolding opened
ip_rej_acked X Y k p i true true h = absurd (true≢false h)
ip_rej_acked X Y k p i true false h = refl
ip_rej_acked X Y k p i false true h = refl
ip_rej_acked X Y k p i false false h = refl

-- every id on the wire is one that was stepped
asks_small : (X : Self) (i : ℕ) (m n : Bool) → Small (ask (next_id i) X m n)
asks_small X i m n = ip_small 1 (next_id i) X.address X.dns1 X.dns2 X.address_rej m n (omega arith) (next_small i)

grants_small : (X : Self) (i : ℕ) → Small (grant (next_id i) X)
grants_small X i = ip_small 2 (next_id i) X.address X.dns1 X.dns2 X.address_rej true true (omega arith) (next_small i)

denies_small : (X : Self) (i : ℕ) (m n : Bool) → Small (deny (next_id i) X m n)
denies_small X i m n = deny_small (next_id i) X.dns1 X.dns2 m n (next_small i)

module _ (X Y : Self) (k i p : ℕ) (m n : Bool) where
  pub grants : Moves (net X Y Network k ReqSent p m n) (ask (next_id i) Y true true) (net X Y Network k AckSent (heard Y.address Y.address_rej p) m n) (grant (next_id i) Y ∷ [])
  grants =
      record {
        calm = sent_calm X Y k p m n;
        small = asks_small Y i true true;
        few = grants_small Y i;
        is = ip_clean X Y k p m n (next_id i) Y.address Y.dns1 Y.dns2 Y.address_rej;
      }

  pub grants_last : Moves (net X Y Network k AckReceived p m n) (ask (next_id i) Y true true) (net X Y Open k Opened (heard Y.address Y.address_rej p) m n) (grant (next_id i) Y ∷ [])
  grants_last =
      record {
        calm = received_calm X Y k p m n;
        small = asks_small Y i true true;
        few = grants_small Y i;
        is = ip_clean_last X Y k p m n (next_id i) Y.address Y.dns1 Y.dns2 Y.address_rej;
      }

  pub denies : (m' n' : Bool) → m' && n' ≡ false
      → Moves (net X Y Network k ReqSent p m n) (ask (next_id i) Y m' n') (net X Y Network k ReqSent (heard Y.address Y.address_rej p) m n) (deny (next_id i) Y m' n' ∷ [])
  denies m' n' h =
      record {
        calm = sent_calm X Y k p m n;
        small = asks_small Y i m' n';
        few = denies_small Y i m' n';
        is = ip_dns X Y k p m n (next_id i) Y.address Y.dns1 Y.dns2 Y.address_rej m' n' h;
      }

  pub denied : m && n ≡ false → Moves (net X Y Network k ReqSent p m n) (deny (next_id i) X m n) (net X Y Network (next_id k) ReqSent p true true) (ask (next_id k) X true true ∷ [])
  denied h = record { calm = sent_calm X Y k p m n; small = denies_small X i m n; few = asks_small X k true true; is = ip_rej X Y k p (next_id i) m n h }

  pub denied_acked : m && n ≡ false → Moves (net X Y Network k AckSent p m n) (deny (next_id i) X m n) (net X Y Network (next_id k) AckSent p true true) (ask (next_id k) X true true ∷ [])
  denied_acked h = record { calm = acked_calm X Y k p m n; small = denies_small X i m n; few = asks_small X k true true; is = ip_rej_acked X Y k p (next_id i) m n h }

module _ (X Y : Self) (k i p : ℕ) where
  pub granted : Moves (net X Y Network k ReqSent p true true) (grant (next_id i) X) (net X Y Network k AckReceived p true true) []
  granted = record { calm = sent_calm X Y k p true true; small = grants_small X i; few = tt; is = ip_ack X Y k p true true (next_id i) X.address X.dns1 X.dns2 X.address_rej }

  pub granted_last : Moves (net X Y Network k AckSent p true true) (grant (next_id i) X) (net X Y Open k Opened p true true) []
  granted_last = record { calm = acked_calm X Y k p true true; small = grants_small X i; few = tt; is = ip_ack_last X Y k p true true (next_id i) X.address X.dns1 X.dns2 X.address_rej }

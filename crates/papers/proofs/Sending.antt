-- What an automaton sends of its own accord is RFC 1661's, with the paper's number and code: Configure-Request and Protocol-Reject.
-- Assumes nothing.
use Prim.Native.Nat.{ℕ, ◌+◌, ◌≤◌, ◌<◌}
use mathlib.Core.Path.{◌≡◌, refl, sym, ◌∙◌}
use mathlib.Core.List.{List, [], ◌∷◌, ◌++◌}
use borrow.Author.Tests.{le-ltb}
use native.Mathlib.Omega.{arith}
use lib.ListN.{length}
use Rattle.options.specs.declared.ipv4cp.Ipv4cp.{Ipv4cp}
use Rattle.options.specs.declared.lcp.Lcp.{Lcp}
use Rattle.options.specs.declared.proto.Proto.{Proto}
use Rattle.options.specs.declared.proto.Proto.TheVariants.{Lcp as OfLcp, Ipv4cp as OfIpv4cp}
use Rattle.negotiation.specs.declared.option_fsm.OptionFsm.{OptionFsm}
use Rattle.papers.specs.Rfc1661.{lcp, configure_request, protocol_reject, Encapsulated, Rejected, Option, Options}
use Rattle.papers.specs.Rfc1662Options.{AsyncMap}
use Rattle.papers.specs.Rfc1332.{ipcp, IpAddress, PrimaryDns, SecondaryDns}
use Rattle.options.specs.Wire.{packet_of}
use Rattle.options.specs.Proto.{protocol_of, own_of}
use Rattle.options.proofs.Fair.{own_short}
use Rattle.negotiation.specs.Messages.{max_rejected, next_id, request_bytes, reject_bytes}
use Rattle.negotiation.specs.Automaton.{reacts, stepped, requested, protocol_reject_of, opened_fsm}
use Rattle.papers.proofs.Packets.{Sent, laid_packet}
use Rattle.papers.proofs.Layouts1661.{Carries, laid_both}
use Rattle.papers.proofs.Layouts1662.{laid-map}
use Rattle.papers.proofs.Layouts1332.{laid_address}

-- ---- under the number of its protocol

abbrev pub number_for : Proto → ℕ
number_for (OfLcp p) = lcp
number_for (OfIpv4cp p) = ipcp

number_of : (p : Proto) → number_for p ≡ protocol_of p
number_of (OfLcp p) = refl
number_of (OfIpv4cp p) = refl

pub number_kind : (p q : Proto) → protocol_of p ≡ protocol_of q → number_for p ≡ number_for q
number_kind p q e = number_of p ∙ e ∙ sym (number_of q)

pub sent_by_lem : (p : Proto) (c i : ℕ) (d : List ℕ) → c < 256 → i < 256 → length d + 4 < 65536
    → Sent (packet_of (protocol_of p) c i d) (number_for p) c i d
sent_by_lem (OfLcp p) c i d h k l = laid_packet lcp c i d (omega arith) h k l
sent_by_lem (OfIpv4cp p) c i d h k l = laid_packet ipcp c i d (omega arith) h k l

-- ---- Configure-Request

-- the record's numbers are 32 bits wide
abbrev pub Fits : Proto → Type 0
Fits (OfLcp p) = p.asyncmap < 0x100000000
Fits (OfIpv4cp p) =
    (p.address.address < 0x100000000) × (p.dns_server_1.address < 0x100000000) × (p.dns_server_2.address < 0x100000000)

-- the own options, but those that were dropped
pub data Owned : Proto → List Option → Type 0 where
  map : (p : Lcp) {os : List Option} → Carries AsyncMap p.asyncmap_rej p.asyncmap os → Owned (OfLcp p) os
  addresses : (p : Ipv4cp) {ip dns1 dns2 : List Option} → Carries IpAddress p.address.is_rejected p.address.address ip
      → Carries PrimaryDns p.dns_server_1.is_rejected p.dns_server_1.address dns1
      → Carries SecondaryDns p.dns_server_2.is_rejected p.dns_server_2.address dns2
      → Owned (OfIpv4cp p) (ip ++ (dns1 ++ dns2))

-- the same in bytes
pub record OwnLaid (p : Proto) (bytes : List ℕ) : Type 0 where
  pub options : List Option
  pub owned : Owned p options
  pub laid : Options bytes options

own_laid : (p : Proto) → Fits p → OwnLaid p (own_of p)
own_laid (OfLcp p) h = let a = laid-map p h in record { options = a.options; owned = map p a.carries; laid = a.laid }
own_laid (OfIpv4cp p) h =
    let a = laid_address 3 p.address (omega arith) h.0 in
    let b = laid_address 129 p.dns_server_1 (omega arith) h.1 in
    let c = laid_address 131 p.dns_server_2 (omega arith) h.2 in
    record {
      options = a.options ++ (b.options ++ c.options);
      owned = addresses p a.carries b.carries c.carries;
      laid = laid_both a.laid (laid_both b.laid c.laid);
    }

-- a Configure-Request of p with the id i
pub record Requests (p : Proto) (i : ℕ) (bytes : List ℕ) : Type 0 where
  pub info : List ℕ
  pub packet : Sent bytes (number_for p) configure_request i info
  pub own : OwnLaid p info

pub requests : (p : Proto) (i : ℕ) → i < 256 → Fits p → Requests p i (request_bytes p i)
requests p i k h =
    record {
      info = own_of p;
      packet = sent_by_lem p 1 i (own_of p) (omega arith) k (omega (arith, own_short p));
      own = own_laid p h;
    }

-- it is what an automaton sends that asks, behind what was to be sent before, and all that it sends as it opens
pub asked : (f : OptionFsm Proto) (ps : List (List ℕ)) → (requested f ps).sent ≡ ps ++ (request_bytes f.proto (next_id f.id) ∷ [])
unfolding requested
asked f ps = refl

pub opened : (f : OptionFsm Proto) → (opened_fsm f).sent ≡ request_bytes f.proto (next_id f.id) ∷ []
unfolding opened_fsm requested
opened f = refl

-- the id of a request is another than the one before (RFC 1661, 5.1 and 5.7; RFC 1334, 2.2.1)
pub id_changes : (i : ℕ) → next_id i ≡ i → ⊥
id_changes i e = omega arith

-- ---- Protocol-Reject

-- a packet of another protocol, encapsulated as the paper has it, goes back behind its number
pub record Rejects (i protocol : ℕ) (information bytes : List ℕ) : Type 0 where
  pub info : List ℕ
  pub packet : Sent bytes lcp protocol_reject i info
  pub rejected : Rejected info protocol information

pub rejects : (f : OptionFsm Proto) {pkt information : List ℕ} {protocol : ℕ} → Encapsulated pkt protocol information → length pkt ≤ max_rejected
    → (protocol_reject_of f pkt ≡ reacts (stepped f) (reject_bytes (next_id f.id) pkt ∷ []))
    × Rejects (next_id f.id) protocol information (reject_bytes (next_id f.id) pkt)
unfolding protocol_reject_of
rejects f {pkt} x h = (
  rw (le-ltb _ _ h) refl,
  record {
    info = pkt;
    packet = laid_packet lcp 8 (next_id f.id) pkt (omega arith) (omega arith) (omega arith) (omega arith);
    rejected = record { small = x.small; laid = x.laid };
  },
)

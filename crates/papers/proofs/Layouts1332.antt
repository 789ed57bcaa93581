-- IPv4CP's options that carry an address are RFC 1332's and RFC 1877's: as they are asked for, judged, and changed by a Nak or a Reject.
-- Assumes nothing.
use Prim.Native.Nat.{ℕ, ◌<◌}
use mathlib.Core.Path.{◌≡◌, refl, ap, sym, ◌∙◌}
use mathlib.Core.Bool.{Bool, true, false}
use lib.ListN.{length}
use Rattle.laws.specs.Be.{be_bytes, be_of}
use Rattle.laws.proofs.Be.{be_round, length_be}
use Rattle.options.specs.declared.ipv4cp.IpOption.{IpOption}
use Rattle.options.specs.declared.ipv4cp.Ipv4cp.{Ipv4cp}
use Rattle.options.specs.declared.proto.Proto.{Proto}
use Rattle.options.specs.declared.proto.Proto.TheVariants.{Ipv4cp as OfIpv4cp}
use Rattle.options.specs.declared.proto.Verdict.TheVariants.{Ack}
use Rattle.papers.specs.Rfc1661.{Option}
use Rattle.papers.specs.Rfc1332.{Address, IpAddress, PrimaryDns, SecondaryDns}
use Rattle.options.specs.Ipv4cp.{own_ip, ip_nacked, judge_ipv4cp, with_peer}
use Rattle.options.specs.Proto.{own_nacked}
use Rattle.papers.proofs.Octets.{four_octets}
use Rattle.papers.proofs.Layouts1661.{Field, laid_field}

-- ---- what is written

pub laid_address : (t : ℕ) (o : IpOption) → t < 256 → o.address < 0x100000000 → Field (Address t) o.is_rejected o.address (own_ip o t)
laid_address t o k h =
    laid_field (Address t) o.is_rejected t o.address k
    (record { small = h; type = refl; value = four_octets o.address h })

-- ---- what is read

module _ {t a : ℕ} {o : Option} (x : Address t o a) where
  -- its data by our own fields
  in_bytes : o.value ≡ be_bytes 4 a
  in_bytes = x.value ∙ sym (four_octets a x.small)

  address_length : length o.value ≡ 4
  address_length = rw in_bytes (length_be 4 a)

  address_number : be_of o.value ≡ a
  address_number = rw in_bytes (be_round 4 a x.small)

-- the peer's address: acked, and stored
pub judge_address : (p : Ipv4cp) {o : Option} {a : ℕ} → IpAddress o a
    → judge_ipv4cp p o.type o.value ≡ record { verdict = Ack; proto = with_peer p a }
judge_address p x = rw (address_length x, address_number x, x.type) refl

-- an own address as a Reject drops it, or as a Nak suggests another
abbrev pub taken_address : Bool → IpOption → ℕ → IpOption
taken_address true q a = record { address = q.address; is_rejected = true }
taken_address false q a = record { address = a; is_rejected = q.is_rejected }

taken_address_lem : (rej : Bool) (q : IpOption) {t a : ℕ} {o : Option} → Address t o a → ip_nacked q o.value rej ≡ taken_address rej q a
taken_address_lem true q x = refl
taken_address_lem false q x = rw (address_length x, address_number x) refl

-- each of the three changes its own, and no other
abbrev pub with_own : Ipv4cp → IpOption → IpOption → IpOption → Proto
with_own p a b c = OfIpv4cp (record { peer_address = p.peer_address; address = a; dns_server_1 = b; dns_server_2 = c })

module _ (rej : Bool) (p : Ipv4cp) {o : Option} {n : ℕ} where
  pub take_ip : IpAddress o n
      → own_nacked (OfIpv4cp p) o.type o.value rej ≡ with_own p (taken_address rej p.address n) p.dns_server_1 p.dns_server_2
  unfolding own_nacked
  take_ip x = rw x.type (ap (λ (q : IpOption). with_own p q p.dns_server_1 p.dns_server_2) (taken_address_lem rej p.address x))

  pub take_dns1 : PrimaryDns o n
      → own_nacked (OfIpv4cp p) o.type o.value rej ≡ with_own p p.address (taken_address rej p.dns_server_1 n) p.dns_server_2
  unfolding own_nacked
  take_dns1 x = rw x.type (ap (λ (q : IpOption). with_own p p.address q p.dns_server_2) (taken_address_lem rej p.dns_server_1 x))

  pub take_dns2 : SecondaryDns o n
      → own_nacked (OfIpv4cp p) o.type o.value rej ≡ with_own p p.address p.dns_server_1 (taken_address rej p.dns_server_2 n)
  unfolding own_nacked
  take_dns2 x = rw x.type (ap (λ (q : IpOption). with_own p p.address p.dns_server_1 q) (taken_address_lem rej p.dns_server_2 x))

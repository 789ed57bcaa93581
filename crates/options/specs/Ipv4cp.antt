-- IPv4CP's options (document 01, 'Negotiation'): RFC 1332 and RFC 1877.
use Rattle.std.specs.Prelude.{Bool, true, false, cond, not, ◌&&◌, List, ◌++◌, ℕ, eqb, length, Option, None, Some}
use Rattle.laws.specs.Be.{be_of}
use Rattle.options.specs.declared.ipv4cp.IpOption.{IpOption}
use Rattle.options.specs.declared.ipv4cp.Ipv4cp.{Ipv4cp}
use Rattle.options.specs.declared.proto.Judged.{Judged}
use Rattle.options.specs.declared.proto.Verdict.TheVariants.{Ack, Rej}
use Rattle.options.specs.Options.{own_field}

abbrev pub fresh_ip : IpOption
fresh_ip = record { address = 0; is_rejected = false }

-- an address shows as absent if it is 0.0.0.0, an own one also if it was rejected
abbrev pub shown : ℕ → Option ℕ
shown a = cond (eqb a 0) None (Some a)

abbrev pub shown_ip : IpOption → Option ℕ
shown_ip o = cond o.is_rejected None (shown o.address)

-- an own option is sent until it is dropped
abbrev pub own_ip : IpOption → ℕ → List ℕ
own_ip o c = own_field o.is_rejected c o.address

-- a Nack of 4 bytes replaces the address, a Rej or any other Nack drops the option
abbrev pub ip_nacked : IpOption → List ℕ → Bool → IpOption
ip_nacked o d rej =
    cond (not rej && eqb (length d) 4)
    (record { address = be_of d; is_rejected = o.is_rejected })
    (record { address = o.address; is_rejected = true })

abbrev pub fresh_ipv4cp : Ipv4cp
fresh_ipv4cp = record { peer_address = 0; address = fresh_ip; dns_server_1 = fresh_ip; dns_server_2 = fresh_ip }

abbrev pub with_peer : Ipv4cp → ℕ → Ipv4cp
with_peer p a = record { peer_address = a; address = p.address; dns_server_1 = p.dns_server_1; dns_server_2 = p.dns_server_2 }

-- option 3 with 4 bytes is acked and stored, all else is rejected
abbrev pub judge_ipv4cp : Ipv4cp → ℕ → List ℕ → Judged Ipv4cp
judge_ipv4cp p c d =
    cond (eqb c 3 && eqb (length d) 4)
    (record { verdict = Ack; proto = with_peer p (be_of d) })
    (record { verdict = Rej; proto = p })

abbrev pub own_ipv4cp : Ipv4cp → List ℕ
own_ipv4cp p = own_ip p.address 3 ++ (own_ip p.dns_server_1 129 ++ own_ip p.dns_server_2 131)

abbrev pub ipv4cp_nacked : Ipv4cp → ℕ → List ℕ → Bool → Ipv4cp
ipv4cp_nacked p c d rej =
    record {
      peer_address = p.peer_address;
      address = cond (eqb c 3) (ip_nacked p.address d rej) p.address;
      dns_server_1 = cond (eqb c 129) (ip_nacked p.dns_server_1 d rej) p.dns_server_1;
      dns_server_2 = cond (eqb c 131) (ip_nacked p.dns_server_2 d rej) p.dns_server_2;
    }

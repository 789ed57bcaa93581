-- LCP's options (document 01, 'Negotiation'): RFC 1661, section 6, and RFC 1662, section 7.1.
use Rattle.std.specs.Prelude.{Bool, true, false, cond, not, ◌&&◌, List, [], ◌∷◌, ℕ, eqb, length}
use Rattle.laws.specs.Be.{be_of}
use Rattle.laws.specs.Same.{same}
use Rattle.options.specs.declared.lcp.AuthType.{AuthType}
use Rattle.options.specs.declared.lcp.AuthType.TheVariants.{None, Pap}
use Rattle.options.specs.declared.lcp.Lcp.{Lcp}
use Rattle.options.specs.declared.proto.Judged.{Judged}
use Rattle.options.specs.declared.proto.Verdict.{Verdict}
use Rattle.options.specs.declared.proto.Verdict.TheVariants.{Ack, Nack, Rej}
use Rattle.options.specs.Options.{own_field}

abbrev pub fresh_lcp : Lcp
fresh_lcp = record { auth = None; asyncmap_remote = 0xFFFFFFFF; asyncmap = 0; asyncmap_rej = false }

-- the record with another authentication, another map of the peer, or another own option
abbrev pub with_auth : Lcp → AuthType → Lcp
with_auth p a = record { auth = a; asyncmap_remote = p.asyncmap_remote; asyncmap = p.asyncmap; asyncmap_rej = p.asyncmap_rej }

abbrev pub with_remote : Lcp → ℕ → Lcp
with_remote p m = record { auth = p.auth; asyncmap_remote = m; asyncmap = p.asyncmap; asyncmap_rej = p.asyncmap_rej }

abbrev pub with_own : Lcp → ℕ → Bool → Lcp
with_own p m dropped = record { auth = p.auth; asyncmap_remote = p.asyncmap_remote; asyncmap = m; asyncmap_rej = dropped }

-- each ConfigureReq first sets auth to None
abbrev pub start_lcp : Lcp → Lcp
start_lcp p = with_auth p None

-- what is suggested for option 3: PAP
unfoldable pub suggestion_lcp : Lcp → List ℕ
suggestion_lcp p = 0xC0 ∷ 0x23 ∷ []

abbrev pub judged_lcp : Verdict → Lcp → Judged Lcp
judged_lcp v p = record { verdict = v; proto = p }

-- option 2 with 4 bytes is acked and stored; option 3 is acked for what is suggested, else nacked; others are rejected
abbrev pub judge_lcp : Lcp → ℕ → List ℕ → Judged Lcp
judge_lcp p c d =
    cond (eqb c 2)
    (cond (eqb (length d) 4) (judged_lcp Ack (with_remote p (be_of d))) (judged_lcp Rej p))
    (cond (eqb c 3)
    (cond (same d (suggestion_lcp p)) (judged_lcp Ack (with_auth p Pap)) (judged_lcp Nack p))
    (judged_lcp Rej p))

-- the own option, unless it was dropped
abbrev pub own_lcp : Lcp → List ℕ
own_lcp p = own_field p.asyncmap_rej 2 p.asyncmap

-- a Nack of 4 bytes replaces the map, a Rej or any other Nack drops the option
abbrev pub lcp_nacked : Lcp → ℕ → List ℕ → Bool → Lcp
lcp_nacked p c d rej =
    cond (eqb c 2)
    (cond (not rej && eqb (length d) 4)
    (with_own p (be_of d) p.asyncmap_rej)
    (with_own p p.asyncmap true))
    p

-- lcp.rs and ipv4cp.rs stand for our LCP and IPv4CP.
-- Assumes nothing.
use mathlib.Core.Path.{◌≡◌, refl, ap, sym, ◌∙◌}
use mathlib.Core.Bool.{Bool, true, false, cond, not, ◌&&◌}
use mathlib.Core.List.{List, [], ◌∷◌, ◌++◌, append-nil, append_assoc}
use Prim.Native.Nat.{ℕ, ◌+◌, ◌≤◌, ◌<◌}
use native.Mathlib.Omega.{arith}
use borrow.Author.Tests.{eqb-true, lt-leb}
use lib.Dec.{eqb, lit<, lit≤}
use lib.ListN.{length, length-append}
use Rattle.laws.specs.Be.{be_bytes}
use Rattle.laws.specs.Same.{same}
use Rattle.laws.proofs.Be.{length_be}
use Rattle.laws.proofs.Cases.{by_test, cond_all}
use Rattle.options.specs.Lcp as ours
use Rattle.options.specs.Ipv4cp as ours4
use Rattle.options.specs.Proto.{own_nacked}
use Rattle.options.specs.declared.proto.Proto as proto
use Rattle.options.specs.declared.lcp.Lcp as lcp
use Rattle.options.specs.declared.ipv4cp.Ipv4cp as ipv4cp
use Rattle.options.specs.declared.ipv4cp.IpOption as ip
use Rattle.original.specs.Run.{returns}
use Rattle.original.specs.Wire.{OptionVal}
use Rattle.original.specs.Fsm.{push_own}
use Rattle.original.specs.Protocols.{lcp_protocol, ipv4cp_protocol, lcp_received, own_ip, ip_nacked, ipv4cp_received, ipv4cp_nacked}
use Rattle.original.specs.View.{view_lcp, view_ip, view_ipv4cp}
use Rattle.original.proofs.Packets.{Lists, lists_none, lists_more, bytes_be}
use Rattle.original.proofs.Replies.{Own, Stands, view_verdict}

-- one more own option of four bytes
one_more : {os : List OptionVal} {l : List ℕ} (c v : ℕ) → c < 256 → Lists os l
    → Lists (os ++ (record { code = c; value = be_bytes 4 v } ∷ [])) (l ++ (c ∷ (length (be_bytes 4 v) + 2) ∷ be_bytes 4 v))
one_more c v small h = lists_more c (be_bytes 4 v) h small (bytes_be 4 v) (rw (length_be 4 v) (lit≤ tt))

-- ---- LCP

own_lcp_lem : (p : lcp.Lcp) → Own lcp_protocol (view_lcp p) (ours.own_lcp p)
unfolding push_own
own_lcp_lem p =
    by_test p.asyncmap_rej
    (λ t. rw t (record { opts = []; pushed = refl; lists = lists_none }))
    (λ t. rw t (record { opts = record { code = 2; value = be_bytes 4 p.asyncmap } ∷ []; pushed = rw (length_be 4 p.asyncmap) refl; lists = one_more 2 p.asyncmap (lit< tt) lists_none }))

lcp_theirs : (p : lcp.Lcp) (c : ℕ) (d : List ℕ)
    → lcp_received (view_lcp p) c d ≡ (view_verdict (ours.suggestion_lcp p) (ours.judge_lcp p c d).verdict, view_lcp (ours.judge_lcp p c d).proto)
unfolding ours.suggestion_lcp
lcp_theirs p c d =
    by_test (eqb c 2)
    (λ t. rw t (by_test (eqb (length d) 4) (λ u. rw u refl) (λ u. rw u refl)))
    (λ t. rw t (by_test (eqb c 3)
    (λ u. rw u (by_test (same d (ours.suggestion_lcp p)) (λ v. rw v refl) (λ v. rw v refl)))
    (λ u. rw u refl)))

pub lcp_stands : Stands lcp_protocol proto.TheVariants.Lcp view_lcp
unfolding own_nacked
lcp_stands =
    record {
      number = λ x. refl;
      own = own_lcp_lem;
      started = ours.start_lcp;
      start_ours = λ x. refl;
      start_theirs = λ x. refl;
      verdict = λ x c d. (ours.judge_lcp x c d).verdict;
      judged = λ x c d. (ours.judge_lcp x c d).proto;
      judge_ours = λ x c d. refl;
      judge_theirs = lcp_theirs;
      nacked = ours.lcp_nacked;
      nack_ours = λ x c d rej. refl;
      nack_theirs = λ x c d rej. by_test (eqb c 2) (λ t. rw t (by_test (not rej && eqb (length d) 4) (λ u. rw u refl) (λ u. rw u refl))) (λ t. rw t refl);
    }

-- ---- IPv4CP

-- the option that an address is sent as, or none
abbrev opt_of : ℕ → ip.IpOption → List OptionVal
opt_of c o = cond o.is_rejected [] (record { code = c; value = be_bytes 4 o.address } ∷ [])

push_ip : (os : List OptionVal) (c : ℕ) (o : ip.IpOption) (rest : List (ℕ × List ℕ)) → length os < 6
    → push_own ipv4cp_protocol os (own_ip c (view_ip o) ++ rest) ≡ push_own ipv4cp_protocol (os ++ opt_of c o) rest
unfolding push_own
push_ip os c o rest h =
    by_test o.is_rejected (λ t. rw (t, append-nil os) refl)
    (λ t. rw (t, length_be 4 o.address, lt-leb 6 (length os) h) refl)

lists_ip : {os : List OptionVal} {l : List ℕ} (c : ℕ) (o : ip.IpOption) → c < 256 → Lists os l → Lists (os ++ opt_of c o) (l ++ ours4.own_ip o c)
lists_ip {os} {l} c o small h =
    by_test o.is_rejected (λ t. rw (t, append-nil os, append-nil l) h) (λ t. rw t (one_more c o.address small h))

opt_short : (c : ℕ) (o : ip.IpOption) → length (opt_of c o) ≤ 1
opt_short c o = cond_all (λ (l : List OptionVal). length l ≤ 1) o.is_rejected (lit≤ tt) (lit≤ tt)

push_none : (os : List OptionVal) → push_own ipv4cp_protocol os [] ≡ returns os
unfolding push_own
push_none os = refl

own_ipv4cp_lem : (p : ipv4cp.Ipv4cp) → Own ipv4cp_protocol (view_ipv4cp p) (ours4.own_ipv4cp p)
own_ipv4cp_lem p =
    let a = p.address in
    let b = p.dns_server_1 in
    let c = p.dns_server_2 in
    let first = opt_of 3 a in
    let second = first ++ opt_of 129 b in
    record {
      opts = second ++ opt_of 131 c;
      pushed =
          push_ip [] 3 a _ (lit< tt) ∙ push_ip first 129 b _ (omega (arith, opt_short 3 a))
          ∙ ap (λ (l : List (ℕ × List ℕ)). push_own ipv4cp_protocol second l) (sym (append-nil (own_ip 131 (view_ip c))))
          ∙ push_ip second 131 c [] (rw length-append (omega (arith, opt_short 3 a, opt_short 129 b))) ∙ push_none (second ++ opt_of 131 c);
      lists = rw (append_assoc (ours4.own_ip a 3) (ours4.own_ip b 129) (ours4.own_ip c 131)) at (lists_ip 131 c (lit< tt) (lists_ip 129 b (lit< tt) (lists_ip 3 a (lit< tt) lists_none)));
    }

ip_theirs : (o : ip.IpOption) (d : List ℕ) (rej : Bool) → ip_nacked (view_ip o) d rej ≡ view_ip (ours4.ip_nacked o d rej)
ip_theirs o d true = refl
ip_theirs o d false = by_test (eqb (length d) 4) (λ t. rw t refl) (λ t. rw t refl)

ipv4cp_theirs : (p : ipv4cp.Ipv4cp) (c : ℕ) (d : List ℕ)
    → ipv4cp_received (view_ipv4cp p) c d ≡ (view_verdict [] (ours4.judge_ipv4cp p c d).verdict, view_ipv4cp (ours4.judge_ipv4cp p c d).proto)
ipv4cp_theirs p c d =
    by_test (eqb c 3) (λ t. rw t (by_test (eqb (length d) 4) (λ u. rw u refl) (λ u. rw u refl))) (λ t. rw t refl)

nacked_theirs : (p : ipv4cp.Ipv4cp) (c : ℕ) (d : List ℕ) (rej : Bool) → ipv4cp_nacked (view_ipv4cp p) c d rej ≡ view_ipv4cp (ours4.ipv4cp_nacked p c d rej)
nacked_theirs p c d rej =
    by_test (eqb c 3)
    (λ t. let e = eqb-true c 3 t in rw (e, ip_theirs p.address d rej) refl)
    (λ t. rw t (by_test (eqb c 129)
    (λ u. let e = eqb-true c 129 u in rw (e, ip_theirs p.dns_server_1 d rej) refl)
    (λ u. rw u (by_test (eqb c 131) (λ v. rw (v, ip_theirs p.dns_server_2 d rej) refl) (λ v. rw v refl)))))

pub ipv4cp_stands : Stands ipv4cp_protocol proto.TheVariants.Ipv4cp view_ipv4cp
unfolding own_nacked
ipv4cp_stands =
    record {
      number = λ x. refl;
      own = own_ipv4cp_lem;
      started = λ x. x;
      start_ours = λ x. refl;
      start_theirs = λ x. refl;
      verdict = λ x c d. (ours4.judge_ipv4cp x c d).verdict;
      judged = λ x c d. (ours4.judge_ipv4cp x c d).proto;
      judge_ours = λ x c d. refl;
      judge_theirs = ipv4cp_theirs;
      nacked = ours4.ipv4cp_nacked;
      nack_ours = λ x c d rej. refl;
      nack_theirs = nacked_theirs;
    }

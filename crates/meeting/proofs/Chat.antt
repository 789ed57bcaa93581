-- Two ends, frame by frame: one order in which the frames are passed on, to where both are open, in each of the four cases.
-- Assumes nothing.
use mathlib.Core.Path.{◌≡◌, refl}
use mathlib.Core.Bool.{Bool, true, false, ◌&&◌}
use mathlib.Core.List.{List, [], ◌∷◌, ◌++◌}
use Prim.Native.Nat.{ℕ}
use native.Mathlib.Omega.{arith}
use Rattle.negotiation.specs.Messages.{next_id}
use Rattle.meeting.proofs.Says.{Self, heard, hello, ask, lcp_packet, begun, net, Moves}
use Rattle.negotiation.specs.declared.states.State.TheVariants.{ReqSent, Opened}
use Rattle.phases.specs.declared.ppp.Phase.TheVariants.{Network, Open}
use Rattle.phases.specs.declared.ppp.Ppp.{Ppp}
use Rattle.meeting.specs.Statement.{FourToSix}
use Rattle.meeting.proofs.Moves.{hears, enters, grants, grants_last, denies, denied, denied_acked, granted, granted_last}

-- ---- where it ends

-- an end that met the other: it is open, and knows the other's address unless that was not offered
pub record Settled (X Y : Self) (s : Ppp) : Type 0 where
  pub id : ℕ
  pub peer : ℕ
  pub is : s ≡ net X Y Open id Opened peer true true
  pub hears : peer ≡ heard Y.address Y.address_rej X.peer

-- two ends, the packets on the way to each, and all that each has sent
pub data Chat (A B : Self) : Ppp → Ppp → List (List ℕ) → List (List ℕ) → List (List ℕ) → List (List ℕ) → Type 0 where
  end : {a b : Ppp} {f g : List (List ℕ)} → Settled A B a → Settled B A b → FourToSix f → FourToSix g → Chat A B a b [] [] f g
  at_a : {a a' b : Ppp} {o : List (List ℕ)} {x : List ℕ} {u v f g : List (List ℕ)} → Moves a x a' o → Chat A B a' b u (v ++ o) (f ++ o) g → Chat A B a b (x ∷ u) v f g
  at_b : {a b b' : Ppp} {o : List (List ℕ)} {x : List ℕ} {u v f g : List (List ℕ)} → Moves b x b' o → Chat A B a b' (u ++ o) v f (g ++ o) → Chat A B a b u (x ∷ v) f g

-- the same, seen from the other end
pub flipped : {A B : Self} {a b : Ppp} {u v f g : List (List ℕ)} → Chat A B a b u v f g → Chat B A b a v u g f
flipped (end s t k l) = end t s l k
flipped (at_a h e) = at_b h (flipped e)
flipped (at_b h e) = at_a h (flipped e)

-- ---- the run

heard_twice : (v p : ℕ) (r : Bool) → heard v r (heard v r p) ≡ heard v r p
heard_twice v p true = refl
heard_twice v p false = refl

module _ (A B : Self) where
  abbrev pub First : Bool → Bool → Bool → Bool → Type 0
  First m n m' n' = Chat A B (begun A m n) (begun B m' n') (hello B ∷ []) (hello A ∷ []) (hello A ∷ []) (hello B ∷ [])

  -- LCP is open at both, and both have asked for IPv4CP's options
  abbrev Second : Bool → Bool → Bool → Bool → Type 0
  Second m n m' n' =
      Chat A B (net A B Network (next_id A.ip_id) ReqSent A.peer m n) (net B A Network (next_id B.ip_id) ReqSent B.peer m' n')
      (ask (next_id B.ip_id) B m' n' ∷ []) (ask (next_id A.ip_id) A m n ∷ [])
      (hello A ∷ lcp_packet 2 (next_id B.lcp_id) B ∷ ask (next_id A.ip_id) A m n ∷ [])
      (hello B ∷ lcp_packet 2 (next_id A.lcp_id) A ∷ ask (next_id B.ip_id) B m' n' ∷ [])

  lcp_part : (m n m' n' : Bool) → Second m n m' n' → First m n m' n'
  lcp_part m n m' n' h = at_a (hears A B m n) (at_b (hears B A m' n') (at_a (enters A B m n) (at_b (enters B A m' n') h)))

  abbrev hear_a : ℕ
  hear_a = heard B.address B.address_rej A.peer

  abbrev hear_b : ℕ
  hear_b = heard A.address A.address_rej B.peer

  -- each end knows what it heard, once or twice
  once : (i : ℕ) → Settled A B (net A B Open i Opened hear_a true true)
  once i = record { id = i; peer = hear_a; is = refl; hears = refl }

  twice : (i : ℕ) → Settled A B (net A B Open i Opened (heard B.address B.address_rej hear_a) true true)
  twice i = record { id = i; peer = _; is = refl; hears = heard_twice B.address A.peer B.address_rej }

-- neither sends a name server: four frames each
both_clean : (A B : Self) → First A B true true true true
both_clean A B =
    let i : ℕ = A.ip_id in
    let j : ℕ = B.ip_id in
    lcp_part A B true true true true
    (at_a (grants A B (next_id i) j A.peer true true)
    (at_b (grants B A (next_id j) i B.peer true true)
    (at_a (granted_last A B (next_id i) i (hear_a A B))
    (at_b (granted_last B A (next_id j) j (hear_b A B))
    (end (once A B (next_id i)) (once B A (next_id j)) (record { least = omega arith; most = omega arith }) (record { least = omega arith; most = omega arith }))))))

-- one sends a name server, which is rejected: five frames each
dns_at_one : (A B : Self) (m n : Bool) → m && n ≡ false → First A B m n true true
dns_at_one A B m n h =
    let i : ℕ = A.ip_id in
    let j : ℕ = B.ip_id in
    lcp_part A B m n true true
    (at_a (grants A B (next_id i) j A.peer m n)
    (at_b (denies B A (next_id j) i B.peer true true m n h)
    (at_b (granted B A (next_id j) j (hear_b A B))
    (at_a (denied_acked A B (next_id i) i (hear_a A B) m n h)
    (at_b (grants_last B A (next_id j) (next_id i) (hear_b A B) true true)
    (at_a (granted_last A B (next_id (next_id i)) (next_id i) (hear_a A B))
    (end (once A B (next_id (next_id i))) (twice B A (next_id j)) (record { least = omega arith; most = omega arith }) (record { least = omega arith; most = omega arith }))))))))

-- both send one: six frames each
dns_at_both : (A B : Self) (m n m' n' : Bool) → m && n ≡ false → m' && n' ≡ false → First A B m n m' n'
dns_at_both A B m n m' n' h h' =
    let i : ℕ = A.ip_id in
    let j : ℕ = B.ip_id in
    lcp_part A B m n m' n'
    (at_a (denies A B (next_id i) j A.peer m n m' n' h')
    (at_b (denies B A (next_id j) i B.peer m' n' m n h)
    (at_a (denied A B (next_id i) i (hear_a A B) m n h)
    (at_b (denied B A (next_id j) j (hear_b A B) m' n' h')
    (at_a (grants A B (next_id (next_id i)) (next_id j) (hear_a A B) true true)
    (at_b (grants B A (next_id (next_id j)) (next_id i) (hear_b A B) true true)
    (at_a (granted_last A B (next_id (next_id i)) (next_id i) _)
    (at_b (granted_last B A (next_id (next_id j)) (next_id j) _)
    (end (twice A B (next_id (next_id i))) (twice B A (next_id (next_id j))) (record { least = omega arith; most = omega arith }) (record { least = omega arith; most = omega arith }))))))))))

-- whichever name servers were rejected before
pub chat : (A B : Self) (m n m' n' : Bool) → First A B m n m' n'
chat A B true true true true = both_clean A B
chat A B true true true false = flipped (dns_at_one B A true false refl)
chat A B true true false n' = flipped (dns_at_one B A false n' refl)
chat A B true false true true = dns_at_one A B true false refl
chat A B true false true false = dns_at_both A B true false true false refl refl
chat A B true false false n' = dns_at_both A B true false false n' refl refl
chat A B false n true true = dns_at_one A B false n refl
chat A B false n true false = dns_at_both A B false n true false refl refl
chat A B false n false n' = dns_at_both A B false n false n' refl refl

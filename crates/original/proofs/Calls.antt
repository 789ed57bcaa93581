-- The calls of pppos/mod.rs that are neither poll nor send: new, open, status and consume.
-- Assumes nothing.
use mathlib.Core.Path.{◌≡◌, refl, ap, sym, ◌∙◌}
use mathlib.Core.Bool.{false, cond}
use mathlib.Core.List.{List, []}
use Prim.Native.Nat.{ℕ, ◌+◌, ◌-◌, ◌≤◌, ◌<◌}
use native.Mathlib.Omega.{arith}
use borrow.Author.Tests.{le-ltb, ltb-true}
use lib.Dec.{ltb, eqb, lit≤}
use lib.ListN.{length}
use Rattle.std.specs.Prelude.{Result, Ok, Err}
use Rattle.laws.specs.Each.{Bytes}
use Rattle.laws.proofs.Cases.{apart, by_test}
use Rattle.framing.specs.Reader as reader
use Rattle.framing.specs.Refusal.{count_of}
use Rattle.framing.specs.declared.frame_reader.Reading.{Reading}
use Rattle.framing.specs.declared.frame_reader.Reading.TheVariants.{Crate}
use Rattle.framing.specs.declared.frame_reader.FrameReader.{FrameReader}
use Rattle.negotiation.specs.Automaton.{is_opened}
use Rattle.options.specs.Ipv4cp.{shown, shown_ip}
use Rattle.negotiation.specs.Credentials.{max_credentials, fits_credentials}
use Rattle.phases.specs.Phases.{with_phase, new_of, open_of, status_of}
use Rattle.options.specs.declared.ipv4cp.IpOption as ip
use Rattle.phases.specs.declared.ppp.Phase.{Phase}
use Rattle.phases.specs.declared.ppp.Phase.TheVariants.{Dead, Establish, Auth, Network, Open}
use Rattle.phases.specs.declared.ppp.Ppp.{Ppp}
use Rattle.link.specs.Choices.{choices_of, Plain}
use Rattle.link.specs.Link.{link_of, held_by, Changes, Makes, Opens, Consumes}
use Rattle.negotiation.proofs.CredentialLaws.{fits_sum, sum_fits, credentials_held}
use Rattle.link.specs.Refusal.{outcome_number}
use Rattle.link.specs.declared.refusal.Refusal.TheVariants.{Negotiation}
use Rattle.options.specs.declared.refusal.Refusal.TheVariants.{CredentialsLong}
use Rattle.link.specs.declared.refusal.Refusal.{Refusal}
use Rattle.link.specs.declared.choices.Choices.{Choices}
use Rattle.link.specs.declared.pppos.PPPoS.{PPPoS}
use Rattle.original.specs.Run.{Place, returns, panics, name_long, password_long}
use Rattle.original.specs.Framing.{new_reader}
use Rattle.original.specs.Fsm.{new_fsm}
use Rattle.original.specs.Protocols.{get_ip, NoAddr, SomeAddr, new_lcp, lcp_protocol, new_ipv4cp, ipv4cp_protocol, PapClosed}
use Rattle.original.specs.Ppp as ppp
use Rattle.original.specs.Pppos as theirs
use Rattle.original.specs.View.{view_ip, view_phase, view_link, as_phase, as_shown, as_status}
use Rattle.original.specs.Domain.{Lent}
use Rattle.original.specs.Same.{SameOpen}
use Rattle.original.specs.Panics.{number_at}
use Rattle.original.proofs.Reader.{same-consume}
use Rattle.original.proofs.Handle.{opened_is}

-- ---- status

shown_is : (a : ℕ) → shown a ≡ as_shown (cond (eqb a 0) NoAddr (SomeAddr a))
shown_is a = by_test (eqb a 0) (λ t. rw t refl) (λ t. rw t refl)

ip_is : (o : ip.IpOption) → shown_ip o ≡ as_shown (get_ip (view_ip o))
ip_is o = by_test o.is_rejected (λ t. rw t refl) (λ t. rw t (shown_is o.address))

phase_is : (f : Phase) → f ≡ as_phase (view_phase f)
phase_is Dead = refl
phase_is Establish = refl
phase_is Auth = refl
phase_is Network = refl
phase_is Open = refl

pub same-status : (l : PPPoS) → Plain (choices_of l) → status_of l.ppp ≡ as_status (theirs.status_link (view_link l))
same-status l _ =
    let y = l.ppp.ipv4cp.proto in
    rw (opened_is l.ppp.ipv4cp.state, ← phase_is l.ppp.phase)
    (by_test (is_opened l.ppp.ipv4cp.state)
    (λ t. rw (t, ip_is y.address, shown_is y.peer_address, ip_is y.dns_server_1, ip_is y.dns_server_2) refl)
    (λ t. rw t refl))

-- ---- open

open_at : (f : Phase) (r : FrameReader) (p : Ppp) {o : Result Unit Refusal} {l : PPPoS} → Changes (open_of (with_phase p f)) r o l
    → SameOpen (theirs.open_link (view_link (link_of r (with_phase p f)))) (link_of r (with_phase p f)) o l
open_at Dead r p c = (c.outcome, ap view_link c.link, ap (λ (x : PPPoS). x.frame_reader) c.link)
open_at Establish r p c = (c.outcome, c.link)
open_at Auth r p c = (c.outcome, c.link)
open_at Network r p c = (c.outcome, c.link)
open_at Open r p c = (c.outcome, c.link)

pub same_open : (l : PPPoS) → Plain (choices_of l) → {o : Result Unit Refusal} {l' : PPPoS} → Opens l o l' → SameOpen (theirs.open_link (view_link l)) l o l'
same_open l _ c = open_at l.ppp.phase l.frame_reader l.ppp c

-- ---- consume

pub same_consume_link : (l : PPPoS) (rx bs : List ℕ) → Plain (choices_of l) → (choices_of l).reading ≡ Crate → Lent l rx → Bytes bs → {t : Result ℕ Refusal} {l' : PPPoS} {rx' : List ℕ} → Consumes l rx bs t l' rx'
    → (t ≡ Ok (count_of t)) × (theirs.consume_link (view_link l) bs rx ≡ returns (record { count = count_of t; link = view_link l'; rx = rx' })) × (l'.frame_reader.reading ≡ Crate)
same_consume_link l rx bs _ crate lent given {t} c =
    let n = length bs - length (reader.consumed (held_by l rx) bs).left in
    let h = le-ltb (length rx) l.frame_reader.len lent.room in
    let run =
    same-consume l.frame_reader rx bs crate lent.room lent.slice lent.bytes given {t = Ok n}
    (record { number = rw h refl; count = refl; reader = refl; bytes = refl }) in
    let took : t ≡ Ok n = c.outcome ∙ rw h refl in
    (took ∙ ap Ok (sym c.count), rw (run.1, c.count, c.link, c.bytes) refl, rw c.link run.2)

-- ---- new

-- what new of the original gives
abbrev made : List ℕ → List ℕ → theirs.PPPoS
made name password =
    record {
      frame_reader = new_reader;
      ppp = record { phase = ppp.Dead; opening = false; lcp = new_fsm lcp_protocol new_lcp; pap = record { state = PapClosed; id = 1; username = name; password = password }; ipv4cp = new_fsm ipv4cp_protocol new_ipv4cp };
    }

fits_not : (n m : ℕ) → max_credentials < n + m → fits_credentials n m ≡ false
fits_not n m h = by_test (fits_credentials n m) (λ t. absurd (omega (arith, fits_sum n m t))) (λ t. t)

fresh_is : (name password : List ℕ) (k : Reading) → length name + length password ≤ max_credentials
    → theirs.new_link name password ≡ returns (view_link (link_of (reader.fresh_reader k) (new_of name password).ppp))
fresh_is name password k h =
    let held = credentials_held name password h in
    rw (le-ltb 255 (length name) (omega arith), le-ltb 255 (length password) (omega arith), sum_fits (length name) (length password) h, held.0, held.1) refl

module _ (name password : List ℕ) (k : Choices) {o : Result Unit Refusal} {l : PPPoS} (c : Makes name password k o l) where
  fresh : k.reading ≡ Crate → l.frame_reader.reading ≡ Crate
  fresh crate = ap (λ (x : PPPoS). x.frame_reader.reading) c.link ∙ crate

  pub new_fits : k.reading ≡ Crate → length name + length password ≤ max_credentials → (o ≡ Ok tt) × (theirs.new_link name password ≡ returns (view_link l)) × (l.frame_reader.reading ≡ Crate)
  new_fits crate h =
      (c.outcome ∙ rw (sum_fits (length name) (length password) h) refl, fresh_is name password k.reading h ∙ ap returns (sym (ap view_link c.link)), fresh crate)

  pub new_over : k.reading ≡ Crate → max_credentials < length name + length password → (o ≡ Err (Negotiation CredentialsLong)) × (theirs.new_link [] [] ≡ returns (view_link l)) × (l.frame_reader.reading ≡ Crate)
  new_over crate h =
      let e = fits_not (length name) (length password) h in
      let link : l ≡ link_of (reader.fresh_reader k.reading) (new_of [] []).ppp = c.link ∙ rw e refl in
      (c.outcome ∙ rw e refl, fresh_is [] [] k.reading (lit≤ tt) ∙ ap returns (sym (ap view_link link)), fresh crate)

  pub new_panics : {p : Place} → theirs.new_link name password ≡ panics p → outcome_number o ≡ number_at p
  new_panics {p} e =
      by_test (ltb 255 (length name))
      (λ t.
      let z : theirs.new_link name password ≡ panics name_long = rw t refl in
      let q : p ≡ name_long = cc in
      four (omega (arith, ltb-true 255 (length name) t)) ∙ sym (ap number_at q))
      (λ t. by_test (ltb 255 (length password))
      (λ u.
      let z : theirs.new_link name password ≡ panics password_long = rw (t, u) refl in
      let q : p ≡ password_long = cc in
      four (omega (arith, ltb-true 255 (length password) u)) ∙ sym (ap number_at q))
      (λ u.
      let z : theirs.new_link name password ≡ returns (made name password) = rw (t, u) refl in
      apart (cc)))
    where
      four : max_credentials < length name + length password → outcome_number o ≡ 4
      four h = let e : o ≡ Err (Negotiation CredentialsLong) = c.outcome ∙ rw (fits_not (length name) (length password) h) refl in ap outcome_number e

-- The refusal table of the link's calls but poll: the first row that holds.
-- Assumes nothing.
use mathlib.Core.Path.{◌≡◌, refl, ap, sym, ◌∙◌}
use mathlib.Core.Bool.{true, true≢false, false≢true}
use mathlib.Core.List.{List}
use mathlib.Core.Logic.{inl, inr}
use Prim.Native.Nat.{ℕ}
use native.Mathlib.Omega.{arith}
use borrow.Author.Tests.{leb-true, leb-false}
use lib.Dec.{leb}
use lib.ListN.{length}
use Rattle.std.specs.Prelude.{Result}
use Rattle.laws.proofs.Cases.{by_test}
use Rattle.framing.specs.declared.frame_reader.FrameReader.{FrameReader}
use Rattle.negotiation.specs.Credentials.{fits_credentials}
use Rattle.phases.specs.Phases.{is_dead, open_of, new_of}
use Rattle.phases.specs.declared.ppp.Phase.{Phase}
use Rattle.phases.specs.declared.ppp.Phase.TheVariants.{Dead, Establish, Auth, Network, Open}
use Rattle.phases.specs.declared.ppp.Ppp.{Ppp}
use Rattle.phases.specs.declared.ppp.Status.{Status}
use Rattle.negotiation.proofs.CredentialLaws.{fits_sum, unfit_sum}
use Rattle.framing.specs.Refusal as framing
use Rattle.framing.specs.declared.refusal.Refusal as framed
use Rattle.options.specs.Refusal as negotiated
use Rattle.link.specs.Refusal.{outcome_number}
use Rattle.framing.specs.Drops.{dropped}
use Rattle.framing.specs.declared.drops.Drops.{Drops}
use Rattle.link.specs.Link.{link_of, held_by, Consumes, ip_frame, remote_map, Sends}
use Rattle.status_lines.specs.Lines.{lines_of, Shows}
use Rattle.refusals.specs.Framing.{consume_rows}
use Rattle.refusals.specs.Table.{empty_ppp, new_rows, open_rows, send_rows, lines_rows}
use Rattle.link.specs.declared.refusal.Refusal.{Refusal}
use Rattle.link.specs.declared.pppos.PPPoS.{PPPoS}
use Rattle.refusals.proofs.Rows.{First}
use Rattle.refusals.proofs.FramingCalls.{lays_right, consume_right}

-- ---- new

-- of the link, or of the record below it: what new_of comes to
pub new_first : {A : Type 0} (name password : List ℕ) (empty : A) {n : ℕ} {a : A} → n ≡ negotiated.outcome_number (new_of name password).outcome
    → ((new_of name password).ppp ≡ empty_ppp → a ≡ empty) → First n a (new_rows name password empty)
new_first name password empty number same =
    by_test (fits_credentials (length name) (length password))
    (λ e. inr ((λ h. omega (arith, fits_sum (length name) (length password) e)), number ∙ rw e refl))
    (λ e. inl (number ∙ rw e refl, unfit_sum (length name) (length password) e, same (rw e refl)))

-- ---- open

dead_is : (f : Phase) → is_dead f ≡ true → f ≡ Dead
dead_is Dead e = refl
dead_is Establish e = absurd (false≢true e)
dead_is Auth e = absurd (false≢true e)
dead_is Network e = absurd (false≢true e)
dead_is Open e = absurd (false≢true e)

-- of the link, or of the record below it: what open_of comes to
pub open_first : {A : Type 0} (p : Ppp) (l : A) {n : ℕ} {a : A} → n ≡ negotiated.outcome_number (open_of p).outcome
    → ((open_of p).ppp ≡ p → a ≡ l) → First n a (open_rows p.phase l)
open_first p l number same =
    by_test (is_dead p.phase)
    (λ e. inr ((λ h. h (dead_is p.phase e)), number ∙ rw e refl))
    (λ e. inl (number ∙ rw e refl, (λ d. true≢false (sym (ap is_dead d) ∙ e)), same (rw e refl)))

-- ---- consume

pub consume-first : (l : PPPoS) (rx bs : List ℕ) {t : Result ℕ Refusal} {d : Drops} {l' : PPPoS} {rx' : List ℕ} → Consumes l rx bs t l' rx' → d ≡ dropped (held_by l rx) bs
    → First (outcome_number t) (record { count = framing.count_of t; drops = d; kept = l'; rx = rx' }) (consume_rows l.frame_reader.len l rx)
consume-first l rx bs c d =
    consume_right (held_by l rx) bs l c.number c.count d (λ e. c.link ∙ ap (λ (r : FrameReader). link_of r l.ppp) e) c.bytes

-- ---- send

pub send-first : (l : PPPoS) (pkt tx : List ℕ) {r : Result ℕ Refusal} {tx' : List ℕ} → Sends l pkt tx r tx'
    → First (outcome_number r) (record { count = framing.count_of r; bytes = tx' }) (send_rows l pkt tx)
send-first l pkt tx c = (lays_right (remote_map l) (ip_frame pkt) tx c.number c.lays).first

-- ---- status lines

pub lines_first : (s : Status) (buf : List ℕ) {r : Result ℕ framed.Refusal} {buf' : List ℕ} → Shows s buf r buf'
    → First (framing.outcome_number r) (record { count = framing.count_of r; bytes = buf' }) (lines_rows (lines_of s) buf)
lines_first s buf c =
    by_test (leb (length (lines_of s)) (length buf))
    (λ e. inr ((λ h. omega (arith, leb-true (length (lines_of s)) (length buf) e)), c.number ∙ rw e refl))
    (λ e. inl (c.number ∙ rw e refl, leb-false (length (lines_of s)) (length buf) e, (c.count ∙ rw e refl, c.bytes ∙ rw e refl)))

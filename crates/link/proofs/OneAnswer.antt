-- Each promise admits one answer: two answers to the same call are equal, part by part.
-- Assumes nothing.
use mathlib.Core.Path.{◌≡◌, sym, ◌∙◌}
use mathlib.Core.List.{List}
use Prim.Native.Nat.{ℕ}
use Rattle.std.specs.Prelude.{Result}
use Rattle.framing.specs.declared.frame_reader.FrameReader.{FrameReader}
use Rattle.framing.proofs.OneAnswer.{lays_one}
use Rattle.phases.specs.Phases.{Turn}
use Rattle.link.specs.declared.refusal.Refusal.{Refusal}
use Rattle.link.specs.declared.pppos.PPPoS.{PPPoS}
use Rattle.link.specs.declared.pppos.PPPoSAction.{PPPoSAction}
use Rattle.link.specs.Link.{Changes, Consumes, Poll, Polls, Sends}

pub changes_one : {t : Turn} {r : FrameReader} {o₁ o₂ : Result Unit Refusal} {l₁ l₂ : PPPoS}
    → Changes t r o₁ l₁ → Changes t r o₂ l₂ → (o₁ ≡ o₂) × (l₁ ≡ l₂)
changes_one a b = (a.outcome ∙ sym b.outcome, a.link ∙ sym b.link)

pub consumes_one : {l : PPPoS} {rx bs : List ℕ} {t₁ t₂ : Result ℕ Refusal} {l₁ l₂ : PPPoS} {rx₁ rx₂ : List ℕ}
    → Consumes l rx bs t₁ l₁ rx₁ → Consumes l rx bs t₂ l₂ rx₂ → (t₁ ≡ t₂) × (l₁ ≡ l₂) × (rx₁ ≡ rx₂)
consumes_one a b =
    (a.outcome ∙ sym b.outcome, a.link ∙ sym b.link, a.bytes ∙ sym b.bytes)

pub polls_one : {p : Poll} {a₁ a₂ : Result PPPoSAction Refusal} {l₁ l₂ : PPPoS} {tx₁ tx₂ rx₁ rx₂ : List ℕ}
    → Polls p a₁ l₁ tx₁ rx₁ → Polls p a₂ l₂ tx₂ rx₂ → (a₁ ≡ a₂) × (l₁ ≡ l₂) × (tx₁ ≡ tx₂) × (rx₁ ≡ rx₂)
polls_one a b =
    (a.action ∙ sym b.action, a.link ∙ sym b.link, a.transmit ∙ sym b.transmit, a.receive ∙ sym b.receive)

pub sends_one : {l : PPPoS} {pkt tx : List ℕ} {r₁ r₂ : Result ℕ Refusal} {tx₁ tx₂ : List ℕ}
    → Sends l pkt tx r₁ tx₁ → Sends l pkt tx r₂ tx₂ → (r₁ ≡ r₂) × (tx₁ ≡ tx₂)
sends_one a b = (a.outcome ∙ sym b.outcome, (lays_one a.lays b.lays).1)

-- The refusal table for the outbox's calls, from the words of document 02 (3/12) alone. `new`, `size`, `held` and `free` refuse nothing.
use Rattle.std.specs.Prelude.{◌≡◌, List, [], ◌∷◌, ◌⊎◌, ℕ, ◌+◌, ◌-◌, ◌<◌, ◌^◌, length}
use Rattle.framing.specs.Rfc1662.{frame}
use Rattle.negotiation.specs.declared.states.State.TheVariants.{Opened}
use Rattle.link.specs.declared.pppos.PPPoS.{PPPoS}
use Rattle.outbox.specs.declared.outbox.Outbox.{Outbox}
use Rattle.refusals.specs.Rows.{Row, row}
use Rattle.refusals.specs.Framing.{Fitted, units_of}

-- ---- accept

-- what it leaves: the outbox and its buffer
pub record Filed : Type 0 where
  pub outbox : Outbox
  pub bytes : List ℕ

-- "the newest is refused, and the collector keeps it"
abbrev pub accept_rows : Outbox → List ℕ → List ℕ → List (Row Filed)
accept_rows o buf p =
    let unchanged : Filed → Type 0 = λ a. (a.outbox ≡ o) × (a.bytes ≡ buf) in
    -- "a buffer shorter than that size is refusal 3, before all others"
    row 3 (length buf < o.size) unchanged
    -- "packet length 0 or above 1,500"
    ∷ row 14 ((length p ≡ 0) ⊎ (1500 < length p)) unchanged
    -- "no free room": the free bytes do not hold it and its length; or no number of 64 bits counts one packet more
    ∷ row 15 ((o.size < o.used + (2 + length p)) ⊎ (o.held ≡ 2 ^ 64 - 1)) unchanged
    ∷ []

-- ---- send

-- what it leaves: the count, the outbox and the transmit buffer
pub record Mailed : Type 0 where
  pub count : ℕ
  pub outbox : Outbox
  pub tx : List ℕ

-- "a refused `send` keeps the packet in front", which is pkt here; with IPv4CP Opened and one held it refuses as the link's `send` does
abbrev pub outbox_rows : Outbox → PPPoS → List ℕ → List ℕ → List ℕ → List (Row Mailed)
outbox_rows o l buf tx pkt =
    let m = l.ppp.lcp.proto.asyncmap_remote in
    let p : List ℕ = 0x00 ∷ 0x21 ∷ pkt in
    row 3 (length buf < o.size) (λ s. (s.count ≡ 0) × (s.outbox ≡ o) × (s.tx ≡ tx))
    ∷ row 1 ((0 < o.held) × (l.ppp.ipv4cp.state ≡ Opened) × (length tx < length (frame m p))) (λ s. (s.count ≡ 0) × (s.outbox ≡ o) × Fitted (units_of m p) 0 tx s.tx)
    ∷ []

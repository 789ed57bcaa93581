-- Document 01's domain: what our link holds, what is lent to a call, and what every call keeps of it.
use Rattle.std.specs.Prelude.{◌≡◌, List, ℕ, ◌+◌, ◌^◌, ◌≤◌, ◌<◌, length, Result}
use Rattle.laws.specs.Each.{Bytes}
use Rattle.framing.specs.Reader.{Framed}
use Rattle.framing.specs.declared.frame_reader.Reading.TheVariants.{Crate}
use Rattle.link.specs.Choices.{choices_of, Plain}
use Rattle.link.specs.Link.{Makes, Opens, Consumes, poll_link, Polls}
use Rattle.negotiation.specs.declared.credentials.Credentials.{Credentials}
use Rattle.link.specs.declared.refusal.Refusal.{Refusal}
use Rattle.link.specs.declared.choices.Choices.{Choices}
use Rattle.link.specs.declared.pppos.PPPoS.{PPPoS}
use Rattle.link.specs.declared.pppos.PPPoSAction.{PPPoSAction}

-- a link that is plain and in crate reading, with ids and credentials that are bytes
pub record Lasting (l : PPPoS) : Type 0 where
  pub plain : Plain (choices_of l)
  pub crate_reading : (choices_of l).reading ≡ Crate
  pub lcp_id : l.ppp.lcp.id < 256
  pub ipv4cp_id : l.ppp.ipv4cp.id < 256
  pub pap_id : l.ppp.auth.pap.id < 256
  pub credentials : Bytes l.ppp.auth.credentials.bytes

-- a receive buffer that has what the link keeps: a slice of bytes
pub record Lent (l : PPPoS) (rx : List ℕ) : Type 0 where
  pub room : l.frame_reader.len ≤ length rx
  pub slice : length rx < 2 ^ 64
  pub bytes : Bytes rx

pub record InDomain (l : PPPoS) (rx : List ℕ) : Type 0 where
  pub lasting : Lasting l
  pub lent : Lent l rx

-- ---- what every call keeps

-- credentials as new leaves them: an array of 120 bytes, and lengths that it has
pub record CredentialsFit (c : Credentials) : Type 0 where
  pub array : length c.bytes ≡ 120
  pub fits : c.username_len + c.password_len ≤ 120

-- P holds of new's link, made with plain choices and in crate reading, and survives every call, refusals included, whatever bytes are lent; send and status leave the link
pub record Lasts (P : PPPoS → Type 0) : Type 0 where
  pub new : (name password : List ℕ) (c : Choices) → Plain c → c.reading ≡ Crate → Bytes name → Bytes password → {o : Result Unit Refusal} {l : PPPoS} → Makes name password c o l → P l
  pub «open» : (l : PPPoS) → P l → {o : Result Unit Refusal} {l' : PPPoS} → Opens l o l' → P l'
  pub consume : (l : PPPoS) (rx bs : List ℕ) → P l → {t : Result ℕ Refusal} {l' : PPPoS} {rx' : List ℕ} → Consumes l rx bs t l' rx' → P l'
  pub poll : (l : PPPoS) (tx rx : List ℕ) → Bytes rx → P l → {a : Result PPPoSAction Refusal} {l' : PPPoS} {tx' rx' : List ℕ} → Polls (poll_link l tx rx) a l' tx' rx' → P l'

-- it is so of each of the three
pub record AllLast : Type 0 where
  pub lasting : Lasts Lasting
  pub credentials_fit : Lasts (λ l. CredentialsFit l.ppp.auth.credentials)
  pub framed : Lasts (λ l. Framed l.frame_reader)

-- What the view of a link hides: nothing but the credential bytes past their lengths.
use Rattle.std.specs.Prelude.{◌≡◌, ◌+◌, take}
use Rattle.link.specs.declared.pppos.PPPoS.{PPPoS}

-- two links, up to the credential bytes past their lengths
pub record Alike (a b : PPPoS) : Type 0 where
  pub reader : a.frame_reader ≡ b.frame_reader
  pub phase : a.ppp.phase ≡ b.ppp.phase
  pub opening : a.ppp.opening ≡ b.ppp.opening
  pub lcp : a.ppp.lcp ≡ b.ppp.lcp
  pub ipv4cp : a.ppp.ipv4cp ≡ b.ppp.ipv4cp
  pub pap_state : a.ppp.auth.pap.state ≡ b.ppp.auth.pap.state
  pub pap_id : a.ppp.auth.pap.id ≡ b.ppp.auth.pap.id
  pub name_length : a.ppp.auth.credentials.username_len ≡ b.ppp.auth.credentials.username_len
  pub password_length : a.ppp.auth.credentials.password_len ≡ b.ppp.auth.credentials.password_len
  pub credentials : take (a.ppp.auth.credentials.username_len + a.ppp.auth.credentials.password_len) a.ppp.auth.credentials.bytes ≡ take (a.ppp.auth.credentials.username_len + a.ppp.auth.credentials.password_len) b.ppp.auth.credentials.bytes

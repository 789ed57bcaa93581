-- RFC 1334, section 2, from the paper alone: the Password Authentication Protocol.
use Rattle.std.specs.Prelude.{◌≡◌, List, [], ◌∷◌, ◌++◌, ℕ, ◌<◌, length}
use Rattle.papers.specs.Rfc1661.{Option, AuthenticationProtocol}

-- Section 2.2
abbrev pub pap : ℕ
pap = 0xC023

-- Section 2.1: the option that asks for it has Length 4, so nothing behind the number
abbrev pub PapOption : Option → Type 0
PapOption o = AuthenticationProtocol o pap []

-- Section 2.2.1
abbrev pub authenticate_request : ℕ
authenticate_request = 1

-- Section 2.2.1: Peer-ID Length, Peer-ID, Passwd-Length, Password
pub record Request (info name password : List ℕ) : Type 0 where
  pub name_short : length name < 256
  pub password_short : length password < 256
  pub laid : info ≡ length name ∷ (name ++ (length password ∷ password))

-- Section 2.2.2
abbrev pub authenticate_ack : ℕ
authenticate_ack = 2

-- Section 2.2.2
abbrev pub authenticate_nak : ℕ
authenticate_nak = 3

-- Section 2.2.2: the data of both, Msg-Length and Message
pub record Answer (info message : List ℕ) : Type 0 where
  pub short : length message < 256
  pub laid : info ≡ length message ∷ message

-- PAP's request carries the credentials as RFC 1334 lays them out, and the option that asks for PAP is its own.
-- Assumes nothing.
use mathlib.Core.Path.{◌≡◌, refl}
use mathlib.Core.List.{List, ◌∷◌}
use Prim.Native.Nat.{ℕ, ◌+◌}
use native.Mathlib.Omega.{arith}
use lib.ListN.{length, take, drop, get_or, length-append}
use lib.Seq.{take-length, take-append_seam, drop-append_seam}
use Rattle.negotiation.specs.declared.credentials.Credentials.{Credentials}
use Rattle.negotiation.specs.declared.pap.Pap.{Pap}
use Rattle.papers.specs.Rfc1334.{pap, authenticate_request, Request}
use Rattle.negotiation.specs.Messages.{next_id}
use Rattle.negotiation.specs.Pap.{credential_bytes, pap_bytes}
use Rattle.negotiation.specs.Credentials.{name_of, password_of}
use Rattle.negotiation.proofs.CredentialLaws.{credentials_short}
use Rattle.papers.proofs.Packets.{Sent, laid_packet}

-- an Authenticate-Request with these credentials
pub record Authenticates (bytes : List ℕ) (id : ℕ) (name password : List ℕ) : Type 0 where
  pub info : List ℕ
  pub packet : Sent bytes pap authenticate_request id info
  pub request : Request info name password

-- the request that PAP sends carries the name and the password that it was handed
pub authenticates : (c : Credentials) (p : Pap) → Authenticates (pap_bytes c p) (next_id p.id) (name_of c) (password_of c)
authenticates c p =
    let a = name_of c in
    let b = password_of c in
    let d = credential_bytes a b in
    let h = credentials_short c in
    let g : length d ≡ length a + length b + 2 = rw length-append (omega arith) in
    record {
      info = d;
      packet = laid_packet 0xC023 1 (next_id p.id) d (omega arith) (omega arith) (omega arith) (omega arith);
      request = record { name_short = omega arith; password_short = omega arith; laid = refl };
    }

-- ---- read back, the data gives the two

abbrev pub name_in : List ℕ → List ℕ
name_in info = take (get_or info 0 0) (drop 1 info)

abbrev pub behind_name : List ℕ → List ℕ
behind_name info = drop (get_or info 0 0) (drop 1 info)

abbrev pub password_in : List ℕ → List ℕ
password_in info = take (get_or (behind_name info) 0 0) (drop 1 (behind_name info))

pub request_read : {info name password : List ℕ} → Request info name password → (name_in info ≡ name) × (password_in info ≡ password)
request_read {info} {name} {password} r =
    let b : behind_name info ≡ length password ∷ password = rw r.laid (drop-append_seam name (length password ∷ password)) in
    (rw r.laid (take-append_seam name (length password ∷ password)), rw b (take-length password))

-- What is sent is laid out as RFC 1661, section 5, has it, and what is so laid out is read as it says.
-- Assumes nothing.
use mathlib.Core.Path.{◌≡◌, refl, ap, sym, ◌∙◌}
use mathlib.Core.List.{List, [], ◌∷◌, ◌++◌, append-nil}
use Prim.Native.Nat.{ℕ, ◌+◌, ◌≤◌, ◌<◌}
use native.Mathlib.Omega.{arith}
use lib.ListN.{length, take, drop, get_or, length-append}
use lib.Seq.{take-append_seam, take-append-add}
use Rattle.laws.specs.Be.{be_bytes}
use Rattle.laws.proofs.Be.{be_round}
use Rattle.papers.specs.Rfc1661.{two_octets, Carried}
use Rattle.options.specs.Wire.{packet_of, protocol_in, length_field}
use Rattle.papers.proofs.Octets.{two_octets_lem}

-- ---- what is sent

-- a packet with nothing behind it
pub record Sent (bytes : List ℕ) (protocol code id : ℕ) (info : List ℕ) : Type 0 where
  pub carried : Carried bytes protocol code id info
  pub unpadded : carried.packet.padding ≡ []

pub laid_packet : (p c i : ℕ) (d : List ℕ) → p < 65536 → c < 256 → i < 256 → length d + 4 < 65536 → Sent (packet_of p c i d) p c i d
laid_packet p c i d h k l m =
    record {
      carried = record {
        information = c ∷ i ∷ (two_octets (length d + 4) ++ d);
        encapsulated = record { small = h; laid = rw (two_octets_lem p h, two_octets_lem (length d + 4) m) refl };
        packet = record { padding = []; code_octet = k; id_octet = l; short = m; laid = rw append-nil refl };
      };
      unpadded = refl;
    }

-- ---- what is read

-- how the code reads a packet
pub record ReadAs (bytes : List ℕ) (p c i : ℕ) (d : List ℕ) : Type 0 where
  pub protocol : protocol_in bytes ≡ p
  pub code : get_or bytes 2 0 ≡ c
  pub id : get_or bytes 3 0 ≡ i
  pub count : length_field bytes ≡ length d + 4
  pub within : length_field bytes + 2 ≤ length bytes
  pub cut : take (length_field bytes + 2) bytes ≡ packet_of p c i d
  pub info : drop 6 (take (length_field bytes + 2) bytes) ≡ d

-- a packet of the paper by our own fields
in_fields : {bytes d : List ℕ} {p c i : ℕ} (x : Carried bytes p c i d)
    → bytes ≡ be_bytes 2 p ++ (c ∷ i ∷ (be_bytes 2 (length d + 4) ++ (d ++ x.packet.padding)))
in_fields {bytes} {d} {p} x =
    let e = x.encapsulated in
    let k = x.packet in
    rw (two_octets_lem p e.small, two_octets_lem (length d + 4) k.short, e.laid, k.laid) refl

-- any packet of the paper, padded or not, is read as what it says
pub read_as : {bytes d : List ℕ} {p c i : ℕ} → Carried bytes p c i d → ReadAs bytes p c i d
unfolding be_bytes
read_as {bytes} {d} {p} {c} {i} x =
    let e = x.encapsulated in
    let k = x.packet in
    let n = length d + 4 in
    let r = d ++ k.padding in
    let l = in_fields x in
    let m : length_field bytes ≡ n = rw l (be_round 2 n k.short) in
    let head = be_bytes 2 p ++ (c ∷ i ∷ be_bytes 2 n) in
    let t : take (6 + length d) bytes ≡ head ++ d = rw l (take-append-add head r (length d) ∙ ap (λ (x : List ℕ). head ++ x) (take-append_seam d k.padding)) in
    let s : n + 2 ≡ 6 + length d = omega arith in
    record {
      protocol = rw l (be_round 2 p e.small);
      code = rw l refl;
      id = rw l refl;
      count = m;
      within = rw (m, l) (omega (arith, length-append d k.padding));
      cut = rw (m, s, t) refl;
      info = rw (m, s, t) refl;
    }

-- so the paper reads bytes in one way only
pub carried_once : {bytes d e : List ℕ} {p c i q k j : ℕ} → Carried bytes p c i d → Carried bytes q k j e → (p ≡ q) × (c ≡ k) × (i ≡ j) × (d ≡ e)
carried_once x y =
    let r = read_as x in
    let s = read_as y in
    (sym r.protocol ∙ s.protocol, sym r.code ∙ s.code, sym r.id ∙ s.id, sym r.info ∙ s.info)

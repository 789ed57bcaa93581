-- What the code reads as a packet is one of RFC 1661: bytes with a Length of 4 or more that ends within them.
-- Assumes nothing.
use mathlib.Core.Path.{◌≡◌, refl, ap}
use mathlib.Core.List.{List, [], ◌∷◌, ◌++◌}
use Prim.Native.Nat.{ℕ, ◌+◌, ◌-◌, ◌*◌, ◌/◌, ◌%◌, ◌≤◌, ◌<◌}
use native.Mathlib.Omega.{arith}
use lib.ListN.{length, take, drop, get_or, take-append-drop}
use lib.Seq.{length-take-le, take-append-add, drop-append-add}
use Rattle.laws.specs.Be.{be_from}
use Rattle.laws.specs.Each.{Bytes}
use Rattle.laws.proofs.Each.{each_left}
use Rattle.papers.specs.Rfc1661.{Encapsulated, Carried}
use Rattle.options.specs.Wire.{protocol_in, length_field}
use Rattle.papers.proofs.Packets.{read_as}

-- any two bytes are a protocol number, before whatever follows
pub reads_protocol : (s : List ℕ) → Bytes s → 2 ≤ length s → Encapsulated s (protocol_in s) (drop 2 s)
unfolding be_from
reads_protocol [] b h = absurd (omega arith)
reads_protocol (x ∷ []) b h = absurd (omega arith)
reads_protocol (x ∷ y ∷ r) b h =
    let n = (0 * 256 + x) * 256 + y in
    let u : n / 256 ≡ x = omega (arith, b.1.0) in
    let v : n % 256 ≡ y = omega (arith, b.1.0) in
    record { small = omega (arith, b.0, b.1.0); laid = rw (u, v) refl }

-- a Length of 4 or more that ends within the bytes, of which there are 6 or more then
pub record Readable (s : List ℕ) : Type 0 where
  pub least : 4 ≤ length_field s
  pub within : length_field s + 2 ≤ length s

-- the protocol, code and id that the code reads, with this data and this padding
pub record ReadWith (s info padding : List ℕ) : Type 0 where
  pub carried : Carried s (protocol_in s) (get_or s 2 0) (get_or s 3 0) info
  pub behind : carried.packet.padding ≡ padding

-- the data that it reads, up to the Length
abbrev pub data_in : List ℕ → List ℕ
data_in s = drop 6 (take (length_field s + 2) s)

abbrev pub Read : List ℕ → Type 0
Read s = ReadWith s (data_in s) (drop (length_field s + 2) s)

pub reads_packet : (s : List ℕ) → Bytes s → Readable s → Read s
unfolding be_from
reads_packet [] b h = absurd (omega (arith, h.least, h.within))
reads_packet (p ∷ []) b h = absurd (omega (arith, h.least, h.within))
reads_packet (p ∷ q ∷ []) b h = absurd (omega (arith, h.least, h.within))
reads_packet (p ∷ q ∷ c ∷ []) b h = absurd (omega (arith, h.least, h.within))
reads_packet (p ∷ q ∷ c ∷ i ∷ []) b h = absurd (omega (arith, h.least, h.within))
reads_packet (p ∷ q ∷ c ∷ i ∷ x ∷ []) b h = absurd (omega (arith, h.least, h.within))
reads_packet (p ∷ q ∷ c ∷ i ∷ x ∷ y ∷ r) b h =
    let top = p ∷ q ∷ c ∷ i ∷ x ∷ y ∷ [] in
    let s = top ++ r in
    let n = length_field s in
    let m = n - 4 in
    let e : n + 2 ≡ 6 + m = omega (arith, h.least) in
    let f : length (take m r) ≡ m = length-take-le m r (omega (arith, h.within)) in
    let g : length (take m r) + 4 ≡ n = omega (arith, h.least) in
    let u : n / 256 ≡ x = omega (arith, b.1.1.1.1.1.0) in
    let v : n % 256 ≡ y = omega (arith, b.1.1.1.1.1.0) in
    let d : drop 6 (take (n + 2) s) ≡ take m r = rw e (ap (drop 6) (take-append-add top r m)) in
    let z : drop (n + 2) s ≡ drop m r = rw e (drop-append-add top r m) in
    rw (d, z) (record {
      carried = record {
        information = c ∷ i ∷ x ∷ y ∷ r;
        encapsulated = reads_protocol s b (omega (arith, h.least, h.within));
        packet = record {
          padding = drop m r;
          code_octet = b.1.1.0;
          id_octet = b.1.1.1.0;
          short = omega (arith, b.1.1.1.1.0, b.1.1.1.1.1.0);
          laid = rw (g, u, v, take-append-drop) refl;
        };
      };
      behind = refl;
    })

-- and only there: a Length under 4 is no packet of the paper
pub packet_readable : {s d : List ℕ} {p c i : ℕ} → Carried s p c i d → Readable s
packet_readable x =
    let r = read_as x in
    record { least = omega (arith, r.count); within = r.within }

-- the data are bytes as well
pub data_bytes : {s d : List ℕ} {p c i : ℕ} → Carried s p c i d → Bytes s → Bytes d
data_bytes {s} {d} x b =
    let u = rw x.packet.laid at (rw x.encapsulated.laid at b) in
    each_left (λ (y : ℕ). y < 256) d x.packet.padding u.1.1.1.1.1.1

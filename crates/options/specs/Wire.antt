-- A packet as the code holds it: which record holds which bytes. Then a packet's fields (RFC 1661, 5).
use Rattle.std.specs.Prelude.{◌≡◌, cond, List, ◌∷◌, ◌++◌, ℕ, ◌+◌, ◌-◌, leb, length, take, drop, replicate}
use Rattle.std.proofs.lemmas.List.Edits.{sets}
use Rattle.laws.specs.Be.{be_of, be_bytes}
use Rattle.options.specs.declared.wire.Packet.{Packet}

-- the bytes that a packet has room for
abbrev pub max_packet : ℕ
max_packet = 128

-- the packet that holds the bytes l, with zeros behind them
unfoldable pub pkt_of : List ℕ → Packet
pkt_of l = record { len = length l; bytes = l ++ replicate (max_packet - length l) 0 }

-- the bytes that a packet holds
abbrev pub content_of : Packet → List ℕ
content_of p = take p.len p.bytes

abbrev pub Tidy : Packet → Type 0
Tidy p = p ≡ pkt_of (content_of p)

-- r is p with the bytes d behind those held, and what a caller needs to go on
pub record Pushed (p r : Packet) (d : List ℕ) : Type 0 where
  pub is : r ≡ pkt_of (content_of p ++ d)
  pub tidy : Tidy r
  pub len : r.len ≡ p.len + length d

-- the bytes d behind those held; where there is no room for all of them, the packet stays
unfoldable pub pushed_all : Packet → List ℕ → Packet
pushed_all p d =
    cond (leb (p.len + length d) max_packet)
    (record { len = p.len + length d; bytes = sets p.bytes p.len d })
    p

-- protocol, code, id, Length, data
abbrev pub packet_of : ℕ → ℕ → ℕ → List ℕ → List ℕ
packet_of p c i d = be_bytes 2 p ++ (c ∷ i ∷ (be_bytes 2 (length d + 4) ++ d))

-- the protocol number of a packet
abbrev pub protocol_in : List ℕ → ℕ
protocol_in pkt = be_of (take 2 pkt)

-- what the Length field says
abbrev pub length_field : List ℕ → ℕ
length_field p = be_of (take 2 (drop 4 p))

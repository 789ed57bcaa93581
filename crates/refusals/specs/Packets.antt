-- The refusal table for a received packet, rows 5 and 7 to 13, from the words of documents 01 and 02 alone; and for the calls below the link that are
-- handed one.
-- An automaton's `handle` and the walk over its options give these numbers to `turn`; of `handle` itself it is said that it leaves all where it refuses.
use Rattle.std.specs.Prelude.{◌≡◌, Bool, false, cond, ◌&&◌, List, [], ◌∷◌, ◌⊎◌, ℕ, ◌+◌, ◌-◌, ◌≤◌, ◌<◌, eqb, length, take, drop, get_or}
use Rattle.laws.specs.Be.{be_of}
use Rattle.laws.specs.Same.{same}
use Rattle.options.specs.declared.proto.Proto.{Proto}
use Rattle.negotiation.specs.declared.option_fsm.OptionFsm.{OptionFsm}
use Rattle.negotiation.specs.declared.auth.Auth.{Auth}
use Rattle.negotiation.specs.declared.states.State.{State}
use Rattle.negotiation.specs.declared.states.State.TheVariants.{Closed, Opened}
use Rattle.phases.specs.declared.ppp.Ppp.{Ppp}
use Rattle.refusals.specs.Rows.{Row, row}

-- ---- the packet

-- protocol (2), code, id, Length (2, big-endian), data
abbrev pub protocol_at : List ℕ → ℕ
protocol_at pkt = be_of (take 2 pkt)

abbrev pub code_at : List ℕ → ℕ
code_at pkt = get_or pkt 2 0

abbrev pub length_at : List ℕ → ℕ
length_at pkt = be_of (take 2 (drop 4 pkt))

-- bytes past Length + 2 are ignored
abbrev pub data_at : List ℕ → List ℕ
data_at pkt = drop 6 (take (length_at pkt + 2) pkt)

-- the two protocols that negotiate options
pub data Which : Type 0 where
  lcp : Which
  ipv4cp : Which

abbrev pub number_for : Which → ℕ
number_for lcp = 0xC021
number_for ipv4cp = 0x8021

abbrev pub state_for : Which → Ppp → State
state_for lcp p = p.lcp.state
state_for ipv4cp p = p.ipv4cp.state

-- a packet of w's with code c; under 6 bytes, or Length + 2 above the packet, is ignored
pub record Heeded (w : Which) (c : ℕ) (pkt : List ℕ) : Type 0 where
  pub protocol : protocol_at pkt ≡ number_for w
  pub header : 6 ≤ length pkt
  pub whole : length_at pkt + 2 ≤ length pkt
  pub code : code_at pkt ≡ c

-- ---- its options

-- the verdict on option c with the data d: Ack is 0, Nack 1, Rej 2, and a higher one outranks a lower
abbrev pub verdict_for : Which → ℕ → List ℕ → ℕ
-- LCP: option 2 with 4 bytes is acked; option 3 is acked for C0 23, else nacked; others Rej
verdict_for lcp c d =
    cond (eqb c 2 && eqb (length d) 4) 0
    (cond (eqb c 3) (cond (same d (0xC0 ∷ 0x23 ∷ [])) 0 1) 2)
-- IPv4CP: option 3 with 4 bytes acked, all else Rej
verdict_for ipv4cp c d = cond (eqb c 3 && eqb (length d) 4) 0 2

-- how many data bytes are sent back: C0 23 with a Nack, else the option's own
abbrev pub size_back : ℕ → List ℕ → ℕ
size_back v d = cond (eqb v 1) 2 (length d)

-- the first option of s is under 2 bytes, or longer than the rest
pub record Cut (s : List ℕ) : Type 0 where
  pub some : 0 < length s
  pub bad : (length s < 2) ⊎ ((get_or s 1 0 < 2) ⊎ (length s < get_or s 1 0))

-- it is not: its type, its data, and the rest
pub record Whole (s : List ℕ) (c : ℕ) (d rest : List ℕ) : Type 0 where
  pub header : 2 ≤ length s
  pub least : 2 ≤ get_or s 1 0
  pub most : get_or s 1 0 ≤ length s
  pub type : c ≡ get_or s 0 0
  pub value : d ≡ take (get_or s 1 0 - 2) (drop 2 s)
  pub behind : rest ≡ drop (get_or s 1 0) s

-- a request of w's with the options s to come, and so many listed of the verdict top: the first option at fault is refused with n
pub data Fault (w : Which) : ℕ → ℕ → List ℕ → ℕ → Type 0 where
  -- 7: an option under 2 bytes, or longer than the rest
  cut : {top listed : ℕ} {s : List ℕ} → Cut s → Fault w top listed s 7
  -- 8: a listed option above 4 bytes
  long : {top listed : ℕ} {s : List ℕ} (c : ℕ) (d rest : List ℕ) → Whole s c d rest
      → top ≤ verdict_for w c d → 4 < size_back (verdict_for w c d) d → Fault w top listed s 8
  -- 9: a seventh listed option
  many : {top listed : ℕ} {s : List ℕ} (c : ℕ) (d rest : List ℕ) → Whole s c d rest
      → top ≡ verdict_for w c d → size_back (verdict_for w c d) d ≤ 4 → 6 ≤ listed → Fault w top listed s 9
  -- a lower verdict is not listed
  lower : {top listed n : ℕ} {s : List ℕ} (c : ℕ) (d rest : List ℕ) → Whole s c d rest
      → verdict_for w c d < top → Fault w top listed rest n → Fault w top listed s n
  -- a higher verdict clears the list
  higher : {top listed n : ℕ} {s : List ℕ} (c : ℕ) (d rest : List ℕ) → Whole s c d rest
      → top < verdict_for w c d → size_back (verdict_for w c d) d ≤ 4 → Fault w (verdict_for w c d) 1 rest n → Fault w top listed s n
  -- one more
  another : {top listed n : ℕ} {s : List ℕ} (c : ℕ) (d rest : List ℕ) → Whole s c d rest
      → top ≡ verdict_for w c d → size_back (verdict_for w c d) d ≤ 4 → listed < 6 → Fault w top (listed + 1) rest n → Fault w top listed s n

-- the first option of s that is under 2 bytes, or longer than the rest, begins n bytes behind the first option byte
pub data Broken : List ℕ → ℕ → Type 0 where
  now : {s : List ℕ} → Cut s → Broken s 0
  later : {s : List ℕ} {n : ℕ} (c : ℕ) (d rest : List ℕ) → Whole s c d rest → Broken rest n → Broken s (get_or s 1 0 + n)

-- 02: "the offset of the faulty option, counted from the first option byte" is what is told of the options s; there is one
pub record Points (s told : List ℕ) : Type 0 where
  pub offset : ℕ
  pub first : Broken s offset
  pub only : {n : ℕ} → Broken s n → n ≡ offset
  pub values : told ≡ offset ∷ []

-- ---- by row

-- row 11, "a configure packet with Length under 4": ConfigureReq, Nack, Rej outside Closed
pub data ConfigureShort (p : Ppp) (pkt : List ℕ) : Type 0 where
  configure : (w : Which) (c : ℕ) → Heeded w c pkt → (c ≡ 1) ⊎ ((c ≡ 3) ⊎ (c ≡ 4)) → (state_for w p ≡ Closed → ⊥)
      → length_at pkt < 4 → ConfigureShort p pkt

-- row 12, "an echo with Length 0": EchoReq in Opened
pub data EchoEmpty (p : Ppp) (pkt : List ℕ) : Type 0 where
  echo : (w : Which) → Heeded w 9 pkt → state_for w p ≡ Opened → length_at pkt ≡ 0 → EchoEmpty p pkt

-- row 13, "PAP running past its packet": Length + 2 above the packet and Length not (under 6 bytes it is ignored)
pub record PapPast (pkt : List ℕ) : Type 0 where
  pub header : 6 ≤ length pkt
  pub within : length_at pkt ≤ length pkt
  pub past : length pkt < length_at pkt + 2

-- rows 7, 8, 9: outside Closed, the first option at fault of a ConfigureReq; Nack and Rej lists meet 7 only
pub data OptionFault (p : Ppp) (pkt : List ℕ) : ℕ → Type 0 where
  request : {n : ℕ} (w : Which) → Heeded w 1 pkt → (state_for w p ≡ Closed → ⊥) → Fault w 0 0 (data_at pkt) n → OptionFault p pkt n
  answer : (w : Which) (c : ℕ) → Heeded w c pkt → (c ≡ 3) ⊎ (c ≡ 4) → (state_for w p ≡ Closed → ⊥) → {at : ℕ} → Broken (data_at pkt) at
      → OptionFault p pkt 7

-- row 10, a reply packet above 128 bytes: an echo has Length + 2, a Protocol-Reject the whole packet and 6
pub data ReplyLong (p : Ppp) (pkt : List ℕ) : Type 0 where
  echo : (w : Which) → Heeded w 9 pkt → state_for w p ≡ Opened → 128 < length_at pkt + 2 → ReplyLong p pkt
  reject : (protocol_at pkt ≡ 0xC021 → ⊥) → (protocol_at pkt ≡ 0xC023 → ⊥) → (protocol_at pkt ≡ 0x0021 → ⊥) → (protocol_at pkt ≡ 0x8021 → ⊥)
      → 128 < length pkt + 6 → ReplyLong p pkt

-- in 01's order, with 11 to 13 where 6 was; given says what else has to hold of a call that refuses so, told is what it tells beside the number
abbrev pub packet_rows : {A : Type 0} → (Type 0 → Type 0) → (A → List ℕ) → (A → Type 0) → Ppp → List ℕ → List (Row A)
packet_rows {A} given told leaves p pkt =
    let silent : A → Type 0 = λ a. leaves a × (told a ≡ []) in
    -- received packet under 2 bytes
    row 5 (given (length pkt < 2)) silent
    ∷ row 11 (given (ConfigureShort p pkt)) silent
    ∷ row 12 (given (EchoEmpty p pkt)) silent
    ∷ row 13 (given ((protocol_at pkt ≡ 0xC023) × PapPast pkt)) silent
    ∷ row 7 (given (OptionFault p pkt 7)) (λ a. leaves a × Points (data_at pkt) (told a))
    ∷ row 8 (given (OptionFault p pkt 8)) silent
    ∷ row 9 (given (OptionFault p pkt 9)) silent
    ∷ row 10 (given (ReplyLong p pkt)) silent
    ∷ []

-- ---- calls below the link

-- what a call that is handed a packet leaves: what it tells beside a refusal's number, its record, whether an echo was answered, and how many
-- packets it sends
pub record Answered (A : Type 0) : Type 0 where
  pub told : List ℕ
  pub kept : A
  pub echoed : Bool
  pub count : ℕ

-- all else is unchanged, and nothing is sent
abbrev pub Unchanged : {A : Type 0} → A → Answered A → Type 0
Unchanged a t = (t.kept ≡ a) × (t.echoed ≡ false) × (t.count ≡ 0)

-- `Ppp::turn`
abbrev pub turn_rows : Ppp → List ℕ → List (Row (Answered Ppp))
turn_rows p pkt = packet_rows (λ c. c) (λ t. t.told) (Unchanged p) p pkt

-- `OptionFsm::send_protocol_reject`: the reply has the whole packet and 6
abbrev pub reject_rows : OptionFsm Proto → List ℕ → List (Row (Answered (OptionFsm Proto)))
reject_rows f pkt = row 10 (128 < length pkt + 6) (λ t. Unchanged f t × (t.told ≡ [])) ∷ []

-- `Auth::handle_pap`, which answers no echo
abbrev pub pap_rows : Auth → List ℕ → List (Row (Answered Auth))
pap_rows a pkt = row 13 (PapPast pkt) (λ t. Unchanged a t × (t.told ≡ [])) ∷ []

-- What the outbox holds, and what its calls do (document 02, 3/12).
use Rattle.std.specs.Prelude.{◌≡◌, Bool, cond, not, ◌||◌, List, [], ◌∷◌, ◌++◌, ℕ, zero, suc, ◌+◌, ◌*◌, ◌-◌, ◌/◌, ◌%◌, ◌<◌, min, ltb, leb, eqb, length, take, drop, get_or, Result, Ok, Err}
use Rattle.framing.specs.Rfc1662.{frame}
use Rattle.framing.specs.Writer.{holds, laid, over}
use Rattle.framing.specs.declared.refusal.Refusal.TheVariants as framing
use Rattle.negotiation.specs.Automaton.{is_opened}
use Rattle.link.specs.Link.{remote_map, ip_frame}
use Rattle.link.specs.declared.refusal.Refusal.TheVariants as link
use Rattle.link.specs.declared.refusal.Refusal as linked
use Rattle.link.specs.declared.pppos.PPPoS.{PPPoS}
use Rattle.framing.specs.Refusal.{count_of}
use Rattle.outbox.specs.Ring.{turned, placed, around}
use Rattle.outbox.specs.declared.refusal.Refusal.{Refusal}
use Rattle.outbox.specs.declared.refusal.Refusal.TheVariants.{BufferShort, PacketLength, NoRoom, Link}
use Rattle.outbox.specs.declared.outbox.Outbox.{Outbox}
use Rattle.outbox.specs.declared.outbox.Accepted.{Accepted}
use Rattle.outbox.specs.declared.outbox.Sent.{Sent}

-- ---- the sizes

-- the outbox at most
abbrev pub largest : ℕ
largest = 65536

-- a packet at most
abbrev pub longest : ℕ
longest = 1500

-- a transmit buffer that holds the frame of every packet
abbrev pub always_enough : ℕ
always_enough = 3012

abbrev pub is_enough : List ℕ → Bool
is_enough tx = leb always_enough (length tx)

-- ---- what is held

-- the front; 0 where a record that no calls reach has it outside
abbrev pub start : Outbox → ℕ
start o = cond (ltb o.front o.size) o.front 0

-- the bytes used, from the front on
abbrev pub content : Outbox → List ℕ → List ℕ
content o buf = take o.used (turned (start o) (take o.size buf))

-- a length in two bytes, the high one first; and the number that two bytes say
abbrev pub sized : ℕ → List ℕ
sized n = n / 256 ∷ n % 256 ∷ []

abbrev pub size_in : List ℕ → ℕ
size_in c = get_or c 0 0 * 256 + get_or c 1 0

-- a packet as it is held
abbrev pub entry : List ℕ → List ℕ
entry p = sized (length p) ++ p

-- the packet in front, and what stands behind it; a length that runs past the end counts as what there is
abbrev pub first : List ℕ → List ℕ
first c = take (size_in c) (drop 2 c)

abbrev pub behind : List ℕ → List ℕ
behind c = drop (size_in c) (drop 2 c)

unfoldable pub packets : ℕ → List ℕ → List (List ℕ)
packets zero c = []
packets (suc k) c = first c ∷ packets k (behind c)

-- the packets held, the oldest first
abbrev pub held_in : Outbox → List ℕ → List (List ℕ)
held_in o buf = packets o.held (content o buf)

-- ---- creation, and what is asked

-- over a buffer of n bytes, of which at most the first 65,536 count
abbrev pub fresh_of : ℕ → Outbox
fresh_of n = record { size = cond (ltb n largest) n largest; front = 0; used = 0; held = 0 }

-- the bytes that are free
abbrev pub free : Outbox → ℕ
free o = o.size - o.used

-- ---- accept

-- the outcome, the outbox and its buffer
pub record Accept : Type 0 where
  pub outcome : Result Unit Refusal
  pub outbox : Outbox
  pub buf : List ℕ

abbrev pub declined : Refusal → Outbox → List ℕ → Accept
declined why o buf = record { outcome = Err why; outbox = o; buf = buf }

-- no free room for a packet of n bytes and its length; or no number of 64 bits for one packet more, which no buffer that nobody else writes leads to
abbrev pub is_full : Outbox → ℕ → Bool
is_full o n = ltb (free o) (n + 2) || eqb o.held 0xFFFFFFFFFFFFFFFF

-- with a packet of n bytes more
abbrev pub grown : Outbox → ℕ → Outbox
grown o n = record { size = o.size; front = o.front; used = o.used + 2 + n; held = o.held + 1 }

-- 3 before all others, then 14, then 15; a refusal changes nothing
unfoldable pub accept_of : Outbox → List ℕ → List ℕ → Accept
accept_of o buf p =
    cond (ltb (length buf) o.size) (declined BufferShort o buf)
    (cond (eqb (length p) 0 || ltb longest (length p)) (declined PacketLength o buf)
    (cond (is_full o (length p)) (declined NoRoom o buf)
    (record { outcome = Ok tt; outbox = grown o (length p); buf = placed o.size (start o) o.used (entry p) buf })))

-- the buffer that a packet was accepted into, index by index: byte j of its length and itself stands at index `at j`, and every other byte stays
pub record Stored (at : ℕ → ℕ) (p buf buf' : List ℕ) : Type 0 where
  pub long : length buf' ≡ length buf
  pub new : (j : ℕ) → j < length (entry p) → get_or buf' (at j) 0 ≡ get_or (entry p) j 0
  pub others : (i : ℕ) → ((j : ℕ) → j < length (entry p) → i ≡ at j → ⊥) → get_or buf' i 0 ≡ get_or buf i 0

-- the index j behind what is used
abbrev pub unused : Outbox → ℕ → ℕ
unused o j = around o.size (start o + (o.used + j))

-- the same as the code holds it
abbrev pub as_accept : Accepted → List ℕ → Accept
as_accept r buf = record { outcome = r.outcome; outbox = r.outbox; buf = buf }

-- ---- send

-- the outcome, the count, the outbox and the transmit buffer
pub record Send : Type 0 where
  pub outcome : Result Unit Refusal
  pub count : ℕ
  pub outbox : Outbox
  pub tx : List ℕ

-- the bytes used, at most all
abbrev pub reach : Outbox → ℕ
reach o = cond (ltb o.used o.size) o.used o.size

-- how many bytes go with a packet of n bytes
abbrev pub gone : Outbox → ℕ → ℕ
gone o n = cond (ltb (n + 2) (reach o)) (n + 2) (reach o)

-- without the packet in front, of n bytes; with the last one all bytes are free
abbrev pub shrunk : Outbox → ℕ → Outbox
shrunk o n =
    record {
      size = o.size;
      front = around o.size (start o + gone o n);
      used = cond (leb o.held 1) 0 (reach o - gone o n);
      held = o.held - 1;
    }

-- the packet in front
abbrev pub front_in : Outbox → List ℕ → List ℕ
front_in o buf = first (content o buf)

-- the byte that stands i behind the front
abbrev pub ring_at : Outbox → List ℕ → ℕ → ℕ
ring_at o buf i = get_or buf (around o.size (start o + i)) 0

-- the packet in front, index by index, whoever wrote in the buffer: as long as the first two bytes say, at most what is used behind them
pub record InFront (o : Outbox) (buf p : List ℕ) : Type 0 where
  pub long : length p ≡ min (ring_at o buf 0 * 256 + ring_at o buf 1) (reach o - 2)
  pub bytes : (j : ℕ) → j < length p → get_or p j 0 ≡ ring_at o buf (2 + j)

-- IPv4CP is Opened
abbrev pub up : PPPoS → Bool
up l = is_opened l.ppp.ipv4cp.state

-- the frame of the packet p, or as much of it as the link's send leaves in the transmit buffer
abbrev pub written : PPPoS → List ℕ → List ℕ → List ℕ
written l p tx = over (laid (remote_map l) (ip_frame p) (length tx)) tx

-- the packet p goes
abbrev pub sent_first : Outbox → PPPoS → List ℕ → List ℕ → Send
sent_first o l p tx =
    record { outcome = Ok tt; count = length (frame (remote_map l) (ip_frame p)); outbox = shrunk o (length p); tx = written l p tx }

-- the packet p stays in front
abbrev pub kept_first : Outbox → PPPoS → List ℕ → List ℕ → Send
kept_first o l p tx = record { outcome = Err (Link (link.Framing framing.BufferFull)); count = 0; outbox = o; tx = written l p tx }

-- nothing is sent
abbrev pub idle : Outbox → List ℕ → Send
idle o tx = record { outcome = Ok tt; count = 0; outbox = o; tx = tx }

-- 3 before all others; nothing with none held or IPv4CP not Opened; else the link's send of the packet in front
unfoldable pub send_of : Outbox → PPPoS → List ℕ → List ℕ → Send
send_of o l buf tx =
    cond (ltb (length buf) o.size) (record { outcome = Err BufferShort; count = 0; outbox = o; tx = tx })
    (cond (eqb o.held 0 || not (up l)) (idle o tx)
    (cond (holds (remote_map l) (ip_frame (front_in o buf)) (length tx)) (sent_first o l (front_in o buf) tx) (kept_first o l (front_in o buf) tx)))

-- the same as the code holds it
abbrev pub outcome_in : Result ℕ Refusal → Result Unit Refusal
outcome_in (Ok n) = Ok tt
outcome_in (Err why) = Err why

abbrev pub as_send : Sent → List ℕ → Send
as_send r tx = record { outcome = outcome_in r.sent; count = count_of r.sent; outbox = r.outbox; tx = tx }

-- what the link's answer e comes to
abbrev pub answered : Outbox → ℕ → Result ℕ linked.Refusal → Sent
answered o n (Ok k) = record { sent = Ok k; outbox = shrunk o n }
answered o n (Err why) = record { sent = Err (Link why); outbox = o }

-- Histories of calls on one outbox, from its creation on: what was accepted, what went, and what is held (document 02, 3/12).
use Rattle.std.specs.Prelude.{◌≡◌, Bool, true, false, cond, ◌||◌, List, [], ◌∷◌, ◌++◌, ℕ, ◌+◌, ◌%◌, ◌≤◌, ◌<◌, ltb, eqb, length, take, Result, Ok, Err}
use Rattle.framing.specs.Rfc1662.{frame}
use Rattle.negotiation.specs.declared.states.State.TheVariants.{Opened}
use Rattle.link.specs.Link.{remote_map, ip_frame}
use Rattle.link.specs.declared.pppos.PPPoS.{PPPoS}
use Rattle.outbox.specs.Refusal.{outcome_number}
use Rattle.outbox.specs.Outbox.{longest, is_enough, fresh_of, held_in, free, Accept, accept_of, Stored, Send, send_of}
use Rattle.outbox.specs.declared.refusal.Refusal.{Refusal}
use Rattle.outbox.specs.declared.outbox.Outbox.{Outbox}

-- ---- what a caller notes, from what it lends and what it is answered

-- a packet and the outbox's buffer, lent to accept; or a link, in whatever state it is by then, the buffer and a transmit buffer, lent to send
pub data Call : Type 0 where
  accepts : (p buf : List ℕ) → Call
  sends : (l : PPPoS) (buf tx : List ℕ) → Call

abbrev pub lent : Call → List ℕ
lent (Call.accepts p buf) = buf
lent (Call.sends l buf tx) = buf

-- a link that was lent, and the bytes of the transmit buffer that the call's count says are to be sent
pub record Post : Type 0 where
  pub link : PPPoS
  pub bytes : List ℕ

-- the outbox; its bytes as the last call left them; the packets of the calls that took one; what the other calls had to be sent; each in order
pub record Book : Type 0 where
  pub outbox : Outbox
  pub ring : List ℕ
  pub accepted : List (List ℕ)
  pub sent : List Post

-- a packet is accepted where the answer is done
abbrev pub taken : Result Unit Refusal → Bool
taken (Ok x) = true
taken (Err r) = false

-- a packet is sent where the answer has a count
abbrev pub went : ℕ → Bool
went n = ltb 0 n

-- the outbox's bytes of a buffer; of one that is too short those before
abbrev pub leaves : Book → List ℕ → List ℕ
leaves b buf = cond (ltb (length buf) b.outbox.size) b.ring (take b.outbox.size buf)

abbrev pub entered : Book → List ℕ → Accept → Book
entered b p a = record { outbox = a.outbox; ring = leaves b a.buf; accepted = b.accepted ++ cond (taken a.outcome) (p ∷ []) []; sent = b.sent }

abbrev pub posted : Book → PPPoS → List ℕ → Send → Book
posted b l buf s =
    record {
      outbox = s.outbox;
      ring = leaves b buf;
      accepted = b.accepted;
      sent = b.sent ++ cond (went s.count) (record { link = l; bytes = take s.count s.tx } ∷ []) [];
    }

abbrev pub after : Book → Call → Book
after b (Call.accepts p buf) = entered b p (accept_of b.outbox buf p)
after b (Call.sends l buf tx) = posted b l buf (send_of b.outbox l buf tx)

unfoldable pub history : Book → List Call → Book
history b [] = b
history b (c ∷ cs) = history (after b c) cs

-- a fresh outbox over a buffer
abbrev pub begun : List ℕ → Book
begun buf = record { outbox = fresh_of (length buf); ring = take (fresh_of (length buf)).size buf; accepted = []; sent = [] }

-- ---- over any history, whatever is lent

-- the size is the one that it began with
abbrev pub SizeKept : List ℕ → Book → Type 0
SizeKept buf b = b.outbox.size ≡ (fresh_of (length buf)).size

-- packets accepted equal packets sent plus packets held
abbrev pub Balanced : Book → Type 0
Balanced b = length b.accepted ≡ length b.sent + b.outbox.held

-- ---- where one buffer is lent throughout that nobody else writes

-- the buffer is too short, which is refused, or it has the bytes that the last call left
abbrev pub Untouched : Book → List ℕ → Type 0
Untouched b buf = b.outbox.size ≤ length buf → take b.outbox.size buf ≡ b.ring

unfoldable pub Alone : Book → List Call → Type 0
Alone b [] = Unit {0}
Alone b (c ∷ cs) = Untouched b (lent c) × Alone (after b c) cs

-- what was to be sent are the frames of these packets in order, each behind 0021, by its link's map, and with the link's IPv4CP Opened
pub data Framed : List (List ℕ) → List Post → Type 0 where
  none : Framed [] []
  next : {ps : List (List ℕ)} {qs : List Post} (p : List ℕ) (l : PPPoS) → l.ppp.ipv4cp.state ≡ Opened → Framed ps qs
      → Framed (p ∷ ps) (record { link = l; bytes = frame (remote_map l) (ip_frame p) } ∷ qs)

-- the packets sent, and behind them those held, are the packets accepted, in order and byte for byte
pub record NothingLost (b : Book) : Type 0 where
  pub packets : List (List ℕ)
  pub framed : Framed packets b.sent
  pub all : packets ++ held_in b.outbox b.ring ≡ b.accepted

-- the bytes that packets take with their lengths
unfoldable pub takes : List (List ℕ) → ℕ
takes [] = 0
takes (p ∷ ps) = 2 + length p + takes ps

-- the packets lie one behind the other from index 0 on, round the size: the next one accepted behind all that were accepted before it
abbrev pub InARow : Book → Type 0
InARow b =
    (p buf : List ℕ) → taken (accept_of b.outbox buf p).outcome ≡ true
    → Stored (λ j. (takes b.accepted + j) % b.outbox.size) p buf (accept_of b.outbox buf p).buf

-- the number that accept answers, of n bytes: 15 exactly where what the packets held leave of them does not hold this one and its length
abbrev pub room_number : ℕ → List (List ℕ) → List ℕ → ℕ
room_number n held p = cond (eqb (length p) 0 || ltb longest (length p)) 14 (cond (ltb n (takes held + (length p + 2))) 15 0)

-- what the packets held do not take is free, and accept counts so
pub record RoomCounted (b : Book) : Type 0 where
  pub bytes : free b.outbox + takes (held_in b.outbox b.ring) ≡ b.outbox.size
  pub number : (p buf : List ℕ) → b.outbox.size ≤ length buf
      → outcome_number (accept_of b.outbox buf p).outcome ≡ room_number b.outbox.size (held_in b.outbox b.ring) p

-- with IPv4CP Opened and a transmit buffer that is always enough a packet goes with each call, as long as one is held
abbrev pub Drains : Book → Type 0
Drains b =
    (l : PPPoS) (buf tx : List ℕ) → b.outbox.size ≤ length buf → Untouched b buf → 0 < b.outbox.held → l.ppp.ipv4cp.state ≡ Opened → is_enough tx ≡ true
    → went (send_of b.outbox l buf tx).count ≡ true

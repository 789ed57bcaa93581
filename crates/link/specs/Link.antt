-- What the link's calls do (document 01; pppos/mod.rs): definitions built of framing's and negotiation's.
use Rattle.std.specs.Prelude.{◌≡◌, Bool, cond, ◌&&◌, List, [], ◌∷◌, ◌++◌, ℕ, ◌+◌, ◌-◌, ltb, leb, eqb, length, set, take, drop, Result, Ok, Err}
use Rattle.std.specs.Borrow.{Bor}
use Rattle.framing.specs.Rfc1662.{frame}
use Rattle.framing.specs.Refusal.{count_of}
use Rattle.framing.specs.Writer.{over, holds, Lays}
use Rattle.framing.specs.Reader.{is_complete, is_short, Held, held, consumed, fetched, packet_of, fresh_reader}
use Rattle.framing.specs.declared.frame_reader.FrameReader.{FrameReader}
use Rattle.framing.specs.declared.refusal.Refusal.TheVariants as framing
use Rattle.framing.specs.declared.refusal.Refusal as framed
use Rattle.options.specs.Wire.{protocol_in}
use Rattle.negotiation.specs.Replies.{contents}
use Rattle.phases.specs.Phases.{Turn, poll_of, turn_of, open_of, new_of}
use Rattle.phases.specs.declared.ppp.Ppp.{Ppp}
use Rattle.phases.specs.declared.ppp.Turned.{Turned}
use Rattle.options.specs.declared.refusal.Refusal as negotiation
use Rattle.options.specs.Refusal as refusals
use Rattle.link.specs.Refusal.{values_of, outcome_number}
use Rattle.link.specs.Frames.{frames}
use Rattle.link.specs.declared.refusal.Refusal.{Refusal}
use Rattle.link.specs.declared.refusal.Refusal.TheVariants.{Framing, Negotiation, FramesFull}
use Rattle.link.specs.declared.choices.Choices.{Choices}
use Rattle.link.specs.declared.pppos.PPPoS.{PPPoS}
use Rattle.link.specs.declared.pppos.PPPoSAction.{PPPoSAction}
use Rattle.link.specs.declared.pppos.Polled.{Polled}
use Rattle.link.specs.declared.pppos.PPPoSAction.TheVariants.{Idle, Received, Transmit}

-- ---- the record

abbrev pub link_of : FrameReader → Ppp → PPPoS
link_of r p = record { frame_reader = r; ppp = p }

abbrev pub held_by : PPPoS → List ℕ → Held
held_by l rx = held l.frame_reader rx

-- negotiation's outcome, as the link gives it
abbrev pub outcome_of : Result Unit negotiation.Refusal → Result Unit Refusal
outcome_of (Ok x) = Ok x
outcome_of (Err why) = Err (Negotiation why)

-- framing's answer, as the link gives it
abbrev pub framing_outcome : {A : Type 0} → Result A framed.Refusal → Result A Refusal
framing_outcome (Ok x) = Ok x
framing_outcome (Err why) = Err (Framing why)

-- ---- new and open

-- refusal 4 leaves a fresh link with both credentials empty, in the reading asked for
abbrev pub new_link : List ℕ → List ℕ → Choices → PPPoS
new_link name password c = link_of (fresh_reader c.reading) (new_of name password).ppp

abbrev pub open_link : PPPoS → PPPoS
open_link l = link_of l.frame_reader (open_of l.ppp).ppp

-- a call that changes the link: its refusal number, its outcome and the link
pub record Changes (t : Turn) (r : FrameReader) (o : Result Unit Refusal) (l : PPPoS) : Type 0 where
  pub number : outcome_number o ≡ refusals.outcome_number t.outcome
  pub outcome : o ≡ outcome_of t.outcome
  pub link : l ≡ link_of r t.ppp

-- a link made with these choices
abbrev pub Makes : List ℕ → List ℕ → Choices → Result Unit Refusal → PPPoS → Type 0
Makes name password c o l = Changes (new_of name password) (fresh_reader c.reading) o l

abbrev pub Opens : PPPoS → Result Unit Refusal → PPPoS → Type 0
Opens l o l' = Changes (open_of l.ppp) l.frame_reader o l'

-- ---- consume

-- a call that is handed bs: its refusal number, its answer, its count, the link and the receive buffer
pub record Consumes (l : PPPoS) (rx bs : List ℕ) (t : Result ℕ Refusal) (l' : PPPoS) (rx' : List ℕ) : Type 0 where
  pub number : outcome_number t ≡ cond (is_short (held_by l rx)) 3 0
  pub outcome : t ≡ cond (is_short (held_by l rx)) (Err (Framing framing.BufferShort)) (Ok (length bs - length (consumed (held_by l rx) bs).left))
  pub count : count_of t ≡ length bs - length (consumed (held_by l rx) bs).left
  pub link : l' ≡ link_of (consumed (held_by l rx) bs).now.reader l.ppp
  pub bytes : rx' ≡ (consumed (held_by l rx) bs).now.buf

-- ---- poll

-- the action, the link, and both buffers
pub record Poll : Type 0 where
  pub action : Result PPPoSAction Refusal
  pub link : PPPoS
  pub tx : List ℕ
  pub rx : List ℕ

-- a refusal that leaves the link l and both buffers
abbrev pub declined : Refusal → PPPoS → List ℕ → List ℕ → Poll
declined why l tx rx = record { action = Err why; link = l; tx = tx; rx = rx }

abbrev pub sent : ℕ → PPPoSAction
sent n = cond (eqb n 0) Idle (Transmit n)

-- an answered echo's code 10 stands in the receive buffer
abbrev pub echoed_in : Bool → List ℕ → List ℕ
echoed_in e rx = cond e (set rx 3 10) rx

-- all frames are written, or everything stays as it was
abbrev pub written : PPPoS → FrameReader → Turn → List ℕ → List ℕ → Poll
written l r t tx rx =
    cond (leb (length (frames t.sent)) (length tx))
    (record { action = Ok (sent (length (frames t.sent))); link = link_of r t.ppp; tx = over (frames t.sent) tx; rx = echoed_in t.echoed rx })
    (declined FramesFull l tx rx)

-- what negotiation's turn t comes to, with the reader r: a refused packet is dropped
abbrev pub by_outcome : Result Unit negotiation.Refusal → PPPoS → FrameReader → Turn → List ℕ → List ℕ → Poll
by_outcome (Ok tt) l r t tx rx = written l r t tx rx
by_outcome (Err why) l r t tx rx = declined (Negotiation why) (link_of r l.ppp) tx rx

unfoldable pub answered_poll : PPPoS → FrameReader → Turn → List ℕ → List ℕ → Poll
answered_poll l r t tx rx = by_outcome t.outcome l r t tx rx

-- a turn and a poll as the code holds them
abbrev pub as_turn : Turned → Turn
as_turn t = record { outcome = t.outcome; echoed = t.echoed; ppp = t.ppp; sent = contents t.replies }

abbrev pub as_poll : Polled → List ℕ → List ℕ → Poll
as_poll p tx rx = record { action = p.action; link = p.link; tx = tx; rx = rx }

-- an IPv4 packet is handed out
abbrev pub is_ip : List ℕ → Bool
is_ip pkt = leb 2 (length pkt) && eqb (protocol_in pkt) 0x0021

-- a complete frame with the packet pkt, which ends before index to; r is the reader once it is fetched
unfoldable pub packet_poll : PPPoS → FrameReader → ℕ → List ℕ → List ℕ → List ℕ → Poll
packet_poll l r to tx rx pkt =
    cond (is_ip pkt)
    (record { action = Ok (Received 3 to); link = link_of r l.ppp; tx = tx; rx = rx })
    (answered_poll l r (turn_of l.ppp pkt) tx rx)

unfoldable pub poll_link : PPPoS → List ℕ → List ℕ → Poll
poll_link l tx rx =
    cond (is_short (held_by l rx))
    (declined (Framing framing.BufferShort) l tx rx)
    (cond (is_complete l.frame_reader.state)
    (cond (ltb l.frame_reader.len 3)
    (declined (Framing framing.FrameShort) (link_of (fetched l.frame_reader) l.ppp) tx rx)
    (packet_poll l (fetched l.frame_reader) (l.frame_reader.len - 2) tx rx (packet_of (held_by l rx))))
    (answered_poll l l.frame_reader (poll_of l.ppp) tx rx))

abbrev pub action_number : Result PPPoSAction Refusal → ℕ
action_number = outcome_number

-- the ends of a range, how many bytes are to be sent, or what a refusal tells beside its number
abbrev pub action_values : Result PPPoSAction Refusal → List ℕ
action_values (Ok Idle) = []
action_values (Ok (Received from to)) = from ∷ to ∷ []
action_values (Ok (Transmit n)) = n ∷ []
action_values (Err r) = values_of r

-- a poll's refusal number and values, its action, the link and both buffers
pub record Polls (p : Poll) (a : Result PPPoSAction Refusal) (l : PPPoS) (tx rx : List ℕ) : Type 0 where
  pub number : action_number a ≡ action_number p.action
  pub values : action_values a ≡ action_values p.action
  pub action : a ≡ p.action
  pub link : l ≡ p.link
  pub transmit : tx ≡ p.tx
  pub receive : rx ≡ p.rx

-- how many bytes of the transmit buffer are to be sent
abbrev pub transmitted : Result PPPoSAction Refusal → ℕ
transmitted (Ok Idle) = 0
transmitted (Ok (Received from to)) = 0
transmitted (Ok (Transmit n)) = n
transmitted (Err r) = 0

-- ---- send

-- protocol 0021 before the packet, in every state, with the peer's map
abbrev pub ip_frame : List ℕ → List ℕ
ip_frame pkt = (0x00 ∷ 0x21 ∷ []) ++ pkt

abbrev pub remote_map : PPPoS → ℕ
remote_map l = l.ppp.lcp.proto.asyncmap_remote

-- a send's refusal number, its answer, its count and the transmit buffer
pub record Sends (l : PPPoS) (pkt tx : List ℕ) (r : Result ℕ Refusal) (tx' : List ℕ) : Type 0 where
  pub number : outcome_number r ≡ cond (holds (remote_map l) (ip_frame pkt) (length tx)) 0 1
  pub outcome : r ≡ cond (holds (remote_map l) (ip_frame pkt) (length tx)) (Ok (length (frame (remote_map l) (ip_frame pkt)))) (Err (Framing framing.BufferFull))
  pub lays : Lays (remote_map l) (ip_frame pkt) tx (count_of r) tx'

-- ---- the IP packet

-- the range does not run backwards or past the end
abbrev is_inside : List ℕ → ℕ → ℕ → Bool
is_inside rx from to = leb from to && leb to (length rx)

-- the bytes of a range, or none if it runs backwards or past the end
abbrev part_of : List ℕ → ℕ → ℕ → List ℕ
part_of rx from to = cond (is_inside rx from to) (take (to - from) (drop from rx)) []

-- a part of the lent buffer itself: its bytes, and that it lies there from the range's start on, or at the buffer's start
pub record HandsOut (rx : Bor (List ℕ)) (from to : ℕ) (r : Bor (List ℕ)) : Type 0 where
  pub bytes : r.now ≡ part_of rx.now from to
  pub block : r.ref_ptr.0 ≡ rx.ref_ptr.0
  pub offset : r.ref_ptr.1 ≡ rx.ref_ptr.1 + cond (is_inside rx.now from to) from 0

-- Document 01's worked examples K1 to K13: what the definitions give, beside what the document says.
use Rattle.std.specs.Prelude.{List, [], ◌∷◌, ℕ, ◌-◌, take, replicate, Result, Ok, Err}
use Rattle.framing.specs.Rfc1662.{fcs, frame}
use Rattle.framing.specs.Reader.{Held, held, fed, fresh_reader, packet_of}
use Rattle.framing.specs.declared.frame_reader.State.{State}
use Rattle.framing.specs.declared.frame_reader.State.TheVariants.{Start, Address, Data, Complete}
use Rattle.framing.specs.declared.frame_reader.Reading.{Reading}
use Rattle.framing.specs.declared.frame_reader.Reading.TheVariants.{Crate, Standard}
use Rattle.options.specs.Refusal.{number_of, values_of}
use Rattle.options.specs.declared.refusal.Refusal.{Refusal}
use Rattle.negotiation.specs.Pap.{pap_bytes, fresh_pap}
use Rattle.negotiation.specs.Messages.{next_id, request_bytes}
use Rattle.negotiation.specs.Credentials.{credentials_with}
use Rattle.phases.specs.Phases.{fresh_ppp, ipv4cp_in, poll_of, turn_of, open_of, Turn}
use Rattle.negotiation.specs.declared.states.State as fsm
use Rattle.phases.specs.declared.ppp.Ppp.{Ppp}
use Rattle.link.specs.Link.{Poll, new_link, open_link, poll_link, action_number}
use Rattle.link.specs.declared.pppos.PPPoSAction.{PPPoSAction}
use Rattle.link.specs.declared.pppos.PPPoSAction.TheVariants.{Idle, Received, Transmit}
use Rattle.link.specs.declared.refusal.Refusal as link

pub record Example : Type 0 where
  pub found : List ℕ
  pub wanted : List ℕ

abbrev pub row : List ℕ → List ℕ → Example
row f w = record { found = f; wanted = w }

-- ---- a reader, shown as its state and the bytes kept

abbrev pub state_number : State → ℕ
state_number Start = 0
state_number Address = 1
state_number Data = 2
state_number Complete = 3

abbrev pub shown : Held → List ℕ
shown s = state_number s.reader.state ∷ take s.reader.len s.buf

-- a fresh reader with so much room, fed these bytes
abbrev pub reads : Reading → ℕ → List ℕ → Held
reads k room bs = (fed (held (fresh_reader k) (replicate room 0)) bs).now

-- a complete frame: its packet's range, and the packet
abbrev pub fetches : Held → List ℕ
fetches s = 1 ∷ (s.reader.len - 2) ∷ packet_of s

abbrev pub k3 : List ℕ
k3 = 0x7E ∷ 0xFF ∷ 0x03 ∷ 0x1C ∷ 0xC2 ∷ 0x7E ∷ []

abbrev pub k12 : List ℕ
k12 = 0x7E ∷ 0xFF ∷ 0x7D ∷ 0x7D ∷ 0x41 ∷ []

abbrev pub k13 : List ℕ
k13 = 0x7E ∷ 0xFF ∷ 0x03 ∷ 0x00 ∷ 0x00 ∷ 0x7E ∷ 0xFF ∷ 0x03 ∷ 0x1C ∷ 0xC2 ∷ 0x7E ∷ []

-- ---- a link, opened and polled once

abbrev pub first_poll : ℕ → Poll
first_poll room = poll_link (open_link (new_link [] [] (record { reading = Crate }))) (replicate room 0) []

-- the count of an action, and what stands there
abbrev pub counted : Result PPPoSAction link.Refusal → ℕ
counted (Ok Idle) = 0
counted (Ok (Received from to)) = 0
counted (Ok (Transmit n)) = n
counted (Err r) = 0

abbrev pub transmits : Poll → List ℕ
transmits p = counted p.action ∷ take (counted p.action) p.tx

-- LCP in ReqSent
abbrev pub asked : Ppp
asked = (poll_of (open_of (fresh_ppp [] [])).ppp).ppp

abbrev pub fsm_number : fsm.State → ℕ
fsm_number fsm.TheVariants.Closed = 0
fsm_number fsm.TheVariants.ReqSent = 1
fsm_number fsm.TheVariants.AckReceived = 2
fsm_number fsm.TheVariants.AckSent = 3
fsm_number fsm.TheVariants.Opened = 4

-- LCP's state, the remote map, and the first packet sent
abbrev pub first : List (List ℕ) → List ℕ
first [] = []
first (p ∷ ps) = p

abbrev pub answers : Turn → List ℕ
answers t = fsm_number t.ppp.lcp.state ∷ t.ppp.lcp.proto.asyncmap_remote ∷ first t.sent

abbrev pub k10 : List ℕ
k10 = 0xC0 ∷ 0x21 ∷ 0x01 ∷ 0x07 ∷ 0x00 ∷ 0x10 ∷ 0x02 ∷ 0x06 ∷ 0x00 ∷ 0x00 ∷ 0x00 ∷ 0x00 ∷ 0x05 ∷ 0x06 ∷ 0x01 ∷ 0x02 ∷ 0x03 ∷ 0x04 ∷ []

abbrev pub k11 : List ℕ
k11 = 0xC0 ∷ 0x21 ∷ 0x01 ∷ 0x07 ∷ 0x00 ∷ 0x06 ∷ 0x02 ∷ 0x01 ∷ []

-- the same behind a first option, in a request and in a Nack
abbrev pub cut_behind : ℕ → List ℕ
cut_behind code = 0xC0 ∷ 0x21 ∷ code ∷ 0x07 ∷ 0x00 ∷ 0x0B ∷ 0x02 ∷ 0x06 ∷ 0x01 ∷ 0x02 ∷ 0x03 ∷ 0x04 ∷ 0x02 ∷ []

-- an outcome's number and the values beside it
abbrev pub told : Result Unit Refusal → List ℕ
told (Ok x) = 0 ∷ []
told (Err why) = number_of why ∷ values_of why

abbrev pub table : List Example
table =
    -- K1, K2: the check value
    row (fcs 0xFFFF (0xFF ∷ []) ∷ []) (0x00FF ∷ [])
    ∷ row (fcs 0xFFFF (0xFF ∷ 0x03 ∷ []) ∷ []) (0x3DE3 ∷ [])
    -- K3, K4: the empty packet, map 0 and map FFFFFFFF
    ∷ row (frame 0 []) k3
    ∷ row (frame 0xFFFFFFFF []) (0x7E ∷ 0xFF ∷ 0x7D ∷ 0x23 ∷ 0x7D ∷ 0x3C ∷ 0xC2 ∷ 0x7E ∷ [])
    -- K5: three bytes of room: kept 03 1C C2, packet 1..1, empty
    ∷ row (shown (reads Crate 3 k3)) (3 ∷ 0x03 ∷ 0x1C ∷ 0xC2 ∷ [])
    ∷ row (fetches (reads Crate 3 k3)) (1 ∷ 1 ∷ [])
    -- K6: two bytes of room: no frame, state Address
    ∷ row (shown (reads Crate 2 k3)) (1 ∷ [])
    -- K7: the first LCP frame has 29 bytes; 28 of room is refusal 1
    ∷ row (transmits (first_poll 795))
    (29 ∷ 0x7E ∷ 0xFF ∷ 0x7D ∷ 0x23 ∷ 0xC0 ∷ 0x21 ∷ 0x7D ∷ 0x21 ∷ 0x7D ∷ 0x22 ∷ 0x7D ∷ 0x20 ∷ 0x7D ∷ 0x2A ∷ 0x7D ∷ 0x22 ∷ 0x7D ∷ 0x26
    ∷ 0x7D ∷ 0x20 ∷ 0x7D ∷ 0x20 ∷ 0x7D ∷ 0x20 ∷ 0x7D ∷ 0x20 ∷ 0x5F ∷ 0xAD ∷ 0x7E ∷ [])
    ∷ row (action_number (first_poll 28).action ∷ []) (1 ∷ [])
    -- K8: PAP, "a" and "b"
    ∷ row (pap_bytes (credentials_with (0x61 ∷ []) (0x62 ∷ [])) fresh_pap) (0xC0 ∷ 0x23 ∷ 0x01 ∷ 0x02 ∷ 0x00 ∷ 0x08 ∷ 0x01 ∷ 0x61 ∷ 0x01 ∷ 0x62 ∷ [])
    -- K9: the first IPv4CP packet
    ∷ row (request_bytes (ipv4cp_in (fresh_ppp [] []).ipv4cp).proto (next_id (fresh_ppp [] []).ipv4cp.id))
    (0x80 ∷ 0x21 ∷ 0x01 ∷ 0x02 ∷ 0x00 ∷ 0x16 ∷ 0x03 ∷ 0x06 ∷ 0x00 ∷ 0x00 ∷ 0x00 ∷ 0x00 ∷ 0x81 ∷ 0x06 ∷ 0x00 ∷ 0x00 ∷ 0x00 ∷ 0x00 ∷ 0x83 ∷ 0x06 ∷ 0x00 ∷ 0x00 ∷ 0x00 ∷ 0x00 ∷ [])
    -- K10: a Rej, still ReqSent, remote map 0
    ∷ row (answers (turn_of asked k10)) (1 ∷ 0 ∷ 0xC0 ∷ 0x21 ∷ 0x04 ∷ 0x07 ∷ 0x00 ∷ 0x0A ∷ 0x05 ∷ 0x06 ∷ 0x01 ∷ 0x02 ∷ 0x03 ∷ 0x04 ∷ [])
    -- K11: the option list 02 01 is refusal 7, with the option's offset
    ∷ row (told (turn_of asked k11).outcome) (7 ∷ 0 ∷ [])
    ∷ row (told (turn_of asked (cut_behind 1)).outcome) (7 ∷ 6 ∷ [])
    ∷ row (told (turn_of asked (cut_behind 3)).outcome) (7 ∷ 6 ∷ [])
    -- K12: data 7D 7D 41: crate 61, standard 5D 41
    ∷ row (shown (reads Crate 9 k12)) (2 ∷ 0x61 ∷ [])
    ∷ row (shown (reads Standard 9 k12)) (2 ∷ 0x5D ∷ 0x41 ∷ [])
    -- K13: crate no frame, 6 kept; standard one, 1..1
    ∷ row (shown (reads Crate 1600 k13)) (1 ∷ 0x03 ∷ 0x00 ∷ 0x00 ∷ 0x03 ∷ 0x1C ∷ 0xC2 ∷ [])
    ∷ row (shown (reads Standard 1600 k13)) (3 ∷ 0x03 ∷ 0x1C ∷ 0xC2 ∷ [])
    ∷ row (fetches (reads Standard 1600 k13)) (1 ∷ 1 ∷ [])
    ∷ []

-- The refusal table for the link's calls, from the words of documents 01 and 02 alone: for each call its rows in 01's order, when each is given and what it leaves.
-- A consume has the reader's row, with the link unchanged (Framing.antt); `new` and `open` are also calls of the record below the link.
-- `status` and `ip_packet` refuse nothing, and `feed` passes refusals over.
use Rattle.std.specs.Prelude.{◌≡◌, false, List, [], ◌∷◌, ◌++◌, ℕ, ◌+◌, ◌-◌, ◌<◌, length, take, drop, replicate}
use Rattle.framing.specs.declared.frame_reader.State.TheVariants.{Start, Complete}
use Rattle.options.specs.declared.lcp.AuthType.TheVariants.{None}
use Rattle.negotiation.specs.declared.pap.PapState.TheVariants as pap_state
use Rattle.negotiation.specs.declared.states.State.TheVariants.{Closed}
use Rattle.phases.specs.declared.ppp.Phase.{Phase}
use Rattle.phases.specs.declared.ppp.Phase.TheVariants.{Dead}
use Rattle.phases.specs.declared.ppp.Ppp.{Ppp}
use Rattle.link.specs.declared.choices.Choices.{Choices}
use Rattle.link.specs.declared.pppos.PPPoS.{PPPoS}
use Rattle.refusals.specs.Rows.{Row, row}
use Rattle.refusals.specs.Framing.{Counted, encode_rows, moved_on}
use Rattle.refusals.specs.Packets.{packet_rows}

-- ---- new

-- what stands below a fresh link, with an empty name and an empty password
abbrev pub empty_ppp : Ppp
empty_ppp =
    record {
      phase = Dead;
      opening = false;
      lcp = record { id = 1; state = Closed; proto = record { auth = None; asyncmap_remote = 0xFFFFFFFF; asyncmap = 0; asyncmap_rej = false } };
      auth = record { credentials = record { username_len = 0; password_len = 0; bytes = replicate 120 0 }; pap = record { state = pap_state.Closed; id = 1 } };
      ipv4cp =
          record {
            id = 1;
            state = Closed;
            proto =
                record {
                  peer_address = 0;
                  address = record { address = 0; is_rejected = false };
                  dns_server_1 = record { address = 0; is_rejected = false };
                  dns_server_2 = record { address = 0; is_rejected = false };
                };
          };
    }

-- a fresh link with both empty, in the reading asked for
abbrev pub empty_link : Choices → PPPoS
empty_link c = record { frame_reader = record { state = Start; escape = false; len = 0; reading = c.reading }; ppp = empty_ppp }

-- 4: name and password above 120 together | a fresh link with both empty
abbrev pub new_rows : {A : Type 0} → List ℕ → List ℕ → A → List (Row A)
new_rows name password empty = row 4 (120 < length name + length password) (λ l. l ≡ empty) ∷ []

-- ---- open

-- 2: link open, phase not Dead | unchanged
abbrev pub open_rows : {A : Type 0} → Phase → A → List (Row A)
open_rows phase l = row 2 (phase ≡ Dead → ⊥) (λ l'. l' ≡ l) ∷ []

-- ---- send

-- the rows of encoding one packet, protocol 0021 before it, with `asyncmap_remote`
abbrev pub send_rows : PPPoS → List ℕ → List ℕ → List (Row Counted)
send_rows l pkt tx =
    let m = l.ppp.lcp.proto.asyncmap_remote in
    let p : List ℕ = 0x00 ∷ 0x21 ∷ pkt in
    encode_rows m p tx

-- ---- status lines

-- 1: lines don't fit, where text is what they say | nothing written; the count is 0
abbrev pub lines_rows : List ℕ → List ℕ → List (Row Counted)
lines_rows text out = row 1 (length out < length text) (λ w. (w.count ≡ 0) × (w.bytes ≡ out)) ∷ []

-- ---- poll

-- the packet in a receive buffer: bytes 1 up to the kept length less 2 (under three kept hold none)
abbrev pub packet_in : PPPoS → List ℕ → List ℕ
packet_in l rx = take (l.frame_reader.len - 3) (drop 1 rx)

-- what a poll leaves: what it tells beside a refusal's number, the link and both buffers
pub record Kept : Type 0 where
  pub told : List ℕ
  pub link : PPPoS
  pub tx : List ℕ
  pub rx : List ℕ

-- the link with its reader moved on
abbrev pub link_moved_on : PPPoS → PPPoS
link_moved_on l = record { frame_reader = moved_on l.frame_reader; ppp = l.ppp }

-- out is what the poll has to send, as the bytes of its frames: the table does not say what these are
abbrev pub poll_rows : PPPoS → List ℕ → List ℕ → List ℕ → List (Row Kept)
poll_rows l tx rx out =
    let received : Type 0 = l.frame_reader.state ≡ Complete in
    let pkt = packet_in l rx in
    let unchanged : Kept → Type 0 = λ k. (k.told ≡ []) × (k.link ≡ l) × (k.tx ≡ tx) × (k.rx ≡ rx) in
    let dropped : Kept → Type 0 = λ k. (k.link ≡ link_moved_on l) × (k.tx ≡ tx) × (k.rx ≡ rx) in
    -- lent buffer under the kept length | unchanged
    row 3 (length rx < l.frame_reader.len) unchanged
    -- what the packet is refused for | frame dropped
    ∷ (packet_rows (λ c. received × c) (λ k. k.told) dropped l.ppp pkt
    -- frames don't fit | everything unchanged, frame still waiting
    ++ (row 1 (length tx < length out) unchanged ∷ []))

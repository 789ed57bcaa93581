-- pppos/mod.rs.
use Rattle.std.specs.Prelude.{cond, List, [], ◌∷◌, ◌++◌, ℕ, ◌+◌, ◌-◌, ltb, eqb, length, take, drop}
use Rattle.laws.specs.Be.{be_of, be_bytes}
use Rattle.original.specs.Run.{Run, returns, panics, poll_order, poll_range, poll_slice, reply_long, reply_full, ◌>>=◌, Result, ok, err}
use Rattle.original.specs.Framing.{FrameWriter, new_writer, new_with_asyncmap, WriteResult, try, start, append, finish, FrameReader, new_reader, Fetch, nothing, range, receive, consume}
use Rattle.original.specs.Wire.{ProtocolType, Unknown, LCP, PAP, IPv4, IPv4CP, protocol_from, Packet, packet_len, emit}
use Rattle.original.specs.Ppp.{Ppp, new_ppp, open_in, Status, status, received, poll_ppp}

pub record PPPoS : Type 0 where
  pub frame_reader : FrameReader
  pub ppp : Ppp

pub data PPPoSAction : Type 0 where
  None : PPPoSAction
  Received : ℕ → ℕ → PPPoSAction
  Transmit : ℕ → PPPoSAction

-- PPPoS::new
abbrev pub new_link : List ℕ → List ℕ → Run PPPoS
new_link username password = new_ppp username password >>= λ p. returns (record { frame_reader = new_reader; ppp = p })

-- PPPoS::status
abbrev pub status_link : PPPoS → Status
status_link l = status l.ppp

abbrev pub with_ppp : PPPoS → Ppp → PPPoS
with_ppp l p = record { frame_reader = l.frame_reader; ppp = p }

abbrev pub open_result : PPPoS → Result Ppp → Result PPPoS
open_result l (ok p) = ok (with_ppp l p)
open_result l err = err

-- PPPoS::open; an error leaves the link
abbrev pub open_link : PPPoS → Result PPPoS
open_link l = open_result l (open_in l.ppp.phase l.ppp)

-- ---- poll

-- `.unwrap()` of a writer's call
abbrev pub unwrapped : WriteResult → Run FrameWriter
unwrapped r = cond r.is_ok (returns r.writer) (panics reply_full)

-- the closure tx
unfoldable pub transmit : FrameWriter → Packet → Run FrameWriter
transmit w pkt =
    cond (ltb 128 (packet_len pkt)) (panics reply_long)
    (unwrapped (start w) >>= λ w. unwrapped (append w (emit pkt)) >>= λ w. unwrapped (finish w))

-- tx, called with one packet after the other
unfoldable pub transmit_all : FrameWriter → List Packet → Run FrameWriter
transmit_all w [] = returns w
transmit_all w (p ∷ ps) = transmit w p >>= λ w. transmit_all w ps

-- the action, the link, and both buffers
pub record Poll : Type 0 where
  pub action : PPPoSAction
  pub link : PPPoS
  pub tx : List ℕ
  pub rx : List ℕ

-- from `self.ppp.poll(tx)` on
unfoldable pub poll_rest : PPPoS → FrameWriter → List ℕ → Run Poll
poll_rest l w rx = do
  s ← poll_ppp l.ppp
  v ← transmit_all w s.tx
  returns (record { action = cond (eqb v.len 0) None (Transmit v.len); link = with_ppp l s.ppp; tx = v.buf; rx = rx })

-- what `// Handle input` comes to: an IP packet is handed out, or `self.ppp.poll(tx)` is next
pub data Input : Type 0 where
  handed_out : Poll → Input
  goes_on : PPPoS → FrameWriter → List ℕ → Input

-- `_ => self.ppp.received(pkt, &mut tx)`; pkt is `rx_buf[from..to]`
abbrev pub poll_received : PPPoS → FrameWriter → ℕ → ℕ → List ℕ → List ℕ → Run Input
poll_received l w from to rx pkt = do
  r ← received l.ppp pkt
  v ← transmit_all w r.tx
  returns (goes_on (with_ppp l r.ppp) v (take from rx ++ (r.pkt ++ drop to rx)))

-- `match proto.into()`
abbrev pub poll_by : ProtocolType → PPPoS → FrameWriter → ℕ → ℕ → List ℕ → List ℕ → Run Input
poll_by IPv4 l w from to rx pkt = returns (handed_out (record { action = Received (from + 2) to; link = l; tx = w.buf; rx = rx }))
poll_by Unknown l w from to rx pkt = poll_received l w from to rx pkt
poll_by LCP l w from to rx pkt = poll_received l w from to rx pkt
poll_by PAP l w from to rx pkt = poll_received l w from to rx pkt
poll_by IPv4CP l w from to rx pkt = poll_received l w from to rx pkt

abbrev pub poll_packet : PPPoS → FrameWriter → ℕ → ℕ → List ℕ → List ℕ → Run Input
poll_packet l w from to rx pkt = cond (ltb (length pkt) 2) (panics poll_slice) (poll_by (protocol_from (be_of (take 2 pkt))) l w from to rx pkt)

-- `if let Some(range) = self.frame_reader.receive()`
abbrev pub poll_fetch : PPPoS → FrameWriter → List ℕ → Fetch → Run Input
poll_fetch l w rx (nothing r) = returns (goes_on (record { frame_reader = r; ppp = l.ppp }) w rx)
poll_fetch l w rx (range from to r) =
    cond (ltb to from) (panics poll_order)
    (cond (ltb (length rx) to) (panics poll_range)
    (poll_packet (record { frame_reader = r; ppp = l.ppp }) w from to rx (take (to - from) (drop from rx))))

unfoldable pub handle_input : PPPoS → List ℕ → List ℕ → Run Input
handle_input l tx rx = receive l.frame_reader >>= poll_fetch l (new_writer tx) rx

abbrev pub poll_input : Input → Run Poll
poll_input (handed_out p) = returns p
poll_input (goes_on l w rx) = poll_rest l w rx

-- PPPoS::poll
unfoldable pub poll : PPPoS → List ℕ → List ℕ → Run Poll
poll l tx rx = handle_input l tx rx >>= poll_input

-- ---- send and consume

-- PPPoS::send, as what the writer's last call gave: its length is the answer where that was Ok
unfoldable pub send : PPPoS → List ℕ → List ℕ → WriteResult
send l pkt tx =
    try (start (new_with_asyncmap tx l.ppp.lcp.proto.asyncmap_remote)) (λ w.
    try (append w (be_bytes 2 0x0021)) (λ w.
    try (append w pkt) (λ w. finish w)))

pub record Consumed : Type 0 where
  pub count : ℕ
  pub link : PPPoS
  pub rx : List ℕ

-- PPPoS::consume
abbrev pub consume_link : PPPoS → List ℕ → List ℕ → Run Consumed
consume_link l bs rx = consume l.frame_reader rx bs >>= λ c. returns (record { count = c.count; link = record { frame_reader = c.reader; ppp = l.ppp }; rx = c.buf })

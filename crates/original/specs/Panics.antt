-- Where the original panics: the place, its number in the table of documents 01 and 02, and what our refusal leaves.
use Rattle.std.specs.Prelude.{◌≡◌, true, cond, List, [], ◌∷◌, ℕ, ◌+◌, ◌≤◌, ◌<◌, ltb, length, get_or, Result, Err}
use Rattle.framing.specs.Refusal as framing
use Rattle.framing.specs.Reader.{is_complete, fetched, Got, Receives, Framed}
use Rattle.framing.specs.declared.frame_reader.FrameReader as reader
use Rattle.framing.specs.declared.frame_reader.State.TheVariants.{Data}
use Rattle.framing.specs.declared.frame_reader.Reading.TheVariants.{Crate}
use Rattle.framing.specs.declared.refusal.Refusal.TheVariants.{BufferShort, FrameShort}
use Rattle.options.specs.Refusal.{number_of}
use Rattle.options.specs.declared.refusal.Refusal.{Refusal}
use Rattle.options.specs.declared.refusal.Refusal.TheVariants.{CredentialsLong}
use Rattle.link.specs.Choices.{Plain}
use Rattle.link.specs.Link.{link_of, Makes, Consumes, Poll, declined, poll_link, Polls}
use Rattle.link.specs.Reached.{Reached}
use Rattle.link.specs.Refusal as link
use Rattle.link.specs.declared.refusal.Refusal.TheVariants.{Framing, Negotiation, FramesFull}
use Rattle.link.specs.declared.refusal.Refusal as link_refusal
use Rattle.link.specs.declared.choices.Choices.{Choices}
use Rattle.link.specs.declared.pppos.PPPoS.{PPPoS}
use Rattle.link.specs.declared.pppos.PPPoSAction.{PPPoSAction}
use Rattle.original.specs.Run.{Run, returns, panics, Place, reader_len, reader_slice, option_long, fsm_open, echo_code, not_closed, request_id, packet_short, options_cut, request_many, own_many, name_long, password_long, pap_open, pap_slice, received_slice, received_ip, poll_order, poll_range, poll_slice, reply_long, reply_full}
use Rattle.original.specs.Framing.{FrameWriter, range, receive}
use Rattle.original.specs.Fsm.{close_fsm}
use Rattle.original.specs.Protocols.{ipv4cp_protocol, close_pap}
use Rattle.original.specs.Ppp.{Ppp, with_pap, with_ipv4cp}
use Rattle.original.specs.Pppos as theirs
use Rattle.original.specs.View.{view_reader, view_link}
use Rattle.original.specs.Domain.{InDomain}
use Rattle.original.specs.Same.{SamePolled}
use Rattle.original.specs.History.{Call, polls, OurAnswer, acted, Called, History, Ran, call_of, run_of}

-- the number that the table names for a place; 0 where no call comes to it, or where ours goes on
abbrev pub number_at : Place → ℕ
number_at reader_len = 5
number_at reader_slice = 3
number_at option_long = 8
number_at fsm_open = 0
number_at echo_code = 12
number_at not_closed = 0
number_at request_id = 11
number_at packet_short = 11
number_at options_cut = 7
number_at request_many = 9
number_at own_many = 0
number_at name_long = 4
number_at password_long = 4
number_at pap_open = 0
number_at pap_slice = 13
number_at received_slice = 0
number_at received_ip = 0
number_at poll_order = 5
number_at poll_range = 3
number_at poll_slice = 5
number_at reply_long = 10
number_at reply_full = 1

-- an outcome that is the table's refusal for a place
pub record RefusedAt (place : Place) (o : Result Unit Refusal) : Type 0 where
  pub why : Refusal
  pub number : number_of why ≡ number_at place
  pub outcome : o ≡ Err why

-- the two `assert!`s of open, where ours opens as if Closed; the record on which the original would go on so
pub data Asserts : Place → Type 0 where
  ipv4cp_opened : Asserts fsm_open
  pap_opened : Asserts pap_open

abbrev pub as_if_closed : {p : Place} → Asserts p → Ppp → Ppp
as_if_closed ipv4cp_opened p = with_ipv4cp p (close_fsm ipv4cp_protocol p.ipv4cp)
as_if_closed pap_opened p = with_pap p (close_pap p.pap)

-- ---- a poll

-- a panic at a place, beside what our poll does there
pub data Refuses (l : PPPoS) (tx rx : List ℕ) : Place → Poll → Type 0 where
  -- a frame does not fit: refusal 1, and everything stays
  full : {p : Poll} → link.number_of FramesFull ≡ number_at reply_full → p ≡ declined FramesFull l tx rx → Refuses l tx rx reply_full p
  -- any other panic of a received packet: the table's refusal, and the frame is dropped
  dropped : {place : Place} {p : Poll} (why : Refusal) → RefusedAt place (Err why)
      → p ≡ declined (Negotiation why) (link_of (fetched l.frame_reader) l.ppp) tx rx → Refuses l tx rx place p

-- a poll of ours, beside what the original's comes to
pub data SamePoll (l : PPPoS) (tx rx : List ℕ) : Run theirs.Poll → Poll → Type 0 where
  same : {o : theirs.Poll} {p : Poll} → SamePolled o p.action p.link p.tx p.rx → SamePoll l tx rx (returns o) p
  refuses : {place : Place} {p : Poll} → Refuses l tx rx place p → SamePoll l tx rx (panics place) p
  -- an assert of open, of a link that no calls reach: the original has come to link m, writer w and buffer b, and ours is what it does from there as if Closed
  opens : {place : Place} {p : Poll} → ((c : Choices) → Reached c l → ⊥) → (a : Asserts place) (m : theirs.PPPoS) (w : FrameWriter) (b : List ℕ) → theirs.handle_input (view_link l) tx rx ≡ returns (theirs.goes_on m w b)
      → SamePoll l tx rx (theirs.poll_rest (theirs.with_ppp m (as_if_closed a m.ppp)) w b) p → SamePoll l tx rx (panics place) p

-- a complete frame with under three bytes kept: `len - 2` of under two, or the range 1..0
abbrev pub unframed_at : ℕ → Place
unframed_at len = cond (ltb len 2) reader_len poll_order

-- ---- a run of calls

-- a call that is our refusal of a poll
pub data Stopped (l : PPPoS) (place : Place) : Call → OurAnswer → PPPoS → Type 0 where
  stopped : {tx rx : List ℕ} {a : Result PPPoSAction link_refusal.Refusal} {l' : PPPoS} {tx' rx' : List ℕ} → Refuses l tx rx place (record { action = a; link = l'; tx = tx'; rx = rx' }) → Stopped l place (polls tx rx) (acted a tx' rx') l'

-- ---- every call, each as its contract has it

pub record AtPanics : Type 0 where
  -- refusal 4, and a fresh link with both credentials empty, above 120 bytes together, also where the original panics
  pub new_over : (name password : List ℕ) (c : Choices) → Plain c → c.reading ≡ Crate → 120 < length name + length password → {o : Result Unit link_refusal.Refusal} {l : PPPoS} → Makes name password c o l
      → (o ≡ Err (Negotiation CredentialsLong)) × (theirs.new_link [] [] ≡ returns (view_link l)) × (l.frame_reader.reading ≡ Crate)
  pub new_panics : (name password : List ℕ) (c : Choices) → Plain c → {o : Result Unit link_refusal.Refusal} {l : PPPoS} → Makes name password c o l
      → {place : Place} → theirs.new_link name password ≡ panics place → link.outcome_number o ≡ number_at place
  pub poll : (l : PPPoS) (tx rx : List ℕ) → InDomain l rx → Framed l.frame_reader → {a : Result PPPoSAction link_refusal.Refusal} {l' : PPPoS} {tx' rx' : List ℕ} → Polls (poll_link l tx rx) a l' tx' rx'
      → SamePoll l tx rx (theirs.poll (view_link l) tx rx) (record { action = a; link = l'; tx = tx'; rx = rx' })
  -- refusal 5, and the frame dropped, for a complete frame with under three bytes kept
  pub unframed : (l : PPPoS) (tx rx : List ℕ) → l.frame_reader.len ≤ length rx → is_complete l.frame_reader.state ≡ true → l.frame_reader.len < 3
      → (poll_link l tx rx ≡ declined (Framing FrameShort) (link_of (fetched l.frame_reader) l.ppp) tx rx)
      × (theirs.poll (view_link l) tx rx ≡ panics (unframed_at l.frame_reader.len)) × (number_at (unframed_at l.frame_reader.len) ≡ 5)
  -- the same of the reader alone; of two bytes the original's gives the range 1..0
  pub unfetched : {r r' : reader.FrameReader} {g : Got} → Receives r g r' → is_complete r.state ≡ true → r.len < 3
      → (framing.outcome_number g ≡ number_at reader_len) × (receive (view_reader r) ≡ cond (ltb r.len 2) (panics reader_len) (returns (range 1 0 (view_reader r'))))
  -- refusal 3, and everything left, for a buffer under the kept length; the original panics where the packet itself ends behind the buffer
  pub short_poll : (l : PPPoS) (tx rx : List ℕ) → length rx < l.frame_reader.len
      → (poll_link l tx rx ≡ declined (Framing BufferShort) l tx rx)
      × (is_complete l.frame_reader.state ≡ true → 3 ≤ l.frame_reader.len → length rx + 2 < l.frame_reader.len → (theirs.poll (view_link l) tx rx ≡ panics poll_range) × (number_at poll_range ≡ 3))
  -- the same of a consume; where the original panics, it is at the check of a frame's end
  pub short_consume : (l : PPPoS) (rx bs : List ℕ) → length rx < l.frame_reader.len → {t : Result ℕ link_refusal.Refusal} {l' : PPPoS} {rx' : List ℕ} → Consumes l rx bs t l' rx'
      → (t ≡ Err (Framing BufferShort)) × (framing.count_of t ≡ 0) × (l' ≡ l) × (rx' ≡ rx)
      × ((place : Place) → theirs.consume_link (view_link l) bs rx ≡ panics place → (place ≡ reader_slice) × (link.outcome_number t ≡ number_at place))
  -- there it does panic at a frame's end, with three bytes or more kept, if the buffer is empty or begins with 03
  pub short_end : (l : PPPoS) (rx bs : List ℕ) → length rx < l.frame_reader.len → 3 ≤ l.frame_reader.len → l.frame_reader.state ≡ Data → get_or rx 0 0x03 ≡ 0x03
      → theirs.consume_link (view_link l) (0x7E ∷ bs) rx ≡ panics reader_slice
  -- the first panic of a run of calls is a poll's, and at no assert
  pub first : {name password : List ℕ} {cs : List Call} {xs : List OurAnswer} {l : PPPoS} → History name password cs xs l → {r : Ran} → run_of name password cs ≡ returns r
      → {c : Call} {a : OurAnswer} {l' : PPPoS} → Called l c a l' → {place : Place} → call_of r.link c ≡ panics place → Stopped l place c a l'

-- no link that calls reach meets an assert of open
pub record NeverAsserts : Type 0 where
  pub poll : {c : Choices} (l : PPPoS) (tx rx : List ℕ) → Reached c l → InDomain l rx → {place : Place} → Asserts place → theirs.poll (view_link l) tx rx ≡ panics place → ⊥

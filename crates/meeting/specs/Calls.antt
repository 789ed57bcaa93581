-- The calls that demand 3 makes of an end, each with a poll behind it, and the two wires between two ends.
use Rattle.std.specs.Prelude.{◌≡◌, cond, List, [], ◌∷◌, ◌++◌, ℕ, ◌+◌, ◌-◌, ◌≤◌, length, take, drop, Result, Ok, Err}
use Rattle.framing.specs.Reader.{is_short, Fed, consumed}
use Rattle.framing.specs.declared.refusal.Refusal.TheVariants as framing
use Rattle.phases.specs.Phases.{open_of}
use Rattle.link.specs.Refusal.{outcome_number}
use Rattle.link.specs.Link.{link_of, held_by, outcome_of, open_link, Poll, poll_link, action_number, transmitted}
use Rattle.link.specs.declared.refusal.Refusal.TheVariants.{Framing}
use Rattle.link.specs.declared.refusal.Refusal.{Refusal}
use Rattle.link.specs.declared.pppos.PPPoS.{PPPoS}

-- ---- one end

-- a link, and the one receive buffer that it is lent throughout, which nobody else writes
pub record End : Type 0 where
  pub link : PPPoS
  pub rx : List ℕ

abbrev pub end_of : PPPoS → List ℕ → End
end_of l rx = record { link = l; rx = rx }

-- the end, how many bytes it consumed, the bytes it wrote, and two refusal numbers: the first call's and the poll's, 0 where there is none
pub record Answer : Type 0 where
  pub now : End
  pub used : ℕ
  pub written : List ℕ
  pub first : ℕ
  pub polled : ℕ

-- a poll behind a call with this outcome, which consumed so many bytes; it wrote the first bytes of the transmit buffer
abbrev pub behind : Result Unit Refusal → ℕ → Poll → Answer
behind o n p =
    record {
      now = end_of p.link p.rx;
      used = n;
      written = take (transmitted p.action) p.tx;
      first = outcome_number o;
      polled = action_number p.action;
    }

-- open, then poll
unfoldable pub opens : End → List ℕ → Answer
opens e tx = behind (outcome_of (open_of e.link.ppp).outcome) 0 (poll_link (open_link e.link) tx e.rx)

-- the poll behind a consume that left f of the bytes bs
abbrev pub takes_by : Fed → End → List ℕ → List ℕ → Answer
takes_by f e tx bs =
    behind (cond (is_short (held_by e.link e.rx)) (Err (Framing framing.BufferShort)) (Ok tt)) (length bs - length f.left)
    (poll_link (link_of f.now.reader e.link.ppp) tx f.now.buf)

-- consume bs, then poll
unfoldable pub takes : End → List ℕ → List ℕ → Answer
takes e tx bs = takes_by (consumed (held_by e.link e.rx) bs) e tx bs

-- ---- two ends

-- both ends, the bytes on the way to each, and all that each has written
pub record Net : Type 0 where
  pub a : End
  pub b : End
  pub to_a : List ℕ
  pub to_b : List ℕ
  pub from_a : List ℕ
  pub from_b : List ℕ

-- the same, seen from the other end
abbrev pub flip : Net → Net
flip n = record { a = n.b; b = n.a; to_a = n.to_b; to_b = n.to_a; from_a = n.from_b; from_b = n.from_a }

-- a's answer: what it consumed is off its wire, what it wrote is on the other
abbrev pub passed_on : Net → Answer → Net
passed_on n r =
    record { a = r.now; b = n.b; to_a = drop r.used n.to_a; to_b = n.to_b ++ r.written; from_a = n.from_a ++ r.written; from_b = n.from_b }

-- both wires are empty, and each end is opened and polled before a byte reaches it
abbrev pub begun : End → End → List ℕ → List ℕ → Net
begun x y tx tx' =
    record {
      a = (opens x tx).now;
      b = (opens y tx').now;
      to_a = (opens y tx').written;
      to_b = (opens x tx).written;
      from_a = (opens x tx).written;
      from_b = (opens y tx').written;
    }

-- any calls: some first bytes of those on a wire, cut anywhere, with any transmit buffer of 795 bytes or more
pub data Exchange (n : Net) : Net → Type 0 where
  start : Exchange n n
  at_a : {m : Net} → Exchange n m → (tx c rest : List ℕ) → 795 ≤ length tx → m.to_a ≡ c ++ rest → Exchange n (passed_on m (takes m.a tx c))
  at_b : {m : Net} → Exchange n m → (tx c rest : List ℕ) → 795 ≤ length tx → m.to_b ≡ c ++ rest → Exchange n (flip (passed_on (flip m) (takes m.b tx c)))

abbrev pub one_unless_empty : List ℕ → ℕ
one_unless_empty [] = 0
one_unless_empty (b ∷ c) = 1

-- how many of the calls were handed a byte or more
unfoldable pub steps : {n m : Net} → Exchange n m → ℕ
steps start = 0
steps (at_a r tx c rest h e) = steps r + one_unless_empty c
steps (at_b r tx c rest h e) = steps r + one_unless_empty c

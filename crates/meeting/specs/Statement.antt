-- Demand 3, two ends meet, in the order of its words; what is learned and what a reader between frames is are document 01's ('In demand 3').
use Rattle.std.specs.Prelude.{◌≡◌, Bool, true, false, List, [], ◌++◌, ◌⊎◌, ℕ, ◌^◌, ◌≤◌, ◌<◌, length}
use Rattle.framing.specs.declared.frame_reader.State.TheVariants.{Start, Address}
use Rattle.negotiation.specs.declared.states.State.TheVariants.{Opened}
use Rattle.phases.specs.declared.ppp.Phase.TheVariants as Phase
use Rattle.link.specs.Frames.{frames}
use Rattle.link.specs.Choices.{Plain}
use Rattle.link.specs.Reached.{Reached}
use Rattle.link.specs.declared.choices.Choices.{Choices}
use Rattle.meeting.specs.Calls.{End, Answer, opens, takes, Net, flip, begun, steps, Exchange}

-- "Take two links in phase Dead, each reached from a fresh link by calls, each reader between frames with nothing kept and no escape
-- pending": made with plain choices, so the reading is either; the receive buffer has 27 bytes or more with any contents
pub record Ready (x : End) : Type 0 where
  pub dead : x.link.ppp.phase ≡ Phase.Dead
  pub choices : Choices
  pub plain : Plain choices
  pub reached : Reached choices x.link
  pub between : (x.link.frame_reader.state ≡ Start) ⊎ (x.link.frame_reader.state ≡ Address)
  pub nothing_kept : x.link.frame_reader.len ≡ 0
  pub no_escape : x.link.frame_reader.escape ≡ false
  pub room : 27 ≤ length x.rx

-- w is whole frames
pub record Framed (w : List ℕ) : Type 0 where
  pub packets : List (List ℕ)
  pub whole : w ≡ frames packets

-- "no call refuses"; what it writes is whole frames
pub record Unrefused (r : Answer) : Type 0 where
  pub first : r.first ≡ 0
  pub polled : r.polled ≡ 0
  pub framed : Framed r.written

-- "each end writes four to six frames"
pub record FourToSix (ps : List (List ℕ)) : Type 0 where
  pub least : 4 ≤ length ps
  pub most : length ps ≤ 6

-- w is all that an end writes, its first poll's frame included
pub record AllWritten (w : List ℕ) : Type 0 where
  pub framed : Framed w
  pub count : FourToSix framed.packets

-- w is the beginning of what an end writes
pub record Begins (w : List ℕ) : Type 0 where
  pub rest : List ℕ
  pub extends : AllWritten (w ++ rest)

-- "equal to what the other offered, unchanged for an option not offered": v is offered unless it was rejected, and is a u32
pub record Learned (v : ℕ) (rejected : Bool) (was now : ℕ) : Type 0 where
  pub offered : rejected ≡ false → v < 2 ^ 32 → now ≡ v
  pub unchanged : rejected ≡ true → now ≡ was

-- "when all has been passed on both are in phase Open": x and y as they were taken, e what x has become, w all that it wrote
pub record Met (x y e : End) (w : List ℕ) : Type 0 where
  pub phase : e.link.ppp.phase ≡ Phase.Open
  pub lcp : e.link.ppp.lcp.state ≡ Opened
  pub ipv4cp : e.link.ppp.ipv4cp.state ≡ Opened
  pub map : Learned y.link.ppp.lcp.proto.asyncmap y.link.ppp.lcp.proto.asyncmap_rej
      x.link.ppp.lcp.proto.asyncmap_remote e.link.ppp.lcp.proto.asyncmap_remote
  pub peer : Learned y.link.ppp.ipv4cp.proto.address.address y.link.ppp.ipv4cp.proto.address.is_rejected
      x.link.ppp.ipv4cp.proto.peer_address e.link.ppp.ipv4cp.proto.peer_address
  -- what it offers itself is as it was, so that both ends agree
  pub own_map : e.link.ppp.lcp.proto.asyncmap ≡ x.link.ppp.lcp.proto.asyncmap
  pub own_map_rejected : e.link.ppp.lcp.proto.asyncmap_rej ≡ x.link.ppp.lcp.proto.asyncmap_rej
  pub own_address : e.link.ppp.ipv4cp.proto.address ≡ x.link.ppp.ipv4cp.proto.address
  pub wrote : AllWritten w

-- one end, wherever a run has come to
pub record Side (x y : End) (z : Net) : Type 0 where
  -- the next call, whatever it is handed of the bytes on its wire
  pub unrefused : (tx c rest : List ℕ) → 795 ≤ length tx → z.to_a ≡ c ++ rest → Unrefused (takes z.a tx c)
  pub consumes : (tx c rest : List ℕ) → 795 ≤ length tx → z.to_a ≡ c ++ rest → 0 < length c → 0 < (takes z.a tx c).used
  -- and no byte that it is not handed
  pub no_more : (tx c : List ℕ) → (takes z.a tx c).used ≤ length c
  pub written : Begins z.from_a
  pub met : z.to_a ≡ [] → z.to_b ≡ [] → Met x y z.a z.from_a

-- all has been passed on, after some more calls, and both ends have met
pub record Finishes (x y : End) (z : Net) : Type 0 where
  pub last : Net
  pub run : Exchange z last
  pub empty_a : last.to_a ≡ []
  pub empty_b : last.to_b ≡ []
  pub met_a : Met x y last.a last.from_a
  pub met_b : Met y x last.b last.from_b

-- both ends; calls that are handed a byte are 684 at most, so that a run which goes on with such calls comes to where all is passed on
pub record Meeting (x y : End) (tx tx' : List ℕ) (z : Net) (r : Exchange (begun x y tx tx') z) : Type 0 where
  pub opens_a : Unrefused (opens x tx)
  pub opens_b : Unrefused (opens y tx')
  pub at_a : Side x y z
  pub at_b : Side y x (flip z)
  pub bounded : steps r ≤ 684
  pub finishes : Finishes x y z

-- "Open both and poll each once before a byte reaches it. Then pass the bytes on in any cuts and any order between the directions"
abbrev pub TwoEndsMeet : Type 0
TwoEndsMeet = (x y : End) → Ready x → Ready y → (tx tx' : List ℕ) → 795 ≤ length tx → 795 ≤ length tx'
    → (z : Net) (r : Exchange (begun x y tx tx') z) → Meeting x y tx tx' z r

-- A fresh link, and what a run of received bytes does to it: consume and poll in turn, replies thrown away and refusals passed over.
use Rattle.std.specs.Prelude.{◌≡◌, cond, ◌||◌, List, [], ℕ, zero, suc, ◌+◌, ◌-◌, ◌*◌, eqb, leb, length}
use Rattle.framing.specs.Reader.{Fed, consumed}
use Rattle.framing.specs.Drops.{no_drops, together, dropped}
use Rattle.framing.specs.declared.drops.Drops.{Drops}
use Rattle.link.specs.Link.{link_of, new_link, open_link, held_by, Poll, poll_link}
use Rattle.link.specs.declared.choices.Choices.{Choices}
use Rattle.link.specs.declared.pppos.PPPoS.{PPPoS}

-- a fresh link with no name and no password, opened and polled once
unfoldable pub started : Choices → List ℕ → List ℕ → Poll
started c tx rx = poll_link (open_link (new_link [] [] c)) tx rx

-- the link, both buffers, the bytes that are not taken yet, and what was dropped so far
pub record Progress : Type 0 where
  pub link : PPPoS
  pub tx : List ℕ
  pub rx : List ℕ
  pub left : List ℕ
  pub drops : Drops

abbrev pub progress_of : PPPoS → List ℕ → List ℕ → List ℕ → Drops → Progress
progress_of l tx rx bs d = record { link = l; tx = tx; rx = rx; left = bs; drops = d }

abbrev polled_progress : Poll → List ℕ → Drops → Progress
polled_progress p left d = record { link = p.link; tx = p.tx; rx = p.rx; left = left; drops = d }

abbrev consumed_progress : Fed → Drops → Progress → Progress
consumed_progress f d s = polled_progress (poll_link (link_of f.now.reader s.link.ppp) s.tx f.now.buf) f.left (together s.drops d)

-- one consume, one poll
unfoldable pub one_turn : Progress → Progress
one_turn s = consumed_progress (consumed (held_by s.link s.rx) s.left) (dropped (held_by s.link s.rx) s.left) s

-- how many turns in a row took nothing, behind one that took n bytes
abbrev pub idle_after : ℕ → ℕ → ℕ
idle_after idle n = cond (eqb n 0) (idle + 1) 0

-- at most k turns, until all is taken or two in a row took nothing
unfoldable pub turns : ℕ → ℕ → Progress → Progress
turns zero idle s = s
turns (suc k) idle s =
    cond (eqb (length s.left) 0 || leb 2 idle)
    s
    (turns k (idle_after idle (length s.left - length (one_turn s).left)) (one_turn s))

-- every second turn takes a byte, so that many turns are enough
unfoldable pub fed_link : PPPoS → List ℕ → List ℕ → List ℕ → Progress
fed_link l tx rx bs = turns (2 * length bs + 2) 0 (progress_of l tx rx bs no_drops)

-- what stands after a run of the bytes bs: the count of those taken, the link, what was dropped, and both buffers
pub record Feeds (s : Progress) (bs : List ℕ) (n : ℕ) (l : PPPoS) (d : Drops) (tx rx : List ℕ) : Type 0 where
  pub count : n ≡ length bs - length s.left
  pub link : l ≡ s.link
  pub drops : d ≡ s.drops
  pub transmit : tx ≡ s.tx
  pub receive : rx ≡ s.rx

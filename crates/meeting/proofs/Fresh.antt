-- The statement speaks of something: two fresh links, with any credentials and any plain choices, meet.
-- Assumes nothing.
use mathlib.Core.Path.{◌≡◌, refl}
use mathlib.Core.List.{List}
use mathlib.Core.Logic.{inl}
use Prim.Native.Nat.{ℕ, ◌≤◌}
use native.Mathlib.Omega.{arith}
use lib.ListN.{length}
use Rattle.laws.proofs.Cases.{cond_all}
use Rattle.negotiation.specs.Credentials.{fits_credentials}
use Rattle.phases.specs.Phases.{Turn}
use Rattle.phases.specs.declared.ppp.Phase.TheVariants.{Dead}
use Rattle.link.specs.Link.{new_link}
use Rattle.link.specs.Choices.{Plain}
use Rattle.link.specs.Reached.{by_new}
use Rattle.link.specs.declared.choices.Choices.{Choices}
use Rattle.meeting.specs.Calls.{End, end_of, Net, begun, Exchange}
use Rattle.meeting.specs.Statement.{Ready, Meeting}
use Rattle.meeting.proofs.Meet.{two_ends_meet}

-- a link that was just made, and its receive buffer
pub data Fresh : End → Type 0 where
  made : (name password : List ℕ) (c : Choices) → Plain c → (rx : List ℕ) → 27 ≤ length rx → Fresh (end_of (new_link name password c) rx)

pub fresh_ready : {x : End} → Fresh x → Ready x
fresh_ready (made name password c p rx h) =
    record {
      dead = cond_all (λ (t : Turn). t.ppp.phase ≡ Dead) (fits_credentials (length name) (length password)) refl refl;
      choices = c;
      plain = p;
      reached = by_new name password;
      between = inl refl;
      nothing_kept = refl;
      no_escape = refl;
      room = omega arith;
    }

pub fresh_meet : {x y : End} → Fresh x → Fresh y → (tx tx' : List ℕ) → 795 ≤ length tx → 795 ≤ length tx'
    → (z : Net) (r : Exchange (begun x y tx tx') z) → Meeting x y tx tx' z r
fresh_meet {x} {y} hx hy = two_ends_meet x y (fresh_ready hx) (fresh_ready hy)

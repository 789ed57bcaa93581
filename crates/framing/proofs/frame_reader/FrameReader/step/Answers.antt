use borrow.Author.Tests.{eq-eqb, ne_eqb}
use Rattle.framing.specs.Reader.{step}
use Rattle.framing.specs.Drops.{fault_at}
use Rattle.framing.proofs.frame_reader.FrameReader.step.Goals as goal

pub returns-in-Start : goal.returns-in-Start
unfolding step fault_at
returns-in-Start c = let at = c.in-Start.is in
    (simp (at, c.to.ensures.0, c.sought.ensures), simp (at, c.to.ensures.1))

pub returns-in-Address : goal.returns-in-Address
unfolding step fault_at
returns-in-Address c = let at = c.in-Address.is in
    (simp (at, eq-eqb _ _ c.if-b-eq255.true, c.to-in-Address.ensures.0), simp (at, c.to-in-Address.ensures.1))

pub returns-in-Address-2 : goal.returns-in-Address-2
unfolding step fault_at
returns-in-Address-2 c = let at = c.in-Address-2.is in
    (simp (at, ne_eqb _ _ c.if-b-eq255.false, c.to-in-Address-2.ensures.0, c.sought-in-Address-2.ensures), simp (at, c.to-in-Address-2.ensures.1))

pub returns-in-Data : goal.returns-in-Data
unfolding step fault_at
returns-in-Data c = let at = c.in-Data.is in
    let d = c.«data».ensures in
    (simp at d.0, simp at d.1)

pub returns-in-Complete : goal.returns-in-Complete
unfolding step fault_at
returns-in-Complete c = let at = c.in-Complete.is in
    (simp (at, c.keeps.ensures.0), simp (at, c.keeps.ensures.1))

use mathlib.Core.Path.{◌≡◌, refl, sym, ◌∙◌}
use mathlib.Core.Bool.{true}
use native.Mathlib.Omega.{arith}
use lib.Dec.{leb}
use lib.ListN.{length}
use borrow.Author.Tests.{ne_eqb}
use Rattle.negotiation.specs.Replies.{contents}
use Rattle.link.specs.Frames.{frames}
use Rattle.link.specs.Link.{as_turn}
use Rattle.link.proofs.Polling.{written_all}
use Rattle.link.proofs.pppos.PPPoS.write.Goals as goal

pub returns : goal.returns
returns c =
    let room : leb (length (frames (contents c.args.t.replies))) (length c.args.tx.now) ≡ true = sym c.fits.ensures ∙ c.if-not-fits.false in
    let e = c.store_echo.ensures in
    let a = c.args in
    written_all a.self a.r (as_turn a.t) a.tx.now a.rx.now room c.put_replies-n.ensures.0 (rw (ne_eqb c.put_replies-n.result 0 (λ e. omega arith)) refl) c.put_replies-n.ensures.1 e

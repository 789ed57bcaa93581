use mathlib.Core.Path.{◌≡◌}
use native.Mathlib.Omega.{arith}
use lib.ListN.{length}
use borrow.Author.Rules.{rules}
use Rattle.laws.proofs.Lent.{put_sets}
use Rattle.negotiation.specs.Credentials.{max_credentials}
use Rattle.negotiation.proofs.credentials.place.Goals as goal

pub returns : goal.returns
returns c =
    let long : length c.args.bytes ≡ max_credentials = search rules in
    put_sets c.args.d.now c.args.bytes c.args.at c.copy_from_slice.ensures.after (omega (arith, long, c.requires))

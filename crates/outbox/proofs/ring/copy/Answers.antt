use Rattle.laws.proofs.Lent.{put_sets}
use Rattle.outbox.proofs.ring.copy.Goals as goal

pub returns : goal.returns
returns c = put_sets c.args.src.now c.args.buf.now c.args.at c.copy_from_slice.ensures.after c.requires

use mathlib.Core.Path.{refl}
use Rattle.outbox.proofs.Accepting.{stored}
use Rattle.outbox.proofs.Contents.{start_le}
use Rattle.outbox.proofs.outbox.Outbox.store.Goals as goal

pub returns : goal.returns
returns c =
    let o = c.args.self in
    let ring = c.ring-ring.ensures in
    (refl, stored o.size _ _ o.used _ c.args.pkt.now c.args.buf.now _ _ ring.1 c.size_bytes-head.ensures c.requires.0 (rw ring.1 (start_le o)) (rw ring.0 at c.put.ensures) (rw ring.0 at c.put-2.ensures))

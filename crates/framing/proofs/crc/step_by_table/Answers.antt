use lib.Bits.{bit_xor}
use Rattle.framing.proofs.ByTable.{table_inside, table_step}
use Rattle.framing.proofs.crc.step_by_table.Goals as goal

pub bounds-table-index : goal.bounds-table-index
bounds-table-index c =
    let t = c.args.table.now in
    rw (c.index.ensures, c.from.ensures) (table_inside t c.requires (bit_xor c.args.seed c.args.b))

pub returns : goal.returns
returns c =
    let t = c.args.table.now in
    rw (c.from-2.ensures, c.index.ensures, c.from.ensures) (table_step t c.requires c.args.seed c.args.b c.ranges.b.fits)

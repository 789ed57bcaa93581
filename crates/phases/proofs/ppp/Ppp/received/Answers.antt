use Rattle.std.proofs.Common.{rules, length, arith, le-ltb, lt-ltb, ne_eqb}
use Rattle.laws.proofs.Be.{be_pair}
use Rattle.phases.specs.Phases.{received_of}
use Rattle.phases.proofs.ppp.Ppp.received.Goals as goal

pub returns-then-pkt-lt2 : goal.returns-then-pkt-lt2
unfolding received_of
returns-then-pkt-lt2 c = rw (lt-ltb (length c.args.pkt.now) 2 (omega arith)) c.refuse.ensures

pub overflow_cast-protocol_in : goal.overflow_cast-protocol_in
overflow_cast-protocol_in c = let d = c.args.pkt.now in omega (arith, be_pair d (omega arith), c.protocol_in.ensures, c.type_inv.pkt 0, c.type_inv.pkt 1)

pub returns-in-49185 : goal.returns-in-49185
unfolding received_of
returns-in-49185 c = rw (le-ltb (length c.args.pkt.now) 2 (omega arith), ← c.protocol_in.ensures, c.in-49185.is) c.received_lcp.ensures

pub returns-in-49187 : goal.returns-in-49187
unfolding received_of
returns-in-49187 c = rw (le-ltb (length c.args.pkt.now) 2 (omega arith), ← c.protocol_in.ensures, c.in-49187.is) c.received_pap.ensures

pub returns-in-33 : goal.returns-in-33
unfolding received_of
returns-in-33 c = rw (le-ltb (length c.args.pkt.now) 2 (omega arith), ← c.protocol_in.ensures, c.in-33.is) c.ignore.ensures

pub returns-in-32801 : goal.returns-in-32801
unfolding received_of
returns-in-32801 c = rw (le-ltb (length c.args.pkt.now) 2 (omega arith), ← c.protocol_in.ensures, c.in-32801.is) c.received_ipv4cp.ensures

pub returns-in_default : goal.returns-in_default
unfolding received_of
returns-in_default c = rw (le-ltb (length c.args.pkt.now) 2 (omega arith), ← c.protocol_in.ensures) (search (rules, ne_eqb, c.send_protocol_reject.ensures))

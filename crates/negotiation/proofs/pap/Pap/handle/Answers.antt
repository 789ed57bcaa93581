use Rattle.std.proofs.Common.{◌+◌, length, refl, arith, le-ltb, lt-ltb}
use Rattle.negotiation.specs.Pap.{pap_handle_of}
use Rattle.negotiation.proofs.pap.Pap.handle.Goals as goal

pub returns-then-p-lt6 : goal.returns-then-p-lt6
unfolding pap_handle_of
returns-then-p-lt6 c = rw (lt-ltb (length c.args.p.now) 6 (omega arith)) c.ignore.ensures

pub returns-then-p-len : goal.returns-then-p-len
unfolding pap_handle_of
returns-then-p-len c = let l = length c.args.p.now in
    let n = c.length_in-len in
    rw (le-ltb l 6 (omega arith), ← n.ensures, lt-ltb l n.result (omega arith)) c.ignore-then-p-len.ensures

pub returns-then-p-len-2 : goal.returns-then-p-len-2
unfolding pap_handle_of
returns-then-p-len-2 c = let l = length c.args.p.now in
    let n = c.length_in-len in
    rw (le-ltb l 6 (omega arith), ← n.ensures, le-ltb l n.result (omega arith), lt-ltb l (n.result + 2) (omega arith), c.ignore-then-p-len-2.ensures) refl

pub returns : goal.returns
unfolding pap_handle_of
returns c = let l = length c.args.p.now in
    let n = c.length_in-len in
    rw (le-ltb l 6 (omega arith), ← n.ensures, le-ltb l n.result (omega arith), le-ltb l (n.result + 2) (omega arith)) c.act.ensures

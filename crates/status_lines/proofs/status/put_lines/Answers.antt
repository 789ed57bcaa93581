use Rattle.status_lines.proofs.Writing.{joined, line_short, head_short}
use native.Mathlib.Omega.{arith}
use Rattle.status_lines.specs.Lines.{six_lines, address_key, peer_key, dns1_key}
use Rattle.status_lines.proofs.status.put_lines.Goals as goal

pub put_line-i-requires : goal.put_line-i-requires
put_line-i-requires c = let s = c.args.s in
    omega (arith, head_short s.phase s.up)

pub put_line-i-requires-2 : goal.put_line-i-requires-2
put_line-i-requires-2 c = let s = c.args.s in
    omega (arith, head_short s.phase s.up, line_short address_key s.address)

pub put_line-i-requires-3 : goal.put_line-i-requires-3
put_line-i-requires-3 c = let s = c.args.s in
    omega (arith, head_short s.phase s.up, line_short address_key s.address, line_short peer_key s.peer)

pub put_line-requires : goal.put_line-requires
put_line-requires c = let s = c.args.s in
    omega (arith, head_short s.phase s.up, line_short address_key s.address, line_short peer_key s.peer, line_short dns1_key s.dns1)

pub returns : goal.returns
unfolding six_lines
returns c =
    joined c.put_head-i.ensures
    (joined c.put_line-i.ensures
    (joined c.put_line-i-2.ensures
    (joined c.put_line-i-3.ensures
    c.put_line.ensures)))

use mathlib.Core.Path.{sym, ap, ◌∙◌}
use Rattle.link.proofs.Polling.{polled, turned_is, turns_short, packet_ip, packet_turn}
use Prim.Native.Nat.{◌-◌}
use lib.ListN.{take, drop}
use native.Mathlib.Omega.{arith}
use Rattle.phases.specs.Phases.{Turn}
use Rattle.phases.proofs.Phasing.{turn_sends}
use Rattle.std.specs.Prelude.{Ok}
use Rattle.link.specs.Link.{answered_poll}
use Rattle.link.specs.declared.pppos.PPPoS.{PPPoS}
use Rattle.link.specs.declared.pppos.PPPoSAction.TheVariants.{Received}
use Rattle.link.proofs.pppos.PPPoS.poll_packet.Goals as goal

pub returns-then-is_ip : goal.returns-then-is_ip
returns-then-is_ip c = let a = c.args in
    ap (λ (l : PPPoS). polled (Ok (Received 3 a.to)) l a.tx.now a.rx.now) c.with_reader.ensures
    ∙ sym (packet_ip a.self a.r a.to a.tx.now a.rx.now _ (sym c.is_ip.ensures ∙ c.if-is_ip.true))

pub answer-requires : goal.answer-requires
answer-requires c = let a = c.args in
    turns_short c.turn-t.ensures (turn_sends a.self.ppp _) (omega arith)

pub returns : goal.returns
returns c =
    let a = c.args in
    let t = c.turn-t in
    let pkt = take (a.to - 1) (drop 1 a.rx.now) in
    c.answer.ensures
    ∙ ap (λ (x : Turn). answered_poll a.self a.r x a.tx.now a.rx.now) (turned_is {t = t.result} t.ensures)
    ∙ sym (packet_turn a.self a.r a.to a.tx.now a.rx.now pkt (sym c.is_ip.ensures ∙ c.if-is_ip.false))

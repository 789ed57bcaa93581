use Rattle.std.proofs.Common.{length, refl, ◌∙◌, arith, le-ltb, lt-ltb}
use Rattle.negotiation.specs.Messages.{max_rejected, next_id, reject_bytes}
use Rattle.negotiation.specs.Automaton.{protocol_reject_of}
use Rattle.negotiation.proofs.Automata.{one_reply}
use Rattle.negotiation.proofs.option_fsm.OptionFsm+Proto.send_protocol_reject.Goals as goal

pub returns-then-pkt-gt-MAX_REJECTED : goal.returns-then-pkt-gt-MAX_REJECTED
unfolding protocol_reject_of
returns-then-pkt-gt-MAX_REJECTED c = rw (lt-ltb max_rejected (length c.args.pkt.now) (omega arith)) c.refuse.ensures

pub returns : goal.returns
unfolding protocol_reject_of
returns c = let a = c.args in
    let f = c.with_next_id-f.ensures in
    let e = one_reply (reject_bytes (next_id a.self.id) a.pkt.now) c.none.ensures.0 (rw f at c.reject_packet.ensures) c.add.ensures in
    c.new.ensures ∙ rw (le-ltb max_rejected (length a.pkt.now) (omega arith), e, f) refl

-- How an automaton answers a Configure-Request of RFC 1661: the code of the reply is the paper's for its verdict (5.2 to 5.4).
-- Assumes nothing.
use Prim.Native.Nat.{ℕ, ◌+◌, ◌≤◌, ◌<◌}
use mathlib.Core.Path.{◌≡◌, refl, ap, subst, ◌∙◌}
use mathlib.Core.Bool.{true, false, cond, false≢true}
use mathlib.Core.List.{List, [], ◌∷◌}
use borrow.Author.Tests.{le-ltb}
use native.Mathlib.Omega.{arith}
use lib.ListN.{length, length-take}
use Rattle.std.specs.Prelude.{Result, Ok, Err}
use Rattle.laws.proofs.Cases.{cond_by}
use Rattle.options.specs.declared.proto.Proto.{Proto}
use Rattle.options.specs.declared.proto.Proto.TheVariants.{Lcp, Ipv4cp}
use Rattle.options.specs.declared.proto.Verdict.{Verdict}
use Rattle.options.specs.declared.proto.Verdict.TheVariants.{Ack, Nack, Rej}
use Rattle.options.specs.declared.refusal.Refusal.{Refusal}
use Rattle.negotiation.specs.declared.option_fsm.OptionFsm.{OptionFsm}
use Rattle.papers.specs.Rfc1661.{Carried, configure_request, configure_ack, configure_nak, configure_reject, Option, Options}
use Rattle.options.specs.Refusal.{is_done}
use Rattle.options.specs.Wire.{packet_of, content_of}
use Rattle.options.specs.Options.{walk_of}
use Rattle.options.specs.Proto.{protocol_of, start_of, suggestion_of}
use Rattle.options.proofs.Fair.{length_packet, fair_answer}
use Rattle.negotiation.specs.Messages.{next_id, request_bytes, code_of, reply_bytes}
use Rattle.negotiation.specs.Automaton.{is_closed, is_opened, requested, unless, req_with, req_of, act_of, handle_of, Reaction, replied_of}
use Rattle.options.proofs.Suggesting.{start_suggestion}
use Rattle.papers.proofs.Packets.{Sent}
use Rattle.papers.proofs.Verdicts.{lcp_verdict, verdict_of, judged_all}
use Rattle.papers.proofs.Listed.{answers, Top}
use Rattle.papers.proofs.Answers.{reply_to, reply_top, reply_options, reply_proto, reply_ack}
use Rattle.papers.proofs.Sending.{number_for, number_kind, sent_by_lem}
use Rattle.papers.proofs.Judging.{by_code, data_of}

abbrev pub answer_code : Verdict → ℕ
answer_code Ack = configure_ack
answer_code Nack = configure_nak
answer_code Rej = configure_reject

answer_code_lem : (p : Proto) (v : Verdict) (i : ℕ) (d : List ℕ) → i < 256 → length d + 4 < 65536
    → Sent (packet_of (protocol_of p) (code_of v) i d) (number_for p) (answer_code v) i d
answer_code_lem p Ack i d h k = sent_by_lem p configure_ack i d (omega arith) h k
answer_code_lem p Nack i d h k = sent_by_lem p configure_nak i d (omega arith) h k
answer_code_lem p Rej i d h k = sent_by_lem p configure_reject i d (omega arith) h k

-- what f sends and leaves for the options os, laid out in request, that came with the id i
pub record Replied (f : OptionFsm Proto) (i : ℕ) (request : List ℕ) (os : List Option) (t : Reaction) : Type 0 where
  pub verdict : Verdict
  pub info : List ℕ
  pub bytes : List ℕ
  -- the options whose verdict is the reply's, and no option has a higher one
  pub packet : Sent bytes (number_for f.proto) (answer_code verdict) i info
  pub listed : Options info (answers (verdict_of f.proto) (suggestion_of f.proto) verdict os)
  pub top : Top (verdict_of f.proto) verdict os
  -- an Ack is the request's bytes
  pub acked : verdict ≡ Ack → info ≡ request
  -- what the options change
  pub proto : t.fsm.proto ≡ judged_all (start_of f.proto) os
  -- from Opened an own request follows
  pub sent : t.sent ≡ bytes ∷ cond (is_opened f.state) (request_bytes t.fsm.proto (next_id f.id) ∷ []) []

pub done_with : (o : Result Unit Refusal) (f : OptionFsm Proto) (t : Reaction) → is_done (unless o f t).outcome ≡ true → o ≡ Ok tt
done_with (Ok tt) f t d = refl
done_with (Err why) f t d = absurd (false≢true d)

start_verdict : (p : Proto) → verdict_of (start_of p) ≡ verdict_of p
start_verdict (Lcp p) = ap lcp_verdict (start_suggestion (Lcp p))
start_verdict (Ipv4cp p) = refl

module _ (f : OptionFsm Proto) (i : ℕ) (b : i < 256) {request : List ℕ} {os : List Option} (l : Options request os)
    (e : (reply_to (start_of f.proto) request).outcome ≡ Ok tt) where
  replied : Replied f i request os (replied_of f i (reply_to (start_of f.proto) request))
  unfolding requested
  replied =
      let q = start_of f.proto in
      let r = reply_to q request in
      let d : is_done r.outcome ≡ true = rw e refl in
      let v = start_verdict f.proto in
      let fair = fair_answer f.proto (walk_of request) in
      let n : length (content_of r.packet) + 4 < 65536 =
      omega (arith, length-take r.packet.len r.packet.bytes, fair.ready.most, fair.ready.room) in
      let x = answer_code_lem r.proto r.verdict i (content_of r.packet) b n in
      let made : (t : Reaction) → t.fsm.proto ≡ r.proto
      → t.sent ≡ reply_bytes i r ∷ cond (is_opened f.state) (request_bytes r.proto (next_id f.id) ∷ []) []
      → Replied f i request os t = λ t y z.
      record {
        verdict = r.verdict;
        info = content_of r.packet;
        bytes = reply_bytes i r;
        packet = subst (λ (m : ℕ). Sent (reply_bytes i r) m (answer_code r.verdict) i (content_of r.packet)) (number_kind r.proto f.proto fair.kind) x;
        listed = rw (v, start_suggestion f.proto) at (reply_options q l d);
        top = rw v at (reply_top q l d);
        acked = reply_ack q l d;
        proto = y ∙ reply_proto q l d;
        sent = rw y z;
      } in
      cond_by (Replied f i request os) (is_opened f.state) (λ o. made _ refl (rw o refl)) (λ o. made _ refl (rw o refl))

module _ (f : OptionFsm Proto) (n : is_closed f.state ≡ false) {bytes request : List ℕ} {p i : ℕ} (k : Carried bytes p configure_request i request) where
  pub by_request : handle_of f bytes ≡ req_with f i (reply_to (start_of f.proto) request)
  unfolding act_of req_of
  by_request =
      let h : 6 ≤ length (packet_of p configure_request i request) = omega (arith, length_packet p configure_request i request) in
      by_code f k ∙ rw (n, le-ltb _ _ h, data_of p configure_request i request) refl

  pub request-done : is_done (handle_of f bytes).outcome ≡ true → (reply_to (start_of f.proto) request).outcome ≡ Ok tt
  unfolding req_with
  request-done d = done_with (reply_to (start_of f.proto) request).outcome f _ (rw by_request at d)

  pub takes-request : {os : List Option} → Options request os → is_done (handle_of f bytes).outcome ≡ true → Replied f i request os (handle_of f bytes)
  unfolding req_with
  takes-request l d =
      let e = request-done d in
      rw (by_request, e) (replied f i k.packet.id_octet l e)

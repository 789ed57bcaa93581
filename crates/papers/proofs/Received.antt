-- Whatever bytes arrive: where the code goes on with them and refuses nothing, they are the paper's packet with the paper's list of
-- options, and it is answered and taken up as such; each packet that is sent is the paper's.
-- Assumes nothing.
use Prim.Native.Nat.{ℕ}
use mathlib.Core.Path.{◌≡◌, refl, sym, subst, ◌∙◌}
use mathlib.Core.Bool.{Bool, true, false}
use mathlib.Core.List.{List, []}
use native.Mathlib.Omega.{arith}
use lib.ListN.{get_or}
use Rattle.std.specs.Prelude.{Ok}
use Rattle.laws.specs.Each.{Bytes}
use Rattle.options.specs.declared.proto.Proto.{Proto}
use Rattle.negotiation.specs.declared.option_fsm.OptionFsm.{OptionFsm}
use Rattle.papers.specs.Rfc1661.{Carried, configure_request, configure_nak, configure_reject, Option, Options}
use Rattle.options.specs.Refusal.{is_done}
use Rattle.options.specs.Wire.{protocol_in}
use Rattle.options.specs.Options.{walk_of}
use Rattle.options.specs.Proto.{start_of, nacks_of}
use Rattle.options.specs.Reply.{fresh_reply}
use Rattle.negotiation.specs.Messages.{next_id, request_bytes}
use Rattle.negotiation.specs.Automaton.{is_closed, requested, after_nacked, nack_with, handle_of}
use Rattle.papers.proofs.Reading.{Readable, reads_packet, data_in, data_bytes}
use Rattle.papers.proofs.Walked.{options_in, whole_options, is_whole}
use Rattle.papers.proofs.Answers.{reply_whole, nacks_whole}
use Rattle.papers.proofs.Sending.{Fits, Requests, requests}
use Rattle.papers.proofs.Judging.{taken_up, by_nak, by_reject, takes_nak, takes-reject}
use Rattle.papers.proofs.Replying.{Replied, done_with, request-done, takes-request}
use Rattle.papers.proofs.Fitting.{values_bytes, fits_taken, fits_asked}

-- the options that the code reads
abbrev pub options_of : List ℕ → List Option
options_of s = options_in (walk_of (data_in s))

-- a Nak's or a Reject's list, taken up, and the request that follows
pub record TakenUp (f : OptionFsm Proto) (rej : Bool) (s : List ℕ) : Type 0 where
  pub turn : handle_of f s ≡ requested (after_nacked f (taken_up rej f.proto (options_of s))) []
  pub asks : Requests (taken_up rej f.proto (options_of s)) (next_id f.id) (request_bytes (taken_up rej f.proto (options_of s)) (next_id f.id))

-- a Configure-Request's list, answered, and the request that may follow
pub record Told (f : OptionFsm Proto) (s : List ℕ) : Type 0 where
  pub replied : Replied f (get_or s 3 0) (data_in s) (options_of s) (handle_of f s)
  pub fits : Fits (handle_of f s).fsm.proto

module _ (f : OptionFsm Proto) (n : is_closed f.state ≡ false) (h : Fits f.proto) {s : List ℕ} (b : Bytes s) (r : Readable s)
    (d : is_done (handle_of f s).outcome ≡ true) where
  coded : {c : ℕ} → get_or s 2 0 ≡ c → Carried s (protocol_in s) c (get_or s 3 0) (data_in s)
  coded e = subst (λ (c : ℕ). Carried s (protocol_in s) c (get_or s 3 0) (data_in s)) e (reads_packet s b r).carried

  listed : is_whole (walk_of (data_in s)) ≡ true → Options (data_in s) (options_of s)
  listed w = whole_options (data_in s) (data_bytes (reads_packet s b r).carried b) w

  pub received-request : get_or s 2 0 ≡ configure_request → Told f s
  received-request e =
      let k = coded e in
      let w = reply_whole (fresh_reply (start_of f.proto)) (walk_of (data_in s)) (rw (request-done f n k d) refl) in
      let x = takes-request f n k (listed w) d in
      record { replied = x; fits = rw x.proto (fits_asked f.proto (options_of s) h) }

  whole : (rej : Bool) → handle_of f s ≡ nack_with f (nacks_of rej f.proto (walk_of (data_in s))) → Options (data_in s) (options_of s)
  unfolding nack_with
  whole rej e =
      let o : (nacks_of rej f.proto (walk_of (data_in s))).outcome ≡ Ok tt = done_with _ f _ (rw e at d) in
      listed (sym (nacks_whole rej f.proto (walk_of (data_in s))) ∙ rw o refl)

  asks_on : (rej : Bool) → Options (data_in s) (options_of s) → handle_of f s ≡ requested (after_nacked f (taken_up rej f.proto (options_of s))) []
      → TakenUp f rej s
  asks_on rej l t =
      let v = values_bytes l (data_bytes (reads_packet s b r).carried b) in
      record { turn = t; asks = requests _ (next_id f.id) (omega arith) (fits_taken rej f.proto (options_of s) v h) }

  pub received_nak : get_or s 2 0 ≡ configure_nak → TakenUp f false s
  received_nak e =
      let k = coded e in
      let l = whole false (by_nak f n k) in
      asks_on false l (takes_nak f n k l)

  pub received-reject : get_or s 2 0 ≡ configure_reject → TakenUp f true s
  received-reject e =
      let k = coded e in
      let l = whole true (by_reject f n k) in
      asks_on true l (takes-reject f n k l)

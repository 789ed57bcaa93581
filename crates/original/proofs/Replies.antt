-- received_configure_req of option_fsm.rs lists what our reply lists, for any protocol that stands for one of ours.
-- Assumes nothing.
use mathlib.Core.Path.{◌≡◌, refl, ap, sym, ◌∙◌}
use mathlib.Core.Bool.{Bool, cond}
use mathlib.Core.List.{List, [], ◌∷◌, ◌++◌}
use Prim.Native.Nat.{ℕ, ◌+◌, ◌*◌, ◌≤◌, ◌<◌}
use native.Mathlib.Omega.{arith}
use borrow.Author.Tests.{lt-ltb, le-ltb, le-leb, lt-leb, eq-eqb, ne_eqb}
use lib.Dec.{lit≤}
use lib.ListN.{length, length-append}
use Rattle.std.specs.Prelude.{Ok}
use Rattle.laws.specs.Each.{Bytes}
use Rattle.laws.proofs.Cases.{by_le}
use Rattle.options.specs.Refusal.{is_done}
use Rattle.options.specs.Wire.{pkt_of, content_of}
use Rattle.options.specs.Options.{Walk, done, cut, opt, opt_bytes, sent_back}
use Rattle.options.specs.Proto.{protocol_of, start_of, judge_of, own_of, own_nacked, nacks_of, suggestion_of}
use Rattle.options.specs.Reply.{rank_of, listed_of, step_of, reply_of}
use Rattle.negotiation.specs.Messages.{code_of}
use Rattle.options.specs.declared.refusal.Refusal.TheVariants.{OptionCut, OptionLong, OptionsMany}
use Rattle.options.specs.declared.proto.Proto.{Proto}
use Rattle.options.specs.declared.proto.Verdict as verdict
use Rattle.options.specs.declared.proto.Nacked.{Nacked}
use Rattle.options.specs.declared.walk.Reply.{Reply}
use Rattle.options.proofs.Suggesting.{suggestion_bytes}
use Rattle.options.proofs.Wires.{content_pkt}
use Rattle.options.proofs.Replying.{listed_lower, listed_long, listed_higher, listed_many, listed_more}
use Rattle.original.specs.Run.{Place, Run, returns, panics, ◌>>=◌, unwrap, options_cut}
use Rattle.original.specs.Wire.{protocol_number, OptionVal}
use Rattle.original.specs.Fsm.{Verdict, Ack, Nack, Rej, Protocol, Answer, ret_of, rank_option, peer_option, push_own, nack_option}
use Rattle.original.specs.Panics.{RefusedAt}
use Rattle.original.proofs.Refused.{refused_at}
use Rattle.original.proofs.Walk.{over, ByteWalk}
use Rattle.original.proofs.Packets.{Lists, lists_none, lists_more}

-- ---- a protocol of the original that stands for one of ours

-- a verdict where s is suggested
abbrev pub view_verdict : List ℕ → verdict.Verdict → Verdict
view_verdict s verdict.TheVariants.Ack = Ack
view_verdict s verdict.TheVariants.Nack = Nack s
view_verdict s verdict.TheVariants.Rej = Rej

-- an own request's options
pub record Own {P : Type 0} (T : Protocol P) (p : P) (l : List ℕ) : Type 0 where
  pub opts : List OptionVal
  pub pushed : push_own T [] (T.own_options p) ≡ returns opts
  pub lists : Lists opts l

-- X is Lcp or Ipv4cp of ours, and inj makes the case of Proto that it is
pub record Stands {X P : Type 0} (T : Protocol P) (inj : X → Proto) (view : X → P) : Type 0 where
  pub number : (x : X) → protocol_number T.protocol ≡ protocol_of (inj x)
  pub own : (x : X) → Own T (view x) (own_of (inj x))
  pub started : X → X
  pub start_ours : (x : X) → start_of (inj x) ≡ inj (started x)
  pub start_theirs : (x : X) → T.peer_options_start (view x) ≡ view (started x)
  pub verdict : X → ℕ → List ℕ → verdict.Verdict
  pub judged : X → ℕ → List ℕ → X
  pub judge_ours : (x : X) (c : ℕ) (d : List ℕ) → judge_of (inj x) c d ≡ record { verdict = verdict x c d; proto = inj (judged x c d) }
  pub judge_theirs : (x : X) (c : ℕ) (d : List ℕ) → T.peer_option_received (view x) c d ≡ (view_verdict (suggestion_of (inj x)) (verdict x c d), view (judged x c d))
  pub nacked : X → ℕ → List ℕ → Bool → X
  pub nack_ours : (x : X) (c : ℕ) (d : List ℕ) (rej : Bool) → own_nacked (inj x) c d rej ≡ inj (nacked x c d rej)
  pub nack_theirs : (x : X) (c : ℕ) (d : List ℕ) (rej : Bool) → T.own_option_nacked (view x) c d rej ≡ view (nacked x c d rej)

-- ---- an answer under way

code_rank : (v : verdict.Verdict) → code_of v ≡ rank_of v + 2
code_rank verdict.TheVariants.Ack = refl
code_rank verdict.TheVariants.Nack = refl
code_rank verdict.TheVariants.Rej = refl

module _ {X P : Type 0} (T : Protocol P) (inj : X → Proto) (view : X → P) (stands : Stands T inj view) where
  -- the two answers are one, over x
  pub record SameReply (a : Answer P) (r : Reply) : Type 0 where
    pub x : X
    pub proto : a.proto ≡ view x
    pub case : r.proto ≡ inj x
    pub code : a.code ≡ code_of r.verdict
    pub count : length a.opts ≡ r.count
    pub lists : Lists a.opts (content_of r.packet)
    pub going : r.outcome ≡ Ok tt
    pub most : length a.opts ≤ 6
    pub room : length (content_of r.packet) ≤ 6 * length a.opts

  -- one option, or all of them, unwrapped: both go on, or the original panics where ours refuses
  pub data SameAnswer : Run (Answer P) → Reply → Type 0 where
    on : {a : Answer P} {r : Reply} → SameReply a r → SameAnswer (returns a) r
    off : {p : Place} {r : Reply} → RefusedAt p r.outcome → SameAnswer (panics p) r

  theirs_ret : (s : List ℕ) (v : verdict.Verdict) (d : List ℕ) → ret_of T (view_verdict s v) d ≡ (rank_of v + 2, sent_back v d s)
  theirs_ret s verdict.TheVariants.Ack d = refl
  theirs_ret s verdict.TheVariants.Nack d = refl
  theirs_ret s verdict.TheVariants.Rej d = refl

  back_bytes : (s : List ℕ) (v : verdict.Verdict) (d : List ℕ) → Bytes s → Bytes d → Bytes (sent_back v d s)
  back_bytes s verdict.TheVariants.Ack d k h = h
  back_bytes s verdict.TheVariants.Nack d k h = k
  back_bytes s verdict.TheVariants.Rej d k h = h

  -- the protocol behind an option, and what was listed before
  abbrev kept : Answer P → X → Answer P
  kept a x = record { proto = view x; code = a.code; opts = a.opts }

  -- a verdict v on option c, with the value d to be sent back
  module _ (a : Answer P) (r : Reply) (same : SameReply a r) (x : X) (v : verdict.Verdict) (c : ℕ) (d : List ℕ) (small : c < 256) (bytes : Bytes d) where
    abbrev Goal : Type 0
    Goal = SameAnswer (rank_option T (kept a x) c (rank_of v + 2, d)) (listed_of r (inj x) v c d)

    code_is : a.code ≡ rank_of r.verdict + 2
    code_is = same.code ∙ code_rank r.verdict

    lower : rank_of v < rank_of r.verdict → Goal
    lower h =
        rw (listed_lower r (inj x) v c d h, code_is, le-ltb (rank_of r.verdict + 2) (rank_of v + 2) (omega arith), ne_eqb (rank_of r.verdict + 2) (rank_of v + 2) (λ e. omega arith))
        (on (record { x = x; proto = refl; case = refl; code = sym (code_rank r.verdict); count = same.count; lists = same.lists; going = same.going; most = same.most; room = same.room }))

    long : rank_of r.verdict ≤ rank_of v → 4 < length d → Goal
    long h l =
        rw (listed_long r (inj x) v c d h l, code_is, lt-ltb 4 (length d) l)
        (by_le (rank_of v) (rank_of r.verdict)
        (λ k. rw (le-ltb (rank_of r.verdict + 2) (rank_of v + 2) (omega arith), eq-eqb (rank_of r.verdict + 2) (rank_of v + 2) (omega arith)) (off (refused_at OptionLong refl)))
        (λ k. rw (lt-ltb (rank_of r.verdict + 2) (rank_of v + 2) (omega arith)) (off (refused_at OptionLong refl))))

    higher : rank_of r.verdict < rank_of v → length d ≤ 4 → Goal
    higher h l =
        let more : Lists (record { code = c; value = d } ∷ []) (content_of (pkt_of (opt_bytes c d))) = rw content_pkt (lists_more c d lists_none small bytes l) in
        let fits : length (content_of (pkt_of (opt_bytes c d))) ≤ 6 = rw content_pkt (omega arith) in
        rw (listed_higher r (inj x) v c d h l, code_is, lt-ltb (rank_of r.verdict + 2) (rank_of v + 2) (omega arith), le-ltb 4 (length d) l)
        (on (record { x = x; proto = refl; case = refl; code = sym (code_rank v); count = refl; lists = more; going = refl; most = lit≤ tt; room = fits }))

    equal : rank_of r.verdict ≡ rank_of v → length d ≤ 4 → Goal
    equal h l =
        let longer = content_of r.packet ++ opt_bytes c d in
        let more : Lists (a.opts ++ (record { code = c; value = d } ∷ [])) (content_of (pkt_of longer)) = rw content_pkt (lists_more c d same.lists small bytes l) in
        let size : length (a.opts ++ (record { code = c; value = d } ∷ [])) ≡ r.count + 1 = rw (length-append, same.count) refl in
        let fits : length (content_of (pkt_of longer)) ≤ 6 * length (a.opts ++ (record { code = c; value = d } ∷ [])) = rw (content_pkt longer, length-append (content_of r.packet) (opt_bytes c d), size) (omega (arith, same.count, same.room)) in
        let same_code : rank_of r.verdict + 2 ≡ code_of v = rw h (sym (code_rank v)) in
        rw (code_is, le-ltb (rank_of r.verdict + 2) (rank_of v + 2) (omega arith), eq-eqb (rank_of r.verdict + 2) (rank_of v + 2) (omega arith), le-ltb 4 (length d) l)
        (by_le 6 r.count
        (λ k. rw (listed_many r (inj x) v c d h l k, same.count, le-leb 6 r.count k) (off (refused_at OptionsMany refl)))
        (λ k. rw (listed_more r (inj x) v c d h l k, same.count, lt-leb 6 r.count k)
        (on (record { x = x; proto = refl; case = refl; code = same_code; count = size; lists = more; going = refl; most = omega (arith, same.count); room = fits }))))

    listed_same : Goal
    listed_same =
        by_le (rank_of r.verdict) (rank_of v)
        (λ h. by_le (length d) 4 (λ l. by_le (rank_of v) (rank_of r.verdict) (λ k. equal (omega arith) l) (λ k. higher k l)) (λ l. long h l))
        lower

  step_same : (a : Answer P) (r : Reply) (c : ℕ) (d : List ℕ) → SameReply a r → c < 256 → Bytes d → SameAnswer (peer_option T a c d) (step_of r c d)
  unfolding peer_option step_of
  step_same a r c d same small bytes =
      let x = same.x in
      let v = stands.verdict x c d in
      let theirs = ap (λ (p : P). T.peer_option_received p c d) same.proto ∙ stands.judge_theirs x c d in
      let s = suggestion_of (inj x) in
      let here = ap (λ (p : Proto). judge_of p c d) same.case ∙ stands.judge_ours x c d in
      rw (theirs, here, ap suggestion_of same.case, theirs_ret s v d)
      (listed_same a r same (stands.judged x c d) v c (sent_back v d s) small (back_bytes s v d (suggestion_bytes (inj x)) bytes))

  pub reply_same : (a : Answer P) (r : Reply) (w : Walk) → SameReply a r → ByteWalk w → SameAnswer (over (peer_option T) a w >>= unwrap options_cut) (reply_of r w)
  unfolding reply_of
  reply_same a r done same b = on same
  reply_same a r (cut at) same b = off (refused_at (OptionCut at) refl)
  reply_same a r (opt c d w) same b = go (peer_option T a c d) (step_of r c d) (step_same a r c d same b.0 b.1) (λ a' r' k. reply_same a' r' w k b.2)
    where
      go : (t : Run (Answer P)) (s : Reply) → SameAnswer t s → ((a' : Answer P) (r' : Reply) → SameReply a' r' → SameAnswer (over (peer_option T) a' w >>= unwrap options_cut) (reply_of r' w))
          → SameAnswer ((t >>= λ a'. over (peer_option T) a' w) >>= unwrap options_cut) (cond (is_done s.outcome) (reply_of s w) s)
      go (returns a') s (on k) ih = rw (ap is_done k.going) (ih a' s k)
      go (panics p) s (off f) ih = rw (ap is_done f.outcome) (off f)

  -- ---- the options of a Nack or a Rej

  pub data SameNacks : Run P → Nacked → Type 0 where
    nacked : (x : X) {n : Nacked} → n ≡ record { outcome = Ok tt; proto = inj x } → SameNacks (returns (view x)) n
    refused : {p : Place} {n : Nacked} → RefusedAt p n.outcome → SameNacks (panics p) n

  pub nacks_same : (rej : Bool) (x : X) (w : Walk) → SameNacks (over (nack_option T rej) (view x) w >>= unwrap options_cut) (nacks_of rej (inj x) w)
  unfolding nacks_of
  nacks_same rej x done = nacked x refl
  nacks_same rej x (cut at) = refused (refused_at (OptionCut at) refl)
  nacks_same rej x (opt c d w) = rw (stands.nack_theirs x c d rej, stands.nack_ours x c d rej) (nacks_same rej (stands.nacked x c d rej) w)

-- Laws of the reply to a request: the five cases of an option that is listed, and the four ways on through the options.
-- Assumes nothing.
use Prim.Native.Nat.{ℕ, ◌+◌, ◌-◌, ◌≤◌, ◌<◌}
use mathlib.Core.Path.{◌≡◌, refl, sym, ◌∙◌}
use mathlib.Core.Bool.{Bool, true, false}
use lib.Dec.{ltb}
use mathlib.Core.List.{List, ◌++◌}
use borrow.Author.Tests.{ltb-true, ltb-false, lt-ltb, le-ltb, le-leb, lt-leb}
use native.Mathlib.Omega.{arith}
use lib.ListN.{length, take, drop}
use Rattle.std.specs.Prelude.{None, Some, Result, Ok, Err}
use Rattle.std.specs.Result.{is_err}
use Rattle.options.specs.declared.walk.Head.{Head}
use Rattle.options.specs.declared.walk.Reply.{Reply}
use Rattle.options.specs.declared.proto.Judged.{Judged}
use Rattle.options.specs.declared.proto.Proto.{Proto}
use Rattle.options.specs.declared.proto.Verdict.{Verdict}
use Rattle.options.specs.declared.refusal.Refusal.{Refusal}
use Rattle.options.specs.declared.refusal.Refusal.TheVariants.{OptionCut, OptionLong, OptionsMany}
use Rattle.options.specs.declared.wire.Packet.{Packet}
use Rattle.options.specs.Refusal.{is_done}
use Rattle.options.specs.Wire.{pkt_of, content_of}
use Rattle.options.specs.Options.{max_options, max_option_len, option_of, opt_bytes, sent_back}
use Rattle.options.specs.Proto.{suggestion_of, judge_of}
use Rattle.options.specs.Reply.{rank_of, refused_by, with_proto, listing, listed_of, step_of, reply_of, Ready}
use Rattle.options.proofs.Walks.{walk_last, last_done, last_cut, last_opt}

pub is_lower : {t : Bool} (v w : Verdict) → t ≡ ltb (rank_of v) (rank_of w) → t ≡ true → rank_of v < rank_of w
is_lower v w e h = ltb-true (rank_of v) (rank_of w) (sym e ∙ h)

pub not_lower : {t : Bool} (v w : Verdict) → t ≡ ltb (rank_of v) (rank_of w) → t ≡ false → rank_of w ≤ rank_of v
not_lower v w e h = ltb-false (rank_of v) (rank_of w) (sym e ∙ h)

pub same_rank : {t u : Bool} (v w : Verdict) → t ≡ ltb (rank_of v) (rank_of w) → t ≡ false → u ≡ ltb (rank_of w) (rank_of v) → u ≡ false
    → rank_of w ≡ rank_of v
same_rank v w e h f k = let l = not_lower v w e h in let m = not_lower w v f k in omega arith

module _ (r : Reply) (p : Proto) (v : Verdict) (c : ℕ) (d : List ℕ) where
  pub listed_lower : rank_of v < rank_of r.verdict → listed_of r p v c d ≡ with_proto r p
  unfolding listed_of
  listed_lower h = rw (lt-ltb _ _ h) refl

  pub listed_long : rank_of r.verdict ≤ rank_of v → max_option_len < length d → listed_of r p v c d ≡ refused_by r OptionLong
  unfolding listed_of
  listed_long h l = rw (le-ltb _ _ h, lt-ltb _ _ l) refl

  pub listed_higher : rank_of r.verdict < rank_of v → length d ≤ max_option_len → listed_of r p v c d ≡ listing v 1 (opt_bytes c d) p
  unfolding listed_of
  listed_higher h l =
      let k : rank_of r.verdict ≤ rank_of v = omega arith in
      rw (le-ltb _ _ k, le-ltb _ _ l, lt-ltb _ _ h) refl

  pub listed_many : rank_of r.verdict ≡ rank_of v → length d ≤ max_option_len → max_options ≤ r.count → listed_of r p v c d ≡ refused_by r OptionsMany
  unfolding listed_of
  listed_many h l m =
      let j : rank_of r.verdict ≤ rank_of v = omega arith in
      let k : rank_of v ≤ rank_of r.verdict = omega arith in
      rw (le-ltb _ _ j, le-ltb _ _ l, le-ltb _ _ k, le-leb _ _ m) refl

  pub listed_more : rank_of r.verdict ≡ rank_of v → length d ≤ max_option_len → r.count < max_options
      → listed_of r p v c d ≡ listing v (r.count + 1) (content_of r.packet ++ opt_bytes c d) p
  unfolding listed_of
  listed_more h l m =
      let j : rank_of r.verdict ≤ rank_of v = omega arith in
      let k : rank_of v ≤ rank_of r.verdict = omega arith in
      rw (le-ltb _ _ j, le-ltb _ _ l, le-ltb _ _ k, lt-leb _ _ m) refl

-- a reply as the code builds it, from what its packet is
pub listing_of : (v : Verdict) (n : ℕ) (l : List ℕ) (p : Proto) {b : Packet} → b ≡ pkt_of l
    → record { outcome = (listing v n l p).outcome; verdict = v; count = n; packet = b; proto = p } ≡ listing v n l p
listing_of v n l p e = rw e refl

-- one option: judged, its value chosen, listed; l is what is suggested
pub step_of_lem : (r s : Reply) (j : Judged Proto) (c : ℕ) (d l b : List ℕ) → l ≡ suggestion_of r.proto → j ≡ judge_of r.proto c d
    → b ≡ sent_back j.verdict d l → s ≡ listed_of r j.proto j.verdict c b → s ≡ step_of r c d
unfolding step_of
step_of_lem r s j c d l b h e f g = g ∙ rw (f, h, e) refl

-- a refusal leaves what it was given to hold
pub ready_refused : {r s : Reply} {why : Refusal} → Ready r → s ≡ refused_by r why → Ready s
ready_refused h e = rw e (record { tidy = h.tidy; most = h.most; room = h.room })

-- a step is refused where its outcome is an error
pub not_done : {t : Bool} (o : Result Unit Refusal) → t ≡ is_err o → t ≡ true → is_done o ≡ false
not_done (Ok x) e h = sym h ∙ e
not_done (Err r) e h = refl

pub done_on : {t : Bool} (o : Result Unit Refusal) → t ≡ is_err o → t ≡ false → is_done o ≡ true
done_on (Ok x) e h = refl
done_on (Err r) e h = sym h ∙ e

-- the four ways on from a reply r with the last options t of k bytes to come
module _ (r : Reply) (k : ℕ) (t : List ℕ) where
  pub reply_done : length t ≤ 0 → reply_of r (walk_last k t) ≡ r
  unfolding reply_of
  reply_done h = rw (last_done k t h) refl

  pub reply_cut : 0 < length t → option_of t ≡ None → reply_of r (walk_last k t) ≡ refused_by r (OptionCut (k - length t))
  unfolding reply_of
  reply_cut h e = rw (last_cut k t h e) refl

  module _ (s : Reply) (o : Head) (h : 0 < length t) (e : option_of t ≡ Some o) (l : length t ≤ k)
      (f : s ≡ step_of r o.code (take (o.len - 2) (drop 2 t))) where
    pub reply_stop : is_done s.outcome ≡ false → reply_of r (walk_last k t) ≡ s
    unfolding reply_of
    reply_stop g = rw (last_opt k t o h e l, ← f, g) refl

    pub reply_on : is_done s.outcome ≡ true → reply_of r (walk_last k t) ≡ reply_of s (walk_last k (take (length t - o.len) (drop o.len t)))
    unfolding reply_of
    reply_on g = rw (last_opt k t o h e l, ← f, g) refl

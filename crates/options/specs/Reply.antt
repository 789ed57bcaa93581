-- The reply to a ConfigureReq (document 01, 'Options'): Rej outranks Nack, Nack outranks Ack; a higher verdict clears the list, a
-- lower one is not listed; at most 6 options of 4 data bytes.
use Rattle.std.specs.Prelude.{cond, List, [], ◌++◌, ℕ, ◌+◌, ◌*◌, ◌≤◌, ltb, leb, length, Ok, Err}
use Rattle.options.specs.Refusal.{is_done}
use Rattle.options.specs.Wire.{pkt_of, content_of, Tidy}
use Rattle.options.specs.Options.{max_options, max_option_len, max_listed, Walk, done, cut, opt, opt_bytes, sent_back}
use Rattle.options.specs.Proto.{suggestion_of, judge_of}
use Rattle.options.specs.declared.refusal.Refusal.{Refusal}
use Rattle.options.specs.declared.refusal.Refusal.TheVariants.{OptionCut, OptionLong, OptionsMany}
use Rattle.options.specs.declared.proto.Proto.{Proto}
use Rattle.options.specs.declared.proto.Verdict.{Verdict}
use Rattle.options.specs.declared.proto.Verdict.TheVariants.{Ack, Nack, Rej}
use Rattle.options.specs.declared.proto.Judged.{Judged}
use Rattle.options.specs.declared.walk.Reply.{Reply}

abbrev pub rank_of : Verdict → ℕ
rank_of Ack = 0
rank_of Nack = 1
rank_of Rej = 2

abbrev pub fresh_reply : Proto → Reply
fresh_reply p = record { outcome = Ok tt; verdict = Ack; count = 0; packet = pkt_of []; proto = p }

abbrev pub refused_by : Reply → Refusal → Reply
refused_by r why = record { outcome = Err why; verdict = r.verdict; count = r.count; packet = r.packet; proto = r.proto }

abbrev pub with_proto : Reply → Proto → Reply
with_proto r p = record { outcome = r.outcome; verdict = r.verdict; count = r.count; packet = r.packet; proto = p }

abbrev pub listing : Verdict → ℕ → List ℕ → Proto → Reply
listing v n l p = record { outcome = Ok tt; verdict = v; count = n; packet = pkt_of l; proto = p }

-- a verdict v on option c, with the value d to be sent back: not listed, refused, alone in the list, or one more
unfoldable pub listed_of : Reply → Proto → Verdict → ℕ → List ℕ → Reply
listed_of r p v c d =
    cond (ltb (rank_of v) (rank_of r.verdict))
    (with_proto r p)
    (cond (ltb max_option_len (length d))
    (refused_by r OptionLong)
    (cond (ltb (rank_of r.verdict) (rank_of v))
    (listing v 1 (opt_bytes c d) p)
    (cond (leb max_options r.count)
    (refused_by r OptionsMany)
    (listing v (r.count + 1) (content_of r.packet ++ opt_bytes c d) p))))

abbrev pub step_with : Reply → Judged Proto → ℕ → List ℕ → Reply
step_with r j c d = listed_of r j.proto j.verdict c (sent_back j.verdict d (suggestion_of r.proto))

-- one option of the request; what is suggested is the record's in hand
unfoldable pub step_of : Reply → ℕ → List ℕ → Reply
step_of r c d = step_with r (judge_of r.proto c d) c d

-- all options of the request; the first that is refused ends the walk
unfoldable pub reply_of : Reply → Walk → Reply
reply_of r done = r
reply_of r (cut at) = refused_by r (OptionCut at)
reply_of r (opt c d w) = cond (is_done (step_of r c d).outcome) (reply_of (step_of r c d) w) (step_of r c d)

-- a reply whose packet has room for what may still be listed
pub record Ready (r : Reply) : Type 0 where
  pub tidy : Tidy r.packet
  pub most : r.count ≤ max_options
  pub room : r.packet.len ≤ max_listed * r.count

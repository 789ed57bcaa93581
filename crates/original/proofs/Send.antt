-- send of pppos/mod.rs is ours.
-- Assumes nothing.
use mathlib.Core.Path.{◌≡◌, refl, ap, sym, ◌∙◌}
use mathlib.Core.Bool.{Bool, true, false, cond}
use mathlib.Core.List.{List, [], ◌∷◌, ◌++◌, append_assoc}
use Prim.Native.Nat.{ℕ}
use lib.Dec.{lit<}
use lib.ListN.{length}
use Rattle.std.specs.Prelude.{Result, Ok, Err}
use Rattle.laws.specs.Be.{be_bytes}
use Rattle.laws.specs.Each.{Bytes}
use Rattle.laws.proofs.Cases.{by_test, cond_ap}
use Rattle.framing.specs.Refusal.{outcome_number, count_of}
use Rattle.framing.specs.Rfc1662.{fcs, frame}
use Rattle.framing.specs.Writer.{Out, write, Ran, units, start_units, finish_units, frame_units}
use Rattle.framing.specs.declared.refusal.Refusal.TheVariants.{BufferFull}
use Rattle.framing.proofs.Run.{run_then, run_stop, units-append}
use Rattle.framing.proofs.Frame.{frame-done, encodes}
use Rattle.link.specs.Link.{ip_frame, remote_map, Sends}
use Rattle.link.specs.declared.refusal.Refusal.{Refusal}
use Rattle.link.specs.declared.refusal.Refusal.TheVariants.{Framing}
use Rattle.link.specs.declared.pppos.PPPoS.{PPPoS}
use Rattle.original.specs.Framing.{FrameWriter, new_with_asyncmap, WriteResult, try, append, finish}
use Rattle.original.specs.Pppos.{send}
use Rattle.original.specs.View.{view_link}
use Rattle.original.specs.Same.{SameSend}
use Rattle.original.proofs.Writer.{start_is, append_is, finish_is}

-- what a writer's calls leave is what a run of units leaves
abbrev Ends : List (List ℕ) → List ℕ → ℕ → WriteResult → Type 0
Ends us buf at r = Ran us buf at r.writer.buf r.writer.len r.is_ok

-- a run as an answer, with a check value by whether it was done
abbrev ran : ℕ → (Bool → ℕ) → Out → WriteResult
ran m k o = record { is_ok = o.done; writer = record { buf = o.bytes; len = o.at; crc = k o.done; asyncmap = m } }

abbrev at_end : ℕ → ℕ → Out → FrameWriter
at_end m c o = record { buf = o.bytes; len = o.at; crc = c; asyncmap = m }

ran_try : (m : ℕ) (k : Bool → ℕ) (us vs : List (List ℕ)) (buf : List ℕ) (at : ℕ) (next : FrameWriter → WriteResult)
    → ((o : Out) → Ends vs o.bytes o.at (next (at_end m (k true) o))) → Ends (us ++ vs) buf at (try (ran m k (write us buf at)) next)
ran_try m k us vs buf at next h = go (write us buf at) refl
  where
    go : (o : Out) → write us buf at ≡ o → Ends (us ++ vs) buf at (try (ran m k o) next)
    go o e =
        let done : Ran us buf at o.bytes o.at o.done = record { same_bytes = cc; same_at = cc; same_done = cc } in
        by_test o.done (λ t. rw t (run_then done t (h o))) (λ t. let stop = rw t at (run_stop done t vs) in rw t stop)

same_counts : (t : Bool) (n k : ℕ) (why : Refusal) → cond t k 0 ≡ cond t n 0 → ◌≡◌ {A = Result ℕ Refusal} (cond t (Ok n) (Err why)) (cond t (Ok k) (Err why))
same_counts true n k why e = ap Ok (sym e)
same_counts false n k why e = refl

module _ (l : PPPoS) (pkt tx : List ℕ) (bytes : Bytes pkt) where
  abbrev m : ℕ
  m = remote_map l

  send_runs : Ends (frame_units m (ip_frame pkt)) tx 0 (send (view_link l) pkt tx)
  unfolding send be_bytes fcs
  send_runs =
      let head : List ℕ = 0x00 ∷ 0x21 ∷ [] in
      let c = fcs 0x3DE3 head in
      let last : FrameWriter → WriteResult = λ w. try (append w pkt) (λ w. finish w) in
      let rest : FrameWriter → WriteResult = λ w. try (append w head) last in
      let small : Bytes head = (lit< tt, (lit< tt, tt)) in
      rw (units-append m head pkt, append_assoc (units m head) (units m pkt) (finish_units m (fcs c pkt)), start_is (new_with_asyncmap tx m))
      (ran_try m (λ _. 0x3DE3) (start_units m) (units m head ++ (units m pkt ++ finish_units m (fcs c pkt))) tx 0 rest
      (λ o. rw (append_is (at_end m 0x3DE3 o) head small)
      (ran_try m (λ t. cond t c 0x3DE3) (units m head) (units m pkt ++ finish_units m (fcs c pkt)) o.bytes o.at last
      (λ o. rw (append_is (at_end m c o) pkt bytes)
      (ran_try m (λ t. cond t (fcs c pkt) c) (units m pkt) (finish_units m (fcs c pkt)) o.bytes o.at (λ w. finish w)
      (λ o. rw (finish_is (at_end m (fcs c pkt) o)) (record { same_bytes = refl; same_at = refl; same_done = refl })))))))

  pub same-send : {t : Result ℕ Refusal} {tx' : List ℕ} → Sends l pkt tx t tx' → SameSend (send (view_link l) pkt tx) t tx'
  same-send c =
      let r = send (view_link l) pkt tx in
      let done = frame-done m (ip_frame pkt) send_runs in
      let n = length (frame m (ip_frame pkt)) in
      let counted = cond_ap count_of r.is_ok (Ok r.writer.len) (Err BufferFull) in
      let e = encodes m (ip_frame pkt) send_runs {r = cond r.is_ok (Ok r.writer.len) (Err BufferFull)} (cond_ap outcome_number r.is_ok (Ok r.writer.len) (Err BufferFull)) counted in
      let same : cond r.is_ok r.writer.len 0 ≡ cond r.is_ok n 0 = sym counted ∙ e.lays.count ∙ ap (λ (t : Bool). cond t n 0) (sym done) in
      record {
        outcome = rw done c.outcome ∙ same_counts r.is_ok n r.writer.len (Framing BufferFull) same;
        count = c.lays.count ∙ sym e.lays.count ∙ counted;
        bytes = c.lays.bytes ∙ sym e.lays.bytes;
      }

-- handle of option_fsm.rs, whole: the echo, the arms in their order, and the packet that comes back.
-- Assumes nothing.
use mathlib.Core.Path.{◌≡◌, refl, sym, ◌∙◌}
use mathlib.Core.Bool.{Bool, true, false, cond, ◌||◌}
use mathlib.Core.List.{List, [], ◌∷◌, ◌++◌}
use Prim.Native.Nat.{ℕ, ◌+◌, ◌≤◌, ◌<◌}
use native.Mathlib.Omega.{arith}
use borrow.Author.Tests.{le-leb, lt-leb, ltb-true, ltb-false, eqb-true, ne_eqb}
use lib.Dec.{ltb, eqb, lit<, lit≤}
use lib.ListN.{length, take, drop, get_or, set, length-append, length-drop, length-take, take-append-drop}
use lib.Seq.{set-append_left, get_or-take}
use Rattle.laws.specs.Be.{be_bytes}
use Rattle.laws.specs.Each.{Bytes}
use Rattle.laws.proofs.Be.{length_be}
use Rattle.laws.proofs.Cases.{by_le, by_test, cond_both}
use Rattle.options.specs.Wire.{max_packet, length_field}
use Rattle.options.specs.Proto.{protocol_of}
use Rattle.negotiation.specs.Messages.{echo_bytes}
use Rattle.negotiation.specs.Automaton as ours
use Rattle.options.specs.declared.refusal.Refusal.TheVariants.{EchoEmpty}
use Rattle.options.specs.declared.proto.Proto.{Proto}
use Rattle.negotiation.specs.declared.states.State.{State}
use Rattle.negotiation.specs.declared.states.State.TheVariants.{Closed, ReqSent, AckReceived, AckSent, Opened}
use Rattle.original.specs.Run.{Run, ◌>>=◌}
use Rattle.original.specs.Wire.{Raw, packet_len, code_from}
use Rattle.original.specs.Fsm as theirs
use Rattle.original.specs.View.{view_state}
use Rattle.original.proofs.Bytes.{each_take, each_drop, each_get}
use Rattle.original.proofs.Frames.{Carries, none, more}
use Rattle.original.proofs.Packets.{bytes_be, bytes_append}
use Rattle.original.proofs.Refused.{refused_at}
use Rattle.original.proofs.Replies.{Stands}
use Rattle.original.proofs.Automaton.{here, there, SameTurn, same, long, stops, plain, term_same, on_ack, on_term, on_nack, on_req}

pub closed_is : (s : State) → theirs.is_closed (view_state s) ≡ ours.is_closed s
closed_is Closed = refl
closed_is ReqSent = refl
closed_is AckReceived = refl
closed_is AckSent = refl
closed_is Opened = refl

pub opened_is : (s : State) → theirs.is_opened (view_state s) ≡ ours.is_opened s
opened_is Closed = refl
opened_is ReqSent = refl
opened_is AckReceived = refl
opened_is AckSent = refl
opened_is Opened = refl

-- a code that has a name is told apart by its number
pub code_is : (c k : ℕ) → 0 < k → k ≤ 11 → eqb (code_from c) k ≡ eqb c k
code_is c k h l =
    by_le c 11 (λ m. rw (le-leb c 11 m) refl)
    (λ m. rw (lt-leb c 11 m, ne_eqb 0 k (λ e. omega arith), ne_eqb c k (λ e. omega arith)) refl)

-- an echo's packet, with its code put to 10
echo_part : (pkt : List ℕ) → 3 ≤ length pkt → drop 2 (set pkt 2 10) ≡ 10 ∷ drop 3 pkt
echo_part [] h = absurd (omega arith)
echo_part (a ∷ []) h = absurd (omega arith)
echo_part (a ∷ b ∷ []) h = absurd (omega arith)
echo_part (a ∷ b ∷ c ∷ pkt) h = refl

module _ {X P : Type 0} (T : theirs.Protocol P) (inj : X → Proto) (view : X → P) (stands : Stands T inj view) where
  abbrev pub Same : List ℕ → Run (theirs.Handled P) → ours.Reaction → Type 0
  Same = SameTurn T inj view stands

  module _ (pkt : List ℕ) (bytes : Bytes pkt) where
    echo_carries : (x : X) → 3 ≤ length pkt → Carries (theirs.packet_of T (Raw (drop 2 (set pkt 2 10)))) (echo_bytes (inj x) pkt)
    echo_carries x h =
        let k = be_bytes 2 (protocol_of (inj x)) in
        record {
          is = rw (stands.number x, echo_part pkt h) refl;
          len = rw (echo_part pkt h, length-append k (10 ∷ drop 3 pkt), length_be 2 (protocol_of (inj x))) refl;
          bytes = bytes_append k (10 ∷ drop 3 pkt) (bytes_be 2 (protocol_of (inj x))) (lit< tt, each_drop (λ b. b < 256) 3 pkt bytes);
        }

    echo-same : (i : ℕ) (s : State) (x : X) → i < 256
        → Same pkt (cond (theirs.is_opened (view_state s)) (theirs.send_echo_response T (there T inj view stands i s x) pkt) (theirs.handled T (there T inj view stands i s x) pkt [])) (ours.echo_of (here T inj view stands i s x) pkt)
    unfolding ours.echo_of ours.ignore_of
    echo-same i s x small =
        cond_both (Same pkt) (opened_is s)
        (λ _. cond_both (Same pkt) {t = ltb (length pkt) 3} refl (λ _. stops (refused_at EchoEmpty refl))
        (λ u. let h = ltb-false (length pkt) 3 u in
        let q = theirs.packet_of T (Raw (drop 2 (set pkt 2 10))) in
        let size : packet_len q ≡ length pkt = rw (echo_part pkt h) (omega (arith, length-drop 3 pkt)) in
        by_test (ltb max_packet (length pkt))
        (λ v. rw v (long q refl (omega (arith, size, ltb-true max_packet (length pkt) v)) refl))
        (λ v. rw v (same i s x small refl refl refl refl (λ _. omega arith) (more (echo_carries x h) none)))))
        (λ _. plain T inj view stands pkt i s x small none)

    act_same : (i c j : ℕ) (s : State) (x : X) → i < 256 → j < 256 → (6 ≤ length pkt → get_or pkt 3 0 ≡ j)
        → Same pkt (theirs.act_on T (there T inj view stands i s x) (code_from c) j pkt) (ours.act_of (here T inj view stands i s x) c j pkt)
    unfolding theirs.act_on ours.act_of ours.ignore_of
    act_same i c j s x small small' third =
        cond_both (Same pkt) (code_is c 9 (lit< tt) (lit≤ tt)) (λ _. echo-same i s x small)
        (λ _. cond_both (Same pkt) (code_is c 11 (lit< tt) (lit≤ tt)) (λ _. ignored)
        (λ _. cond_both (Same pkt) (closed_is s) (λ _. term_same T inj view stands pkt i j s x small small')
        (λ t. let live = sym (closed_is s) ∙ t in
        cond_both (Same pkt) (code_is c 1 (lit< tt) (lit≤ tt)) (λ _. on_req T inj view stands pkt i j s x small small' live bytes third)
        (λ _. cond_both (Same pkt) (code_is c 2 (lit< tt) (lit≤ tt)) (λ _. on_ack T inj view stands pkt i s x small)
        (λ _. nacks live (eqb (code_from c) 3) (eqb (code_from c) 4) (code_is c 3 (lit< tt) (lit≤ tt)) (code_is c 4 (lit< tt) (lit≤ tt))
        (cond_both (Same pkt) (code_is c 5 (lit< tt) (lit≤ tt)) (λ _. on_term T inj view stands pkt i j s x small small' live) (λ _. ignored)))))))
      where
        ignored : Same pkt (theirs.handled T (there T inj view stands i s x) pkt []) (ours.reacts (here T inj view stands i s x) [])
        ignored = plain T inj view stands pkt i s x small none

        nacks : ours.is_closed s ≡ false → (t u : Bool) → t ≡ eqb c 3 → u ≡ eqb c 4 → {a : Run (theirs.Handled P)} {b : ours.Reaction} → Same pkt a b
            → Same pkt (cond (t || u) (theirs.on_configure_nack T (there T inj view stands i s x) u pkt) a)
            (cond (eqb c 3) (ours.nack_of (here T inj view stands i s x) false pkt) (cond (eqb c 4) (ours.nack_of (here T inj view stands i s x) true pkt) b))
        nacks live true u e f k =
            let z : u ≡ false = f ∙ rw (eqb-true c 3 (sym e)) refl in
            rw (← e, z) (on_nack T inj view stands pkt i s x false live)
        nacks live false true e f k = rw (← e, ← f) (on_nack T inj view stands pkt i s x true live)
        nacks live false false e f k = rw (← e, ← f) k

  -- what lies behind the Length stays
  back_same : (n : ℕ) (pkt : List ℕ) (r : Run (theirs.Handled P)) (t : ours.Reaction) → Same (take n pkt) r t
      → Same pkt (r >>= λ h. theirs.handled T h.fsm (h.pkt ++ drop n pkt) h.tx) t
  back_same n pkt r t (same {h} i s x small a b c d e f) =
      let back : h.pkt ++ drop n pkt ≡ cond t.echoed (set pkt 2 10) pkt = rw d (go t.echoed e) in
      same i s x small a b c back (λ (u : t.echoed ≡ true). omega (arith, e u, shorter)) f
    where
      shorter : length (take n pkt) ≤ length pkt
      shorter = omega (arith, length-take n pkt)

      go : (o : Bool) → (o ≡ true → 2 < length (take n pkt)) → cond o (set (take n pkt) 2 10) (take n pkt) ++ drop n pkt ≡ cond o (set pkt 2 10) pkt
      go true k = sym (set-append_left (take n pkt) (drop n pkt) 2 10 (k refl)) ∙ rw take-append-drop refl
      go false k = take-append-drop n pkt
  back_same n pkt r t (long q a b c) = long q a b c
  back_same n pkt r t (stops f) = stops f

  pub handle-same : (i : ℕ) (s : State) (x : X) (pkt : List ℕ) → i < 256 → Bytes pkt
      → Same pkt (theirs.handle T (there T inj view stands i s x) pkt) (ours.handle_of (here T inj view stands i s x) pkt)
  unfolding theirs.handle ours.handle_of ours.ignore_of
  handle-same i s x pkt small bytes =
      let n = length_field pkt + 2 in
      let front = each_take (λ b. b < 256) n pkt bytes in
      cond_both (Same pkt) {t = ltb (length pkt) 6} refl (λ _. plain T inj view stands pkt i s x small none)
      (λ t. let h = ltb-false (length pkt) 6 t in
      cond_both (Same pkt) {t = ltb (length pkt) n} refl (λ _. plain T inj view stands pkt i s x small none)
      (λ _. back_same n pkt _ _ (act_same (take n pkt) front i (get_or pkt 2 0) (get_or pkt 3 0) s x small (each_get (λ b. b < 256) pkt 3 0 (omega arith) bytes) (third n))))
    where
      third : (n : ℕ) → 6 ≤ length (take n pkt) → get_or (take n pkt) 3 0 ≡ get_or pkt 3 0
      third n h = get_or-take n pkt 3 0 (omega (arith, length-take n pkt))

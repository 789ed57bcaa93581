-- LCP's map is RFC 1662's, section 7.1: as it is asked for, as it is judged, and as a Nak or a Reject changes it.
-- Assumes nothing.
use Prim.Native.Nat.{ℕ, zero, suc, ◌+◌, ◌-◌, ◌*◌, ◌/◌, ◌%◌, ◌^◌, ◌<◌}
use mathlib.Core.Path.{◌≡◌, refl, ap, sym, ◌∙◌}
use mathlib.Core.Bool.{Bool, true, false}
use native.Mathlib.Omega.{arith}
use lib.ListN.{length, get_or}
use lib.Pow.{shr-shr, field, mod-mod-pow}
use Rattle.laws.specs.Be.{be_bytes, be_of}
use Rattle.laws.proofs.Be.{length_be, be_round}
use Rattle.options.specs.declared.lcp.Lcp.{Lcp}
use Rattle.options.specs.declared.proto.Proto.TheVariants.{Lcp as OfLcp}
use Rattle.options.specs.declared.proto.Verdict.TheVariants.{Ack}
use Rattle.papers.specs.Rfc1661.{Option}
use Rattle.papers.specs.Rfc1662Options.{AsyncMap, bit_for}
use Rattle.options.specs.Lcp.{with_remote, with_own, judge_lcp, judged_lcp, own_lcp}
use Rattle.options.specs.Proto.{own_nacked}
use Rattle.papers.proofs.Octets.{four_octets}
use Rattle.papers.proofs.Layouts1661.{Field, laid_field}

-- ---- what is written

pub laid-map : (p : Lcp) → p.asyncmap < 0x100000000 → Field AsyncMap p.asyncmap_rej p.asyncmap (own_lcp p)
laid-map p h =
    laid_field AsyncMap p.asyncmap_rej 2 p.asyncmap (omega arith)
    (record { small = h; type = refl; value = four_octets p.asyncmap h })

-- ---- what is read

abbrev pub taken_map : Bool → Lcp → ℕ → Lcp
taken_map true p m = with_own p p.asyncmap true
taken_map false p m = with_own p m p.asyncmap_rej

module _ {o : Option} {m : ℕ} (x : AsyncMap o m) where
  -- its data by our own fields
  in_bytes : o.value ≡ be_bytes 4 m
  in_bytes = x.value ∙ sym (four_octets m x.small)

  map-length : length o.value ≡ 4
  map-length = rw in_bytes (length_be 4 m)

  map-number : be_of o.value ≡ m
  map-number = rw in_bytes (be_round 4 m x.small)

  octet : (k : ℕ) → k < 4 → get_or o.value (3 - k) 0 ≡ m / 2 ^ (8 * k) % 2 ^ 8
  octet zero h = rw x.value (omega arith)
  octet (suc zero) h = rw x.value refl
  octet (suc (suc zero)) h = rw x.value refl
  octet (suc (suc (suc zero))) h = rw x.value (omega (arith, x.small))
  octet (suc (suc (suc (suc k)))) h = absurd (omega arith)

  -- the bit that the paper has for an octet is the one of that number in the number read
  pub map-bit : (b : ℕ) → b < 32 → bit_for o b ≡ m / 2 ^ b % 2
  map-bit b h =
      let r = b % 8 in
      let n = m / 2 ^ (8 * (b / 8)) in
      let j : 8 ≡ (7 - r + 1) + r = omega arith in
      let k : 8 * (b / 8) + r ≡ b = omega arith in
      let e : n % 2 ^ 8 / 2 ^ r % 2 ≡ n / 2 ^ r % 2 =
      ap (λ (i : ℕ). n % 2 ^ i / 2 ^ r % 2) j ∙ ap (λ (y : ℕ). y % 2) (field n (7 - r + 1) r) ∙ mod-mod-pow (n / 2 ^ r) (7 - r) 1 in
      ap (λ (y : ℕ). y / 2 ^ r % 2) (octet (b / 8) (omega arith)) ∙ e ∙ rw (shr-shr m (8 * (b / 8)) r, k) refl

  -- as the peer offers it: acked, and its number is the one stored
  pub judge-map : (p : Lcp) → judge_lcp p o.type o.value ≡ judged_lcp Ack (with_remote p m)
  judge-map p = rw (map-length, map-number, x.type) refl

  -- as a Reject drops it, or as a Nak suggests another
  pub take-map : (rej : Bool) (p : Lcp) → own_nacked (OfLcp p) o.type o.value rej ≡ OfLcp (taken_map rej p m)
  unfolding own_nacked
  take-map true p = rw x.type refl
  take-map false p = rw (map-length, map-number, x.type) refl

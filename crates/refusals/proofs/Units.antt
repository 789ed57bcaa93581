-- Units in a lent buffer: as the table lays them, and as framing's definitions do.
-- Assumes nothing.
use mathlib.Core.Path.{◌≡◌, refl, ap}
use mathlib.Core.List.{List, [], ◌∷◌, ◌++◌, map, map-append, append_assoc, flatten}
use Prim.Native.Nat.{ℕ, suc, ◌+◌, ◌-◌, ◌≤◌, ◌<◌}
use native.Mathlib.Numerals.{add-one}
use native.Mathlib.Omega.{arith}
use borrow.Author.Tests.{leb-true, leb-false}
use lib.Dec.{leb}
use lib.ListN.{length, take, length-append}
use lib.Seq.{sets, sets-eq}
use Rattle.laws.proofs.Cases.{by_test}
use Rattle.framing.specs.Rfc1662.{fcs, check_bytes, unit}
use Rattle.framing.specs.Writer.{units, frame_units, join, fit}
use Rattle.framing.proofs.Fcs.{fcs_address}
use Rattle.framing.proofs.Frame.{started}
use Rattle.refusals.specs.Framing.{Fitted, units_of}

-- ---- the same units

pub units-map : (m : ℕ) (l : List ℕ) → units m l ≡ map (unit m) l
unfolding units
units-map m [] = refl
units-map m (b ∷ l) = ap (λ (us : List (List ℕ)). unit m b ∷ us) (units-map m l)

units-behind : (m : ℕ) (p c : List ℕ) (e : List (List ℕ)) → units m p ++ (units m c ++ e) ≡ map (unit m) (p ++ c) ++ e
units-behind m p c e = rw (units-map m p, units-map m c, map-append, append_assoc) refl

pub frame-units : (m : ℕ) (p : List ℕ) → frame_units m p ≡ units_of m p
frame-units m p =
    rw (fcs_address (0x03 ∷ p), started p) (ap (λ (us : List (List ℕ)). (0x7E ∷ 0xFF ∷ []) ∷ unit m 0x03 ∷ us) (units-behind m p (check_bytes (fcs 0x3DE3 p)) ((0x7E ∷ []) ∷ [])))

pub join_flatten : (us : List (List ℕ)) → join us ≡ flatten us
unfolding join flatten
join_flatten [] = refl
join_flatten (u ∷ us) = ap (λ (l : List ℕ). u ++ l) (join_flatten us)

-- ---- the most that fit

-- a number of units that room bytes hold, and one more they do not
record Filled (us : List (List ℕ)) (room : ℕ) : Type 0 where
  number : ℕ
  fits : length (flatten (take number us)) ≤ room
  most : number < length us → room < length (flatten (take (suc number) us))
  run : fit room us ≡ flatten (take number us)

filled_of : (us : List (List ℕ)) (room : ℕ) → Filled us room
unfolding fit flatten
filled_of [] room = record { number = 0; fits = omega arith; most = λ h. absurd (omega arith); run = refl }
filled_of (u ∷ us) room =
    let r = filled_of us (room - length u) in
    by_test (leb (length u) room)
    (λ e. let h = leb-true (length u) room e in
    record {
      number = suc r.number;
      fits = omega (arith, length-append u (flatten (take r.number us)), r.fits);
      most = λ k. omega (arith, length-append u (flatten (take (suc r.number) us)), r.most (omega arith));
      run = rw e (ap (λ (l : List ℕ). u ++ l) r.run);
    })
    (λ e. record { number = 0; fits = omega arith; most = λ k. omega (arith, length-append u [], leb-false (length u) room e); run = rw e refl })

-- ---- behind an index

-- what framing's run leaves, and where it ends
pub record Fit (us : List (List ℕ)) (at : ℕ) (buf : List ℕ) : Type 0 where
  pub fitted : Fitted us at buf (sets buf at (fit (length buf - at) us))
  pub end : at + length (fit (length buf - at) us) ≡ at + length (flatten (take fitted.number us))

pub fit_of : (us : List (List ℕ)) (at : ℕ) (buf : List ℕ) → at ≤ length buf → Fit us at buf
fit_of us at buf h =
    let r = filled_of us (length buf - at) in
    let bs = flatten (take r.number us) in
    let f : at + length bs ≤ length buf = omega (arith, r.fits) in
    record {
      fitted =
          record {
            number = r.number;
            fit = f;
            most = λ k. rw add-one (omega (arith, r.most k));
            bytes = rw r.run (sets-eq bs buf at f);
          };
      end = rw r.run refl;
    }

-- What two reads consumed, one after the other.
use Rattle.std.proofs.Common.{◌≡◌, ◌≤◌, ℕ, ◌+◌, List, ◌++◌, length, take, sym, ap, subst, ◌∙◌}
use Rattle.std.proofs.Math.Seq.{take-append-add}
use Rattle.std.proofs.lemmas.List.{take-append-le}
use Rattle.std.specs.declared.option.Option.{Option}
use Rattle.std.specs.Io.KnownBytes.{Consumes}
use Rattle.std.proofs.KnownBytes.{Consumes-trans}

pub take-grown : (front part rest : List ℕ) (f n : ℕ) → length front ≡ f → n ≤ length part → take (f + n) (front ++ (part ++ rest)) ≡ front ++ take n part
take-grown front part rest f n long fits = subst (λ k. take (k + n) (front ++ (part ++ rest)) ≡ front ++ take n part) long (take-append-add front (part ++ rest) n ∙ ap (λ l. front ++ l) (take-append-le n part rest fits))

-- What a read gave stands behind the front that the reads before it gave.
pub Consumes_grown : (a b c : Option (List ℕ)) (front part rest : List ℕ) (f n : ℕ) → length front ≡ f → n ≤ length part → Consumes a b front → Consumes b c (take n part)
    → Consumes a c (take (f + n) (front ++ (part ++ rest)))
Consumes_grown a b c front part rest f n long fits p q = subst (Consumes a c) (sym (take-grown front part rest f n long fits)) (Consumes-trans a b c front (take n part) p q)

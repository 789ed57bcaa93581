-- What holds of each element of two lists holds of each element of their join, and back.
-- Assumes nothing.
use mathlib.Core.List.{List, [], ◌∷◌, ◌++◌}
use Rattle.laws.specs.Each.{Each}

pub each_append : {A : Type 0} (P : A → Type 0) (a b : List A) → Each P a → Each P b → Each P (a ++ b)
each_append P [] b p q = q
each_append P (x ∷ a) b p q = (p.0, each_append P a b p.1 q)

pub each_left : {A : Type 0} (P : A → Type 0) (a b : List A) → Each P (a ++ b) → Each P a
each_left P [] b p = tt
each_left P (x ∷ a) b p = (p.0, each_left P a b p.1)

pub each_right : {A : Type 0} (P : A → Type 0) (a b : List A) → Each P (a ++ b) → Each P b
each_right P [] b p = p
each_right P (x ∷ a) b p = each_right P a b p.1

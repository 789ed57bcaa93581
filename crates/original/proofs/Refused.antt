-- The table's refusal for a place, of the outcome that says it.
-- Assumes nothing.
use mathlib.Core.Path.{◌≡◌, refl}
use Rattle.std.specs.Prelude.{Result, Err}
use Rattle.options.specs.Refusal.{number_of}
use Rattle.options.specs.declared.refusal.Refusal.{Refusal}
use Rattle.original.specs.Run.{Place}
use Rattle.original.specs.Panics.{number_at, RefusedAt}

pub refused_at : {place : Place} (why : Refusal) → number_of why ≡ number_at place → RefusedAt place (Err why)
refused_at why e = record { why = why; number = e; outcome = refl }

pub refused_so : {place : Place} {o : Result Unit Refusal} (f : RefusedAt place o) → RefusedAt place (Err f.why)
refused_so f = refused_at f.why f.number

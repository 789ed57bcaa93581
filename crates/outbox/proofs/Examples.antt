-- Worked examples: the sizes of new outboxes, a packet across the buffer's end, a length across it, and a packet that goes.
-- Assumes nothing.
use mathlib.Core.Path.{◌≡◌, refl}
use mathlib.Core.List.{List, [], ◌∷◌}
use Prim.Native.Nat.{ℕ}
use Rattle.std.specs.Prelude.{Ok}
use Rattle.outbox.specs.Ring.{placed}
use Rattle.outbox.specs.Outbox.{accept_of, packets, held_in, fresh_of, front_in, shrunk, declined}
use Rattle.outbox.specs.declared.refusal.Refusal.TheVariants.{NoRoom}
use Rattle.outbox.specs.declared.outbox.Outbox.{Outbox}

sizes : ((fresh_of 0).size ≡ 0) × ((fresh_of 65535).size ≡ 65535) × ((fresh_of 65536).size ≡ 65536) × ((fresh_of 65537).size ≡ 65536)
sizes = (refl, refl, refl, refl)

abbrev at : ℕ → ℕ → ℕ → Outbox
at f u h = record { size = 8; front = f; used = u; held = h }

-- nine bytes are lent to an outbox of eight: the ninth stays
abbrev nine : List ℕ
nine = 10 ∷ 11 ∷ 12 ∷ 13 ∷ 14 ∷ 15 ∷ 16 ∷ 17 ∷ 18 ∷ []

packet_across : accept_of (at 6 0 0) nine (1 ∷ 2 ∷ 3 ∷ []) ≡ record { outcome = (Ok tt); outbox = at 6 5 1; buf = 1 ∷ 2 ∷ 3 ∷ 13 ∷ 14 ∷ 15 ∷ 0 ∷ 3 ∷ 18 ∷ [] }
unfolding accept_of placed
packet_across = refl

length_across : accept_of (at 7 0 0) nine (1 ∷ 2 ∷ 3 ∷ []) ≡ record { outcome = (Ok tt); outbox = at 7 5 1; buf = 3 ∷ 1 ∷ 2 ∷ 3 ∷ 14 ∷ 15 ∷ 16 ∷ 0 ∷ 18 ∷ [] }
unfolding accept_of placed
length_across = refl

-- three bytes are free: a packet of one byte fits, one of two does not
last_fits : accept_of (at 7 5 1) nine (9 ∷ []) ≡ record { outcome = (Ok tt); outbox = at 7 8 2; buf = 10 ∷ 11 ∷ 12 ∷ 13 ∷ 0 ∷ 1 ∷ 9 ∷ 17 ∷ 18 ∷ [] }
unfolding accept_of placed
last_fits = refl

none_fits : accept_of (at 7 5 1) nine (9 ∷ 9 ∷ []) ≡ declined NoRoom (at 7 5 1) nine
unfolding accept_of placed
none_fits = refl

abbrev both : List ℕ
both = 3 ∷ 1 ∷ 2 ∷ 3 ∷ 0 ∷ 1 ∷ 9 ∷ 0 ∷ 18 ∷ []

two_held : held_in (at 7 8 2) both ≡ (1 ∷ 2 ∷ 3 ∷ []) ∷ (9 ∷ []) ∷ []
unfolding packets
two_held = refl

one_goes : shrunk (at 7 8 2) 3 ≡ at 4 3 1
one_goes = refl

last_goes : shrunk (at 4 3 1) 1 ≡ at 7 0 0
last_goes = refl

-- a length that somebody else wrote: as much as is used
cut : front_in (at 6 5 1) nine ≡ 10 ∷ 11 ∷ 12 ∷ []
cut = refl

-- with the last packet all bytes are free, whatever its length says
last_frees : shrunk (at 2 8 1) 1 ≡ at 5 0 0
last_frees = refl

-- The number behind x.
use Rattle.std.specs.Prelude.{ℕ, ◌+◌, ◌*◌, ◌%◌}

abbrev pub after : ℕ → ℕ
after x = (x * 1103515245 + 12345) % 2147483648

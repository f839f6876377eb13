-- The rule of the table of a disc's first quarter: k from 0 to 256, by whole-number division. Definitions only.
use Rattle.std.specs.Prelude.{ℕ, ◌+◌, ◌*◌, ◌-◌, ◌/◌, ◌^◌, pos}
use Rattle.disc_table.specs.declared.Entry.{Entry}

-- X: the whole part of 2^30 * (65536 - k * k) / (65536 + k * k)
unfoldable pub table_x : ℕ → ℕ
table_x k = 2 ^ 30 * (65536 - k * k) / (65536 + k * k)

-- Y: the whole part of 2^30 * 512 * k / (65536 + k * k)
unfoldable pub table_y : ℕ → ℕ
table_y k = 2 ^ 30 * 512 * k / (65536 + k * k)

-- point k
unfoldable pub entry_of : ℕ → Entry
entry_of k = record { x = pos (table_x k); y = pos (table_y k) }

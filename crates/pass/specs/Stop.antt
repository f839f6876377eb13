-- Why a trace stops, as a number: the first four end a pass, the fifth the run. Definitions only.
use Rattle.std.specs.Prelude.{ℕ}

-- no contact is left, and none was recovered
abbrev pub no_contact : ℕ
no_contact = 1

-- no vector is left, and no interlocking position
abbrev pub no_vector : ℕ
no_vector = 2

-- the vector is shorter than the smallest move
abbrev pub short_move : ℕ
short_move = 3

-- the path is closed
abbrev pub path_closed : ℕ
path_closed = 4

-- all passes are used up
abbrev pub passes_used : ℕ
passes_used = 5

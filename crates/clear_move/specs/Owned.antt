-- A list of the first edges with the line of each. Definitions only.
use Rattle.std.specs.Prelude.{ℕ, ◌<◌, ◌≡◌, List, get_or, ℤ}
use Rattle.clear_move.specs.Shared.{owner}

-- the first edge with the line of edge k, as the list has it
abbrev pub first : List ℕ → ℕ → ℕ
first owners k = get_or owners k 0

-- so it is for each of the first m edges of a reason
abbrev pub Owned : List ℤ → List ℕ → ℕ → Type 0
Owned ls owners m = (k : ℕ) → k < m → first owners k ≡ owner ls k

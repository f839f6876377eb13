-- A number that is found below another, or none. Definitions only.
use Rattle.std.specs.Prelude.{ℕ, cond, ltb, Option, Some, None}

-- k where it is below n
abbrev pub below : ℕ → ℕ → Option ℕ
below n k = cond (ltb k n) (Some k) None

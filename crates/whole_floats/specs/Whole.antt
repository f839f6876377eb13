-- When a float is a whole number, and when an integer is: both are written as a difference of two natural numbers.
-- Definitions only.
use Rattle.std.specs.Prelude.{ℕ, suc, ◌+◌, ◌-◌, ◌*◌, ◌≡◌, true, false, cond, ltb, ℤ, pos, negsuc, Float}
use Rattle.std.specs.Float.{nan, inf, fin}
use Rattle.std.specs.Float.Ieee.{up, down}

-- x is finite, and its value is p - q. Where p is q, x is either of the zeros
abbrev pub Whole : Float → ℕ → ℕ → Type 0
Whole nan p q = ⊥
Whole (inf s) p q = ⊥
Whole (fin false m e) p q = m * up e + q * down e ≡ p * down e
Whole (fin true m e) p q = m * up e + p * down e ≡ q * down e

-- the integer z is p - q
abbrev pub Difference : ℤ → ℕ → ℕ → Type 0
Difference (pos n) p q = p ≡ q + n
Difference (negsuc n) p q = q ≡ p + suc n

-- p - q as an integer
abbrev pub difference_of : ℕ → ℕ → ℤ
difference_of p q = cond (ltb p q) (negsuc (q - suc p)) (pos (p - q))

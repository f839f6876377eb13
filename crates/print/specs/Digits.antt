-- Numbers in digits, as bytes. Definitions only.
use Rattle.std.specs.Prelude.{ℕ, zero, suc, ◌+◌, ◌/◌, ◌%◌, cond, List, [], ◌∷◌, ◌++◌, ltb, eqb}

-- 0 to 9, then a to f
abbrev pub digit : ℕ → ℕ
digit d = cond (ltb d 10) (48 + d) (87 + d)

-- the last k digits of n, the highest first
unfoldable pub digits : ℕ → ℕ → ℕ → List ℕ
digits base zero n = []
digits base (suc k) n = digits base k (n / base) ++ (digit (n % base) ∷ [])

-- how many decimal digits n has, k at most
unfoldable pub up_to : ℕ → ℕ → ℕ
up_to zero n = 0
up_to (suc k) n = cond (eqb n 0) 0 (suc (up_to k (n / 10)))

-- 0 has one digit; 20 are enough for 64 bits
abbrev pub width : ℕ → ℕ
width n = suc (up_to 19 (n / 10))

abbrev pub decimal : ℕ → List ℕ
decimal n = digits 10 (width n) n

abbrev pub hex : ℕ → List ℕ
hex n = digits 16 16 n

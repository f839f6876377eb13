-- A loop's turns, rows of turns, and how many numbers pass a test. Definitions only.
use Rattle.std.specs.Prelude.{ℕ, zero, suc, ◌+◌, Bool, cond}

-- turns 0, 1, .. n - 1, from a state
unfoldable pub turns : {S : Type 0} → (S → ℕ → S) → S → ℕ → S
turns step from zero = from
turns step from (suc k) = step (turns step from k) k

-- m rows of n turns each
unfoldable pub turn_rows : {S : Type 0} → (S → ℕ → ℕ → S) → ℕ → S → ℕ → S
turn_rows step n from zero = from
turn_rows step n from (suc o) = turns (λ s k. step s o k) (turn_rows step n from o) n

-- how many of the numbers below n pass
unfoldable pub tally : (ℕ → Bool) → ℕ → ℕ
tally passes zero = 0
tally passes (suc k) = tally passes k + cond (passes k) 1 0

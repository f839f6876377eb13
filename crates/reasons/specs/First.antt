-- The first number of a row that passes a test. Definitions only.
use Rattle.std.specs.Prelude.{ℕ, zero, suc, Bool, cond}

-- of so many numbers from k on; the one after them where none passes
unfoldable pub first_from : (ℕ → Bool) → ℕ → ℕ → ℕ
first_from t k zero = k
first_from t k (suc more) = cond (t k) k (first_from t (suc k) more)

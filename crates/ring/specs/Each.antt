-- A test that holds of each number of a row. Definitions only.
use Rattle.std.specs.Prelude.{ℕ, zero, suc, Bool, true, ◌&&◌}

-- p holds of each of so many numbers from k on
unfoldable pub each : (ℕ → Bool) → ℕ → ℕ → Bool
each p k zero = true
each p k (suc more) = p k && each p (suc k) more

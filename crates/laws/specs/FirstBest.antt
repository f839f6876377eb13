-- Candidates in turn, of which one that is ahead of the best so far replaces it. Definitions only.
use Rattle.std.specs.Prelude.{ℕ, zero, suc, ◌/◌, ◌%◌, ◌<◌, ◌≡◌, Bool, true, false, cond}

unfoldable pub better : {C : Type 0} → (C → C → Bool) → C → C → C
better ahead best new = cond (ahead new best) new best

-- the candidates f 0, f 1, .. f (n - 1) in turn, from what was found before
unfoldable pub over : {C : Type 0} → (C → C → Bool) → (ℕ → C) → C → ℕ → C
over ahead f from zero = from
over ahead f from (suc k) = better ahead (over ahead f from k) (f k)

-- m rows of n candidates each
unfoldable pub nest : {C : Type 0} → (C → C → Bool) → (ℕ → ℕ → C) → ℕ → C → ℕ → C
nest ahead g n from zero = from
nest ahead g n from (suc o) = over ahead (g o) (nest ahead g n from o) n

-- the candidates of rows of n in one row
abbrev pub flat_rows : {C : Type 0} → (ℕ → ℕ → C) → ℕ → ℕ → C
flat_rows g n k = g (k / n) (k % n)

-- r is the answer for f 0 .. f (n - 1): what was found before, where no candidate is ahead of it, and else the first of
-- those that no other is ahead of
pub data First {C : Type 0} (ahead : C → C → Bool) (f : ℕ → C) (from : C) (n : ℕ) (r : C) : Type 0 where
  none : r ≡ from → ((k : ℕ) → k < n → ahead (f k) from ≡ false) → First ahead f from n r
  some : (k : ℕ) → k < n → r ≡ f k → ahead (f k) from ≡ true
      → ((j : ℕ) → j < k → ahead (f j) from ≡ true → ahead (f k) (f j) ≡ true)
      → ((j : ℕ) → j < n → ahead (f j) (f k) ≡ false) → First ahead f from n r

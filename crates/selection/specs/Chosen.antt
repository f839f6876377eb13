-- Which of several scores is chosen. Definitions only.
use Rattle.std.specs.Prelude.{ℕ, ◌<◌, ◌≡◌, true, false, Float}
use Rattle.std.specs.Float.{inf}
use Rattle.std.specs.Float.Ieee.{lt, is_nan}

-- of the first n scores: 0 where none is above -infinity; else one that is, no other is greater, and each before it is smaller or a NaN
pub data Chosen (score : ℕ → Float) (n : ℕ) : ℕ → Type 0 where
  none : ((k : ℕ) → k < n → lt (inf true) (score k) ≡ false) → Chosen score n 0
  greatest : {i : ℕ} → i < n → lt (inf true) (score i) ≡ true
      → ((j : ℕ) → j < n → lt (score i) (score j) ≡ false)
      → ((j : ℕ) → j < i → is_nan (score j) ≡ false → lt (score j) (score i) ≡ true) → Chosen score n i

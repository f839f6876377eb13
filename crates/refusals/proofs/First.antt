-- The first of several refusals, test by test. Assumes nothing.
use mathlib.Core.Path.{◌≡◌, refl}
use mathlib.Core.Bool.{Bool, true, false}
use Rattle.refusals.specs.Refusals.{passed, first}
use Rattle.refusals.specs.Refusals.{Told}

-- a first of two within a row of tests
pub first_assoc : (a b c : Told) → first (first a b) c ≡ first a (first b c)
first_assoc a b c = go (passed a) refl
  where
    go : (p : Bool) → passed a ≡ p → first (first a b) c ≡ first a (first b c)
    go true h = simp h
    go false h = simp h

-- What the two comparisons of `is_finite` say. Assumes nothing.
use mathlib.Core.Path.{◌≡◌, refl}
use mathlib.Core.Bool.{true, false, ◌&&◌}
use lib.Ieee.{Float, nan, inf, fin, lt, neg, div, of_bits}
use Rattle.scalar.specs.Float.{◌⊘◌, f0, f1}
use Rattle.refusals.specs.Bounds.{finite}

pub finite_lt : (x : Float) → lt x (f1 ⊘ f0) && lt (neg f1 ⊘ f0) x ≡ finite x
unfolding finite lt div neg of_bits
finite_lt nan = refl
finite_lt (inf true) = refl
finite_lt (inf false) = refl
finite_lt (fin s m e) = refl

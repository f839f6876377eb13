-- How many numbers a list of vectors takes: three each. Assumes nothing.
use Prim.Native.Nat.{◌*◌}
use mathlib.Core.Path.{◌≡◌, refl}
use mathlib.Core.List.{List, [], ◌∷◌}
use native.Mathlib.Omega.{arith}
use lib.ListN.{length}
use Rattle.vectors.specs.Vectors.{Sourced, vector_numbers}

pub numbers_length : (l : List Sourced) → length (vector_numbers l) ≡ 3 * length l
unfolding vector_numbers
numbers_length [] = refl
numbers_length (s ∷ ss) = omega (arith, numbers_length ss)

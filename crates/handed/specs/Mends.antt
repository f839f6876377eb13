-- What is told of a mended ring: how many vertices remain, and how many were dropped. Definitions only.
use Rattle.std.specs.Prelude.{ℕ}
use Rattle.mending.specs.declared.answer.Sizes.{Sizes}

abbrev pub remaining_in : Sizes → ℕ
remaining_in s = s.vertices

abbrev pub dropped_in : Sizes → ℕ
dropped_in s = s.dropped

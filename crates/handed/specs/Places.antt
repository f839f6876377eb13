-- What the cells of an exported shift hold afterwards, by what it answers. Definitions only.
use Rattle.std.specs.Prelude.{ℕ}
use Rattle.inspection.specs.declared.Shift.{Shift}

-- how many places were written, and where the following shift starts
abbrev pub places_in : Shift → ℕ
places_in s = s.places

abbrev pub following_in : Shift → ℕ
following_in s = s.following

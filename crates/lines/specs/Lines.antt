-- The lines that programs print of a refusal and of points, as bytes. Definitions only.
use Rattle.std.specs.Prelude.{ℕ, zero, suc, cond, List, [], ◌∷◌, ◌++◌, Float}
use Rattle.std.specs.Float.{binary64}
use Rattle.std.specs.Float.Ieee.{to_bits}
use Rattle.print.specs.Digits.{decimal}
use Rattle.print.specs.Text.{space, newline, pair_line}
use Rattle.ring.specs.Ring.{point_at}
use Rattle.refusals.specs.Refusals.{tells_place}
use Rattle.refusals.specs.Refusals.{Told}

-- "refused "
abbrev pub refused : List ℕ
refused = 114 ∷ 101 ∷ 102 ∷ 117 ∷ 115 ∷ 101 ∷ 100 ∷ 32 ∷ []

-- the number alone, and the number with the place
abbrev pub number_line : ℕ → List ℕ
number_line number = refused ++ (decimal number ++ newline)

abbrev pub place_line : ℕ → ℕ → List ℕ
place_line number place = refused ++ (decimal number ++ (space ++ (decimal place ++ newline)))

-- a refusal, with its place where it tells one
unfoldable pub refusal_line : Told → List ℕ
refusal_line r = cond (tells_place r.number) (place_line r.number r.place) (number_line r.number)

-- the first n points of a list, a line each
unfoldable pub point_lines : List Float → ℕ → List ℕ
point_lines xs zero = []
point_lines xs (suc k) = point_lines xs k ++ pair_line (to_bits binary64 (point_at xs k).x) (to_bits binary64 (point_at xs k).y)

-- docs/SCOPE.md's bounds of lent numbers, settings and rooms. Definitions only.
use Rattle.std.specs.Prelude.{ℕ, ◌*◌, ◌%◌, Bool, true, false, ◌&&◌, List, [], ◌∷◌, leb, eqb, Float}
use Rattle.std.specs.Float.{nan, inf, fin}
use Rattle.std.specs.Float.Ieee.{up, down, lt, le}
use Rattle.scalar.specs.Float.{f0, f1}
use Rattle.plane.specs.declared.Point.{Point}
use Rattle.refusals.specs.declared.Settings.{Settings}

-- finite, of magnitude at most 1,000,000
unfoldable pub coordinate : Float → Bool
coordinate nan = false
coordinate (inf s) = false
coordinate (fin s m e) = leb (m * up e) (1000000 * down e)

unfoldable pub finite : Float → Bool
finite nan = false
finite (inf s) = false
finite (fin s m e) = true

-- a test of each number of a list
unfoldable pub every : (Float → Bool) → List Float → Bool
every p [] = true
every p (x ∷ xs) = p x && every p xs

abbrev pub coordinates : List Float → Bool
coordinates xs = every coordinate xs

abbrev pub all_finite : List Float → Bool
all_finite xs = every finite xs

abbrev pub finite_point : Point → Bool
finite_point p = finite p.x && finite p.y

abbrev pub point_ok : Point → Bool
point_ok p = coordinate p.x && coordinate p.y

-- above 0, at most 1
abbrev pub tolerance_ok : Float → Bool
tolerance_ok x = lt f0 x && le x f1

-- a smallest move: finite, not negative
abbrev pub smallest_ok : Float → Bool
smallest_ok x = finite x && le f0 x

-- the tolerance, the smallest move, at most 10,000 passes
unfoldable pub settings_ok : Settings → Bool
settings_ok s =
    tolerance_ok s.contact_tolerance && (smallest_ok s.min_translation && leb s.max_iterations 10000)

-- whole points, and one at least
abbrev pub work_ok : ℕ → Bool
work_ok size = leb 2 size && eqb (size % 2) 0

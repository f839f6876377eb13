-- The single tests of what a call is lent beside the lengths of its lists, each with the refusal that it gives. Definitions only.
use Rattle.std.specs.Prelude.{ℕ, ◌*◌, ◌&&◌, List, length, leb, eqb, Float}
use Rattle.plane.specs.declared.Point.{Point}
use Rattle.refusals.specs.Refusals.{refused_length, refused_number, refused_setting, refused_room, refused_fit, unless}
use Rattle.refusals.specs.Bounds.{coordinates, all_finite, finite_point, point_ok, tolerance_ok, settings_ok, work_ok}
use Rattle.refusals.specs.Rings.{sum_ok}
use Rattle.refusals.specs.Refusals.{Told}
use Rattle.refusals.specs.declared.Settings.{Settings}

-- ---- 1: a list that is not the sum of the rings' vertices, or parts unlike the rings in number, with the number of rings

abbrev pub wrong_sum : List Float → List ℕ → Told
wrong_sum xs ns = unless (sum_ok xs ns) refused_length (length ns)

abbrev pub wrong_parts : List ℕ → List ℕ → Told
wrong_parts ns ps = unless (eqb (length ps) (length ns)) refused_length (length ns)

-- ---- 2: a list's numbers, a point's numbers

abbrev pub wrong_number : List Float → Told
wrong_number r = unless (coordinates r) refused_number 0

-- those of a list, of a move or of a position that need only be finite
abbrev pub wrong_infinite : List Float → Told
wrong_infinite r = unless (all_finite r) refused_number 0

abbrev pub wrong_position : Point → Told
wrong_position p = unless (finite_point p) refused_number 0

abbrev pub wrong_point : Point → Told
wrong_point p = unless (point_ok p) refused_number 0

-- ---- 3: a tolerance, the settings

abbrev pub wrong_tolerance : Float → Told
wrong_tolerance t = unless (tolerance_ok t) refused_setting 0

abbrev pub wrong_settings : Settings → Told
wrong_settings s = unless (settings_ok s) refused_setting 0

-- ---- 4: a work room that does not hold whole points, one at least; a result room shorter than it; a room that is shorter than a file or a ring

abbrev pub wrong_work : ℕ → Told
wrong_work size = unless (work_ok size) refused_room 0

abbrev pub wrong_result : ℕ → ℕ → Told
wrong_result work result = unless (leb work result) refused_room 0

abbrev pub short_room : ℕ → ℕ → Told
short_room needed size = unless (leb needed size) refused_room 0

-- a book's numbers, or the counts or the parts of its rings, do not fit their rooms
abbrev pub wrong_book_rooms : ℕ → ℕ → ℕ → ℕ → ℕ → Told
wrong_book_rooms needed size rings counts parts = unless (leb needed size && (leb rings counts && leb rings parts)) refused_room 0

-- ---- 5: so many numbers, or so many points, do not fit a room of so many numbers

abbrev pub wrong_fit : ℕ → ℕ → Told
wrong_fit needed size = unless (leb needed size) refused_fit 0

abbrev pub wrong_room : ℕ → ℕ → Told
wrong_room points size = unless (leb (2 * points) size) refused_fit 0

-- What is told of a refusal, its numbers, and the first of several. Definitions only.
use Rattle.std.specs.Prelude.{ℕ, Bool, ◌||◌, cond, List, [], ◌∷◌, eqb, Option, Some, None}

-- ---- docs/SCOPE.md's numbers

-- a lent list's length fits no whole number of entries, or the lists of rings do not add up
abbrev pub refused_length : ℕ
refused_length = 1

-- a lent number is outside its bounds
abbrev pub refused_number : ℕ
refused_number = 2

-- a setting is outside its bounds
abbrev pub refused_setting : ℕ
refused_setting = 3

-- the rooms of a trace or of a book are too short, or not of the form asked
abbrev pub refused_room : ℕ
refused_room = 4

-- an answer list, or the path before simplification, has more entries than its room
abbrev pub refused_fit : ℕ
refused_fit = 5

-- that path has under three points at the end
abbrev pub refused_short_path : ℕ
refused_short_path = 6

-- a book is wrong
abbrev pub refused_book : ℕ
refused_book = 7

-- a lent list, or a ring, has too few entries
abbrev pub refused_few : ℕ
refused_few = 8

-- it has too many
abbrev pub refused_many : ℕ
refused_many = 9

-- a drawing in well-known binary is wrong
abbrev pub refused_wkb : ℕ
refused_wkb = 10

-- of a mended ring fewer than three vertices remain
abbrev pub refused_remaining : ℕ
refused_remaining = 11

-- a disc has no such number of vertices in a quarter
abbrev pub refused_quarter : ℕ
refused_quarter = 12

-- the number of a path's points, that of a shift's places, or the start, is out of its bounds
abbrev pub refused_inspection : ℕ
refused_inspection = 13

-- a number times the units of a grid is out of the bounds of whole coordinates
abbrev pub refused_grid : ℕ
refused_grid = 14

-- those that tell a place: which list or ring it was, or the byte of a file's first fault
unfoldable pub tells_place : ℕ → Bool
tells_place num =
    eqb num refused_length || (eqb num refused_book || (eqb num refused_few || (eqb num refused_many || eqb num refused_wkb)))

-- ---- what is told

-- a refusal's number, and the place that it tells, 0 where it tells none; the number 0 is no refusal
pub record Told : Type 0 where
  pub number : ℕ
  pub place : ℕ

-- no refusal
abbrev pub none : Told
none = record { number = 0; place = 0 }

-- the refusal with a number and a place
abbrev pub refuse : ℕ → ℕ → Told
refuse num at = record { number = num; place = at }

-- the place, where it tells one
abbrev pub place_told : Told → Option ℕ
place_told t = cond (tells_place t.number) (Some t.place) None

abbrev pub passed : Told → Bool
passed r = eqb r.number 0

-- what a test gives: the refusal with its number and place exactly if it does not hold
abbrev pub unless : Bool → ℕ → ℕ → Told
unless ok num at = cond ok none (refuse num at)

abbrev pub first : Told → Told → Told
first a b = cond (passed a) b a

-- the first of the tests, in their order, that does not hold
abbrev pub first_of : List Told → Told
first_of [] = none
first_of (r ∷ []) = r
first_of (r ∷ s ∷ rs) = first r (first_of (s ∷ rs))

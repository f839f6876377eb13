-- What a call answers, in docs/SCOPE.md's terms: its value, or the refusal's number with what it returns. Definitions only.
use Rattle.std.specs.Prelude.{cond, ℤ, Result, Ok, Err}
use Rattle.plane.specs.Orientation.{turn_number}
use Rattle.plane.specs.declared.Orientation.{Orientation}
use Rattle.refusals.specs.Refusals.{Told, none, refuse, passed}
use Rattle.refusals.specs.Refusals.{refused_length, refused_number, refused_setting, refused_room, refused_fit, refused_short_path, refused_book}
use Rattle.refusals.specs.Refusals.{refused_few, refused_many, refused_wkb, refused_remaining, refused_quarter, refused_inspection, refused_grid}
use Rattle.refusals.specs.declared.Refusal.{Refusal}
use Rattle.refusals.specs.declared.Refusal.TheVariants.{Length, Number, Setting, Room, Fit, ShortPath, Book, Few, Many, Wkb, Remaining, Quarter, Inspection, Grid}

-- what a refusal tells
abbrev pub tells : Refusal → Told
tells (Length at) = refuse refused_length at
tells Number = refuse refused_number 0
tells Setting = refuse refused_setting 0
tells Room = refuse refused_room 0
tells Fit = refuse refused_fit 0
tells ShortPath = refuse refused_short_path 0
tells (Book at) = refuse refused_book at
tells (Few at) = refuse refused_few at
tells (Many at) = refuse refused_many at
tells (Wkb at) = refuse refused_wkb at
tells Remaining = refuse refused_remaining 0
tells Quarter = refuse refused_quarter 0
tells Inspection = refuse refused_inspection 0
tells Grid = refuse refused_grid 0

-- what a test tells
abbrev pub tested : Result Unit Refusal → Told
tested (Ok u) = none
tested (Err r) = tells r

pub data Outcome (A : Type 0) : Type 0 where
  answers : A → Outcome A
  refuses : Told → Outcome A

-- the value where no test refuses, and else the refusal
abbrev pub outcome : {A : Type 0} → Told → A → Outcome A
outcome r a = cond (passed r) (answers a) (refuses r)

-- what a call answers
abbrev pub answered : {A : Type 0} → Result A Refusal → Outcome A
answered (Ok a) = answers a
answered (Err r) = refuses (tells r)

abbrev pub turn : Result Orientation Refusal → Outcome ℤ
turn (Ok x) = answers (turn_number x)
turn (Err r) = refuses (tells r)

-- what a lent list holds afterwards: what the call wrote where no test refuses, and else what it held before
abbrev pub left : {A : Type 0} → Told → A → A → A
left r wrote held = cond (passed r) wrote held

-- A row of tests: the first that refuses speaks, and with a number. Assumes nothing.
use Rattle.std.proofs.Common.{◌≡◌, false, refl}
use Rattle.refusals.specs.Refusals.{Told, none, passed, first}
use Rattle.refusals.specs.Answers.{tells}
use Rattle.refusals.specs.declared.Refusal.{Refusal}
use Rattle.refusals.specs.declared.Refusal.TheVariants.{Length, Number, Setting, Room, Fit, ShortPath, Book, Few, Many, Wkb, Remaining, Quarter, Inspection, Grid}

-- each refusal has a number
pub refused : (r : Refusal) → passed (tells r) ≡ false
refused (Length at) = refl
refused Number = refl
refused Setting = refl
refused Room = refl
refused Fit = refl
refused ShortPath = refl
refused (Book at) = refl
refused (Few at) = refl
refused (Many at) = refl
refused (Wkb at) = refl
refused Remaining = refl
refused Quarter = refl
refused Inspection = refl
refused Grid = refl

-- a test that holds leaves it to the next
pub first_passed : (a b : Told) → none ≡ a → first a b ≡ b
first_passed a b e = rw (← e)

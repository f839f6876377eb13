-- What the call answers, and what it leaves in the rooms. Definitions only.
use Rattle.std.specs.Prelude.{ℕ, List, [], ◌∷◌, length, Float}
use Rattle.ring.specs.Room.{laid}
use Rattle.refusals.specs.Refusals.{first_of}
use Rattle.refusals.specs.Answers.{Outcome, outcome, left}
use Rattle.refusals.specs.Refusals.{Told}
use Rattle.mending.specs.Mending.{staying, going, mended_of, dropped_of, dropped_points}
use Rattle.mending.specs.Rows.{of_mendable, of_mending}
use Rattle.mending.specs.declared.answer.Sizes.{Sizes}

-- 11 and 5 of a ring that is mended
abbrev pub fitting : List Float → ℕ → ℕ → ℕ → Told
fitting r room dropped points = of_mending (length (staying r)) (length (going r)) room dropped points

unfoldable pub mend_refusal : List Float → ℕ → ℕ → ℕ → Told
mend_refusal r room dropped points = first_of (of_mendable r ∷ fitting r room dropped points ∷ [])

-- how many vertices the mended ring has, and how many were dropped
abbrev pub sizes_of : List Float → Sizes
sizes_of r = record { vertices = length (staying r); dropped = length (going r) }

abbrev pub mend_call : List Float → ℕ → ℕ → ℕ → Outcome Sizes
mend_call r room dropped points = outcome (mend_refusal r room dropped points) (sizes_of r)

-- the three rooms afterwards
abbrev pub mend_room : List Float → List Float → List ℕ → List Float → List Float
mend_room r room dropped points =
    left (mend_refusal r (length room) (length dropped) (length points)) (laid (mended_of r) room) room

abbrev pub mend_dropped : List Float → List Float → List ℕ → List Float → List ℕ
mend_dropped r room dropped points =
    left (mend_refusal r (length room) (length dropped) (length points)) (laid (dropped_of r) dropped) dropped

abbrev pub mend_points : List Float → List Float → List ℕ → List Float → List Float
mend_points r room dropped points =
    left (mend_refusal r (length room) (length dropped) (length points)) (laid (dropped_points r) points) points

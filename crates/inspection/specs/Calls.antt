-- What the call refuses and answers, and what it leaves in the room. Definitions only.
use Rattle.std.specs.Prelude.{ℕ, Bool, ◌&&◌, List, [], ◌∷◌, length, leb, ltb}
use Rattle.ring.specs.Room.{laid}
use Rattle.refusals.specs.Refusals.{refused_inspection, unless, first_of}
use Rattle.refusals.specs.Screens.{wrong_fit}
use Rattle.refusals.specs.Answers.{Outcome, outcome, left}
use Rattle.refusals.specs.Refusals.{Told}
use Rattle.inspection.specs.Places.{per_shift, shift_places, following_start}
use Rattle.inspection.specs.declared.Shift.{Shift}

-- 1 at least, and at most so much
abbrev pub one_to : ℕ → ℕ → Bool
one_to most x = leb 1 x && leb x most

-- a path has 1 to 10,001 places, and a shift is to inspect 1 to 64
abbrev pub path_ok : ℕ → Bool
path_ok n = one_to 10001 n

abbrev pub shift_ok : ℕ → Bool
shift_ok k = one_to 64 k

-- 13 for the path's places, the shift's or the start, in this order
unfoldable pub of_shift : ℕ → ℕ → ℕ → Told
of_shift n k start =
    first_of (unless (path_ok n) refused_inspection 0 ∷ unless (shift_ok k) refused_inspection 0 ∷ unless (ltb start n) refused_inspection 0 ∷ [])

-- then 5 where the places do not fit a room of so many
unfoldable pub next_refusal : ℕ → ℕ → ℕ → ℕ → Told
next_refusal n k start size = first_of (of_shift n k start ∷ wrong_fit (per_shift n k) size ∷ [])

-- what a shift answers: how many places were written, and the following start
abbrev pub next_places_call : ℕ → ℕ → ℕ → ℕ → Outcome Shift
next_places_call n k start size =
    outcome (next_refusal n k start size) (record { places = per_shift n k; following = following_start n k start })

abbrev pub next_places_room : ℕ → ℕ → ℕ → List ℕ → List ℕ
next_places_room n k start room = left (next_refusal n k start (length room)) (laid (shift_places n k start) room) room

-- What the calls on whole moves answer, and what is left in the room for a reason. Definitions only.
use Rattle.std.specs.Prelude.{ℕ, ◌*◌, ◌/◌, List, [], ◌∷◌, map, length, ℤ, Result, Ok, Err}
use Rattle.ring.specs.Room.{laid}
use Rattle.refusals.specs.Refusals.{none, first_of}
use Rattle.refusals.specs.Screens.{wrong_fit}
use Rattle.refusals.specs.Answers.{Outcome, answers, refuses, tells, outcome, left}
use Rattle.refusals.specs.Refusals.{Told}
use Rattle.refusals.specs.declared.Refusal.{Refusal}
use Rattle.shifted.specs.Shifted.{up_of}
use Rattle.whole_moves.specs.Moved.{moved_up, down_of}
use Rattle.reasons.specs.Check.{Ground, clear, edge, enclosed, check_of}
use Rattle.reason_check.specs.Told.{ground}
use Rattle.reason_check.specs.declared.Ground as answer
use Rattle.reason_search.specs.Search.{search_of}
use Rattle.reason_search.specs.Room.{lines_to}
use Rattle.clear_calls.specs.Rows.{of_whole_move, of_reason}

abbrev pub judged : Result answer.Ground Refusal → Outcome Ground
judged (Ok g) = answers (ground g)
judged (Err r) = refuses (tells r)

-- ---- `check_reason`

-- the stationary corners, the orbiting ones at the start and at the end, and the reason's numbers, all moved up
abbrev pub check_reason_call : List ℤ → List ℤ → ℤ → ℤ → List ℤ → Outcome Ground
check_reason_call st orb dx dy ls =
    outcome (of_reason st orb dx dy ls) (check_of (map up_of st) (map up_of orb) (moved_up orb dx dy) (map up_of ls))

-- ---- `clear_move`

-- what the search finds
abbrev pub found_of : List ℤ → List ℤ → ℤ → ℤ → Ground
found_of st orb dx dy = search_of (map up_of st) (map up_of orb) (moved_up orb dx dy)

-- the lines it takes, p.x p.y q.x q.y for each stationary edge, moved down again
abbrev pub reason_of : List ℤ → List ℤ → ℤ → ℤ → List ℤ
reason_of st orb dx dy = map down_of (lines_to (map up_of st) (map up_of orb) (moved_up orb dx dy) (length st / 2))

-- 5: it is clear, and a room of so many numbers is too short for the lines
unfoldable pub short_for : Ground → ℕ → ℕ → Told
short_for clear needed size = wrong_fit needed size
short_for (edge j) needed size = none
short_for enclosed needed size = none

abbrev pub short_room : List ℤ → List ℤ → ℤ → ℤ → ℕ → Told
short_room st orb dx dy size = short_for (found_of st orb dx dy) (4 * (length st / 2)) size

abbrev pub of_clear_move : List ℤ → List ℤ → ℤ → ℤ → ℕ → Told
of_clear_move st orb dx dy size = first_of (of_whole_move st orb dx dy ∷ short_room st orb dx dy size ∷ [])

abbrev pub clear_move_call : List ℤ → List ℤ → ℤ → ℤ → ℕ → Outcome Ground
clear_move_call st orb dx dy size = outcome (of_clear_move st orb dx dy size) (found_of st orb dx dy)

-- the reason at the front of the room where it is clear, and else what the room held
unfoldable pub written_for : Ground → List ℤ → List ℤ → List ℤ
written_for clear ls room = laid ls room
written_for (edge j) ls room = room
written_for enclosed ls room = room

abbrev pub written : List ℤ → List ℤ → ℤ → ℤ → List ℤ → List ℤ
written st orb dx dy room = written_for (found_of st orb dx dy) (reason_of st orb dx dy) room

abbrev pub clear_move_room : List ℤ → List ℤ → ℤ → ℤ → List ℤ → List ℤ
clear_move_room st orb dx dy room = left (of_clear_move st orb dx dy (length room)) (written st orb dx dy room) room

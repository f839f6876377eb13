-- What the calls on drawn moves answer, and what is left in the room for a reason. Definitions only.
use Rattle.std.specs.Prelude.{ℕ, ◌*◌, ◌/◌, List, [], ◌∷◌, map, length, ℤ, Float, Result, Ok, Err}
use Rattle.plane.specs.declared.Point.{Point}
use Rattle.ring.specs.Room.{laid}
use Rattle.refusals.specs.Refusals.{none, first_of}
use Rattle.refusals.specs.Screens.{wrong_fit}
use Rattle.refusals.specs.Answers.{Outcome, answers, refuses, tells, outcome, left}
use Rattle.refusals.specs.Refusals.{Told}
use Rattle.refusals.specs.declared.Refusal.{Refusal}
use Rattle.shifted.specs.Shifted.{up_of}
use Rattle.whole_moves.specs.Moved.{down_of}
use Rattle.reasons.specs.Check.{Ground, clear, edge, enclosed}
use Rattle.drawn_aside.specs.Found.{Least, clear_by, edge_first, enclosed_by}
use Rattle.drawn_aside.specs.Told.{ring_up}
use Rattle.clear_aside.specs.Aside.{least}
use Rattle.clear_aside.specs.declared.Found.{Found}
use Rattle.drawn_rows.specs.Rows.{grid_of, of_drawn_move, of_drawn_reason}
use Rattle.clear_drawn.specs.Legs.{leg_least, leg_checked, leg_lines, LegKept}

abbrev pub judged : Result Found Refusal → Outcome Least
judged (Ok f) = answers (least f)
judged (Err r) = refuses (tells r)

-- a move as a path of two points
abbrev pub move_of : Point → Point → List Float
move_of from to = from.x ∷ from.y ∷ to.x ∷ to.y ∷ []

-- ---- `clear_move`, of a path of two points

module _ (xs ys path : List Float) (n : ℕ) where
  -- what is found
  abbrev pub move_least : Least
  move_least = leg_least (ring_up n xs) (grid_of n ys) (grid_of n path) 0 1

  -- its lines, where it is clear
  abbrev pub MoveKept : Found → List ℕ → Type 0
  MoveKept r lines = LegKept (ring_up n xs) (grid_of n ys) (grid_of n path) 0 1 r lines

  -- the lines that the search takes with this `how`, p.x p.y q.x q.y for each stationary edge, moved down again
  abbrev pub move_reason : ℕ → List ℤ
  move_reason how = map down_of (leg_lines (ring_up n xs) (grid_of n ys) (grid_of n path) 0 1 how)

  -- 5: it is clear, and a room of so many numbers is too short for the lines
  unfoldable pub short_for : Least → ℕ → Told
  short_for (clear_by how) size = wrong_fit (4 * (length xs / 2)) size
  short_for (edge_first j) size = none
  short_for (enclosed_by how) size = none

  abbrev pub of_clear_move : ℕ → Told
  of_clear_move size = first_of (of_drawn_move xs ys path n ∷ short_for move_least size ∷ [])

  -- the reason at the front of the room where it is clear, and else what the room held
  unfoldable pub written_for : Least → List ℤ → List ℤ
  written_for (clear_by how) room = laid (move_reason how) room
  written_for (edge_first j) room = room
  written_for (enclosed_by how) room = room

abbrev pub clear_move_call : List Float → List Float → Point → Point → ℕ → ℕ → Outcome Least
clear_move_call xs ys from to n size =
    outcome (of_clear_move xs ys (move_of from to) n size) (move_least xs ys (move_of from to) n)

abbrev pub clear_move_room : List Float → List Float → Point → Point → ℕ → List ℤ → List ℤ
clear_move_room xs ys from to n room =
    left (of_clear_move xs ys (move_of from to) n (length room))
    (written_for xs ys (move_of from to) n (move_least xs ys (move_of from to) n) room) room

-- ---- `check_reason`

-- what the check finds, with this `how`
abbrev pub with_how : Ground → ℕ → Least
with_how clear how = clear_by how
with_how (edge j) how = edge_first j
with_how enclosed how = enclosed_by how

abbrev pub move_checked : List Float → List Float → List Float → ℕ → ℕ → List ℤ → Ground
move_checked xs ys path n how ls = leg_checked (ring_up n xs) (grid_of n ys) (grid_of n path) 0 1 how (map up_of ls)

abbrev pub check_reason_call : List Float → List Float → Point → Point → ℕ → ℕ → List ℤ → Outcome Least
check_reason_call xs ys from to n how ls =
    outcome (of_drawn_reason xs ys (move_of from to) n how ls) (with_how (move_checked xs ys (move_of from to) n how ls) how)

-- What the call answers, and what it leaves in the room. Definitions only.
use Rattle.std.specs.Prelude.{ℕ, List, [], ◌∷◌, length, Float}
use Rattle.ring.specs.Ring.{count}
use Rattle.ring.specs.Room.{laid}
use Rattle.refusals.specs.Refusals.{first_of}
use Rattle.refusals.specs.Screens.{wrong_room}
use Rattle.refusals.specs.Rows.{of_list}
use Rattle.refusals.specs.Answers.{Outcome, outcome, left}
use Rattle.refusals.specs.Refusals.{Told}
use Rattle.simplify.specs.Simplify.{simplified}

-- 1, 2, 3, then 5 where the simplified list does not fit a room of so many numbers
unfoldable pub simplify_refusal : List Float → Float → ℕ → Told
simplify_refusal r tol size = first_of (of_list r tol ∷ wrong_room (count (simplified r tol)) size ∷ [])

abbrev pub simplify_call : List Float → Float → ℕ → Outcome ℕ
simplify_call r tol size = outcome (simplify_refusal r tol size) (count (simplified r tol))

abbrev pub simplify_room : List Float → Float → List Float → List Float
simplify_room r tol room = left (simplify_refusal r tol (length room)) (laid (simplified r tol) room) room

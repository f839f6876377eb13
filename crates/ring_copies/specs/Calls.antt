-- What the calls answer, and what they leave in the room. Definitions only.
use Rattle.std.specs.Prelude.{ℕ, List, [], ◌∷◌, length, Float}
use Rattle.ring.specs.Ring.{count}
use Rattle.ring.specs.Room.{laid}
use Rattle.refusals.specs.Refusals.{first_of}
use Rattle.refusals.specs.Screens.{wrong_room}
use Rattle.refusals.specs.Rows.{of_ring}
use Rattle.refusals.specs.Answers.{Outcome, outcome, left}
use Rattle.refusals.specs.Refusals.{Told}
use Rattle.ring_copies.specs.Copies.{mirrored, open_count, opened}

-- 1, 2, then 5 where so many points do not fit a room of so many numbers
unfoldable pub copy_refusal : List Float → ℕ → ℕ → Told
copy_refusal r points size = first_of (of_ring r ∷ wrong_room points size ∷ [])

abbrev pub mirror_call : List Float → ℕ → Outcome ℕ
mirror_call r size = outcome (copy_refusal r (count r) size) (count r)

abbrev pub mirror_room : List Float → List Float → List Float
mirror_room r room = left (copy_refusal r (count r) (length room)) (laid (mirrored r) room) room

abbrev pub open_call : List Float → ℕ → Outcome ℕ
open_call r size = outcome (copy_refusal r (open_count r) size) (open_count r)

abbrev pub open_room : List Float → List Float → List Float
open_room r room = left (copy_refusal r (open_count r) (length room)) (laid (opened r) room) room

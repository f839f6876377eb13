-- The reader of a drawing in well-known binary: when it refuses a file, and what it leaves in the room. Definitions only.
use Rattle.std.specs.Prelude.{ℕ, ◌*◌, List, [], ◌∷◌, map, length, Float}
use Rattle.std.specs.Float.{binary64}
use Rattle.std.specs.Float.Ieee.{of_bits}
use Rattle.ring.specs.Room.{laid}
use Rattle.refusals.specs.Answers.{Outcome, outcome, left}
use Rattle.refusals.specs.Refusals.{first_of}
use Rattle.refusals.specs.Screens.{short_room}
use Rattle.refusals.specs.Refusals.{Told}
use Rattle.wkb_layout.specs.Layout.{open_vertices, open_numbers}
use Rattle.wkb_layout.specs.Faults.{wkb_check}

-- the ring of a file, opened
abbrev pub open_ring : List ℕ → List Float
open_ring f = map (of_bits binary64) (open_numbers f)

-- the first of the tests that fails, for a room of so many numbers: 10 before 4
unfoldable pub read_wkb_refusal : List ℕ → ℕ → Told
read_wkb_refusal f room = first_of (wkb_check f ∷ short_room (2 * open_vertices f) room ∷ [])

-- what the call answers, and the room as it leaves it
abbrev pub read_wkb_call : List ℕ → ℕ → Outcome ℕ
read_wkb_call f room = outcome (read_wkb_refusal f room) (open_vertices f)

abbrev pub read_wkb_room : List ℕ → List Float → List Float
read_wkb_room f room = left (read_wkb_refusal f (length room)) (laid (open_ring f) room) room

-- The writer of a drawing in well-known binary: what it is lent, when it refuses, and what it leaves in the room. Definitions only.
use Rattle.std.specs.Prelude.{ℕ, suc, ◌+◌, ◌*◌, ◌/◌, List, [], ◌∷◌, ◌++◌, map, length, take, Float}
use Rattle.std.specs.Float.{binary64}
use Rattle.std.specs.Float.Ieee.{to_bits}
use Rattle.ring.specs.Room.{laid}
use Rattle.refusals.specs.Answers.{Outcome, outcome, left}
use Rattle.refusals.specs.Refusals.{first_of}
use Rattle.refusals.specs.Screens.{short_room}
use Rattle.refusals.specs.Rows.{of_polygon}
use Rattle.refusals.specs.Refusals.{Told}
use Rattle.wkb_layout.specs.Layout.{point_bytes, head_bytes, wkb_of}
use Rattle.wkb_layout.specs.declared.Order.TheVariants.{Little}

-- a ring and its first vertex again
abbrev pub closed : List Float → List Float
closed xs = xs ++ take 2 xs

-- its file, little-endian, bit for bit
abbrev pub drawing_of : List Float → List ℕ
drawing_of xs = wkb_of Little (map (to_bits binary64) (closed xs))

-- how many bytes that has
abbrev pub drawing_size : List Float → ℕ
drawing_size xs = head_bytes + point_bytes * suc (length xs / 2)

-- the first of the tests that fails, for a room of so many bytes
unfoldable pub write_wkb_refusal : List Float → ℕ → Told
write_wkb_refusal xs size = first_of (of_polygon xs ∷ short_room (drawing_size xs) size ∷ [])

-- what the call answers, and the room as it leaves it
abbrev pub write_wkb_call : List Float → ℕ → Outcome ℕ
write_wkb_call xs size = outcome (write_wkb_refusal xs size) (drawing_size xs)

abbrev pub write_wkb_room : List Float → List ℕ → List ℕ
write_wkb_room xs room = left (write_wkb_refusal xs (length room)) (laid (drawing_of xs) room) room

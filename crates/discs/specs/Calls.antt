-- What the call answers, and what it leaves in the room. Definitions only.
use Rattle.std.specs.Prelude.{ℕ, ◌*◌, Bool, ◌&&◌, List, [], ◌∷◌, length, Float}
use Rattle.std.specs.Float.Ieee.{lt}
use Rattle.scalar.specs.Float.{f0}
use Rattle.plane.specs.declared.Point.{Point}
use Rattle.ring.specs.Room.{laid}
use Rattle.refusals.specs.Refusals.{refused_number, refused_quarter, unless, first_of}
use Rattle.refusals.specs.Bounds.{finite}
use Rattle.refusals.specs.Screens.{wrong_position, wrong_number, short_room}
use Rattle.refusals.specs.Answers.{Outcome, outcome, left}
use Rattle.refusals.specs.Refusals.{Told}
use Rattle.discs.specs.Disc.{quarter_ok, disc_of}

-- finite, above 0
abbrev pub radius_ok : Float → Bool
radius_ok x = finite x && lt f0 x

abbrev pub wrong_quarter : ℕ → Told
wrong_quarter m = unless (quarter_ok m) refused_quarter 0

abbrev pub wrong_radius : Float → Told
wrong_radius x = unless (radius_ok x) refused_number 0

-- what is lent beside the room: 12, then 2
unfoldable pub of_disc : Point → Float → ℕ → Told
of_disc centre radius m = first_of (wrong_quarter m ∷ wrong_radius radius ∷ wrong_position centre ∷ [])

-- what is made of it: 2 for a vertex outside the bounds, then 4 where the vertices do not fit a room of so many numbers
unfoldable pub of_vertices : Point → Float → ℕ → ℕ → Told
of_vertices centre radius m size = first_of (wrong_number (disc_of centre radius m) ∷ short_room (2 * (4 * m)) size ∷ [])

unfoldable pub disc_refusal : Point → Float → ℕ → ℕ → Told
disc_refusal centre radius m size = first_of (of_disc centre radius m ∷ of_vertices centre radius m size ∷ [])

-- how many vertices the disc has
abbrev pub disc_call : Point → Float → ℕ → ℕ → Outcome ℕ
disc_call centre radius m size = outcome (disc_refusal centre radius m size) (4 * m)

abbrev pub disc_room : Point → Float → ℕ → List Float → List Float
disc_room centre radius m room =
    left (disc_refusal centre radius m (length room)) (laid (disc_of centre radius m) room) room

-- Worked examples, by computation: a closing repeat behind a run, with both zeros; a ring of one value; each refusal before the next. Assumes nothing.
use mathlib.Core.Path.{◌≡◌, refl}
use mathlib.Core.List.{List, [], ◌∷◌}
use lib.Ieee.{Float, eq, of_bits}
use Rattle.scalar.specs.Float.{float, f0}
use Rattle.plane.specs.Vector.{same_of}
use Rattle.ring.specs.Ring.{point_at}
use Rattle.ring.specs.Each.{each}
use Rattle.contacts.specs.Contacts.{picks}
use Rattle.refusals.specs.Refusals.{refuse}
use Rattle.refusals.specs.Bounds.{coordinate, every}
use Rattle.refusals.specs.Rows.{of_rooms}
use Rattle.refusals.specs.Answers.{answers, refuses}
use Rattle.mending.specs.Mending.{trails_from, goes_at, why_of, vertices_at, whys_at, mended_of, dropped_of, dropped_points}
use Rattle.mending.specs.Rows.{of_mendable, of_mending}
use Rattle.mending.specs.Calls.{mend_refusal, mend_call}
use Rattle.mending.specs.Restoring.{put_back}

abbrev four : Float
four = float 0x4010_0000_0000_0000

abbrev minus_zero_lem : Float
minus_zero_lem = float 0x8000_0000_0000_0000

-- (0,0) (4,0) (4,-0.0) (4,4) (-0.0,0) (0,-0.0): the third repeats the second; the last two equal the first, and the last of all the one before it
abbrev closed : List Float
closed = f0 ∷ f0 ∷ four ∷ f0 ∷ four ∷ minus_zero_lem ∷ four ∷ four ∷ minus_zero_lem ∷ f0 ∷ f0 ∷ minus_zero_lem ∷ []

triangle : mended_of closed ≡ f0 ∷ f0 ∷ four ∷ f0 ∷ four ∷ four ∷ []
unfolding vertices_at picks goes_at trails_from each same_of point_at eq of_bits
triangle = refl

-- 2 and 5 go as of a run, 4 as trailing, with their own bits
told : dropped_of closed ≡ 2 ∷ 0 ∷ 4 ∷ 1 ∷ 5 ∷ 0 ∷ []
unfolding whys_at why_of picks goes_at trails_from each same_of point_at eq of_bits
told = refl

bits : dropped_points closed ≡ four ∷ minus_zero_lem ∷ minus_zero_lem ∷ f0 ∷ f0 ∷ minus_zero_lem ∷ []
unfolding vertices_at picks goes_at trails_from each same_of point_at eq of_bits
bits = refl

whole : put_back (f0 ∷ f0 ∷ four ∷ f0 ∷ four ∷ four ∷ []) (2 ∷ 0 ∷ 4 ∷ 1 ∷ 5 ∷ 0 ∷ []) (four ∷ minus_zero_lem ∷ minus_zero_lem ∷ f0 ∷ f0 ∷ minus_zero_lem ∷ []) ≡ closed
unfolding put_back
whole = refl

-- rooms of exactly three vertices and three entries, and each of them one number short
exact : mend_call closed 6 6 6 ≡ answers (record { vertices = 3; dropped = 3 })
unfolding mend_refusal of_mendable of_mending of_rooms every coordinate picks goes_at trails_from each same_of point_at eq of_bits
exact = refl

short : (mend_call closed 5 6 6 ≡ refuses (refuse 5 0)) × (mend_call closed 6 5 6 ≡ refuses (refuse 5 0)) × (mend_call closed 6 6 5 ≡ refuses (refuse 5 0))
unfolding mend_refusal of_mendable of_mending of_rooms every coordinate picks goes_at trails_from each same_of point_at eq of_bits
short = (refl, refl, refl)

-- one value: its first vertex stays, and that is too few; no room at all comes after that
one_value : mended_of (f0 ∷ f0 ∷ minus_zero_lem ∷ f0 ∷ f0 ∷ f0 ∷ []) ≡ f0 ∷ f0 ∷ []
unfolding vertices_at picks goes_at trails_from each same_of point_at eq of_bits
one_value = refl

few_remain : mend_call (f0 ∷ f0 ∷ minus_zero_lem ∷ f0 ∷ f0 ∷ f0 ∷ []) 0 0 0 ≡ refuses (refuse 11 0)
unfolding mend_refusal of_mendable of_mending of_rooms every coordinate picks goes_at trails_from each same_of point_at eq of_bits
few_remain = refl

-- no vertex at all
nothing : mend_call [] 0 0 0 ≡ refuses (refuse 8 0)
unfolding mend_refusal of_mendable
nothing = refl

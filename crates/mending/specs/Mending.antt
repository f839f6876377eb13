-- A ring mended: of each run of neighbours that are equal as numbers the first stays, and then the vertices at the end that equal the first go.
-- Definitions only.
use Rattle.std.specs.Prelude.{ℕ, ◌-◌, Bool, not, ◌&&◌, ◌||◌, cond, List, [], ◌∷◌, eqb, Option, Some, None, Float}
use Rattle.plane.specs.Vector.{same_of}
use Rattle.ring.specs.Ring.{count, point_at}
use Rattle.ring.specs.Each.{each}
use Rattle.contacts.specs.Contacts.{picks}

-- why a vertex goes: it is a later one of a run, or it is at the end and equals the first
abbrev pub why_run : ℕ
why_run = 0

abbrev pub why_trailing : ℕ
why_trailing = 1

-- vertex i equals the one before it as numbers
abbrev pub repeats_at : List Float → ℕ → Bool
repeats_at r i = same_of (point_at r (i - 1)) (point_at r i)

-- each vertex from i on equals the first as numbers
unfoldable pub trails_from : List Float → ℕ → Bool
trails_from r i = each (λ j. same_of (point_at r 0) (point_at r j)) i (count r - i)

-- vertex i goes: it is not the first, and it repeats the one before it or is one of those at the end that equal the first
unfoldable pub goes_at : List Float → ℕ → Bool
goes_at r i = not (eqb i 0) && (repeats_at r i || trails_from r i)

abbrev pub stays_at : List Float → ℕ → Bool
stays_at r i = not (goes_at r i)

-- why it goes: as one of a run wherever it repeats the one before it
unfoldable pub why_of : List Float → ℕ → ℕ
why_of r i = cond (repeats_at r i) why_run why_trailing

-- why it goes, or nothing where it stays
unfoldable pub fate_of : List Float → ℕ → Option ℕ
fate_of r i = cond (goes_at r i) (Some (why_of r i)) None

-- ---- what stays and what goes, by rising indices

abbrev pub staying_from : List Float → ℕ → List ℕ
staying_from r i = picks (stays_at r) i (count r - i)

abbrev pub going_from : List Float → ℕ → List ℕ
going_from r i = picks (goes_at r) i (count r - i)

abbrev pub staying : List Float → List ℕ
staying r = staying_from r 0

abbrev pub going : List Float → List ℕ
going r = going_from r 0

-- ---- what is written

-- the vertices with these indices, x and y in turn
unfoldable pub vertices_at : List Float → List ℕ → List Float
vertices_at r [] = []
vertices_at r (i ∷ is) = (point_at r i).x ∷ (point_at r i).y ∷ vertices_at r is

-- each index, and why that vertex goes
unfoldable pub whys_at : List Float → List ℕ → List ℕ
whys_at r [] = []
whys_at r (i ∷ is) = i ∷ why_of r i ∷ whys_at r is

-- the mended ring
abbrev pub mended_of : List Float → List Float
mended_of r = vertices_at r (staying r)

-- per dropped vertex its index and why, and its coordinates
abbrev pub dropped_of : List Float → List ℕ
dropped_of r = whys_at r (going r)

abbrev pub dropped_points : List Float → List Float
dropped_points r = vertices_at r (going r)

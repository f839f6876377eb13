-- The grounds, their numbers, and what each says of the pairs scanned. Definitions only.
use Rattle.std.specs.Prelude.{ℕ, ◌≡◌, Bool, true, false, cond, List, eqb, Float}
use Rattle.std.specs.Float.Ieee.{lt}
use Rattle.plane.specs.Vector.{length_of}
use Rattle.plane.specs.declared.Point.{Point}
use Rattle.collision.specs.Check.{sweep_of}
use Rattle.collision.specs.Nearest.{Meets}
use Rattle.grounds.specs.Classes.{too_near, in_between, too_far}
use Rattle.grounds.specs.declared.Ground.{Ground}
use Rattle.grounds.specs.declared.Ground.TheVariants.{Hit, Short, Never, Near, Far, BothSides}

abbrev pub ground_number : Ground → ℕ
ground_number Hit = 0
ground_number Short = 1
ground_number Never = 2
ground_number Near = 3
ground_number Far = 4
ground_number BothSides = 5

-- the ground of a move that is scanned, by the hits too near, between and too far
unfoldable pub ground_by : ℕ → ℕ → ℕ → Ground
ground_by near between far =
    cond (eqb between 0) (cond (eqb near 0) (cond (eqb far 0) Never Far) (cond (eqb far 0) Near BothSides)) Hit

-- some pair has a computed hit that passes
pub record Some (st orb : List Float) (move : Point) (tol : Float) (passes : Float → Bool) : Type 0 where
  pub number : ℕ
  pub distance : Float
  pub meets : Meets st orb move tol number distance
  pub does : passes distance ≡ true

-- each computed hit passes
abbrev pub All : List Float → List Float → Point → Float → (Float → Bool) → Type 0
All st orb move tol passes = (k : ℕ) (d : Float) → Meets st orb move tol k d → passes d ≡ true

-- none does
abbrev pub None : List Float → List Float → Point → Float → (Float → Bool) → Type 0
None st orb move tol passes = (k : ℕ) (d : Float) → Meets st orb move tol k d → passes d ≡ false

-- any distance
abbrev pub any : Float → Bool
any d = true

-- the move is shorter than the tolerance, or it is not and: some hit lies between; no pair is ever hit; all hits lie at or below the tolerance;
-- all lie at or beyond the length less the tolerance; they lie on both sides, and none between. All hits needs one hit
abbrev pub Says : List Float → List Float → Point → Float → Ground → Type 0
Says st orb move tol Short = lt (length_of move) tol ≡ true
Says st orb move tol Hit = (lt (length_of move) tol ≡ false) × Some st orb move tol (in_between (sweep_of move tol))
Says st orb move tol Never = (lt (length_of move) tol ≡ false) × None st orb move tol any
Says st orb move tol Near =
    (lt (length_of move) tol ≡ false) × Some st orb move tol any × All st orb move tol (too_near (sweep_of move tol))
Says st orb move tol Far =
    (lt (length_of move) tol ≡ false) × Some st orb move tol any × All st orb move tol (too_far (sweep_of move tol))
Says st orb move tol BothSides =
    (lt (length_of move) tol ≡ false)
    × Some st orb move tol (too_near (sweep_of move tol))
    × Some st orb move tol (too_far (sweep_of move tol))
    × None st orb move tol (in_between (sweep_of move tol))

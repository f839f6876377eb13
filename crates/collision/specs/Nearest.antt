-- What the check of a move answers, over the pairs of both kinds in the order in which they are scanned. Definitions only.
use Rattle.std.specs.Prelude.{ℕ, ◌<◌, ◌≡◌, ◌⊎◌, true, false, cond, List, eqb, Float, Option, Some, None}
use Rattle.std.specs.Float.Ieee.{lt}
use Rattle.scalar.specs.Float.{◌⊖◌}
use Rattle.plane.specs.Vector.{length_of}
use Rattle.plane.specs.declared.Point.{Point}
use Rattle.ring.specs.Ring.{count, point_at}
use Rattle.pairs.specs.Pairs.{pair, pair_of, vertex_pairs}
use Rattle.pairs.specs.declared.Pair.{Pair}
use Rattle.collision.specs.Ray.{edge_ray}
use Rattle.collision.specs.Check.{sweep_of, back_of}
use Rattle.collision.specs.declared.Hit.{Hit}

-- the pair with a number in scan order: first, orbiting vertex by orbiting vertex, the stationary edges; then, stationary vertex by
-- stationary vertex, the orbiting edges
abbrev pub pair_no : List Float → List Float → ℕ → Pair
pair_no st orb k = pair_of (count st) (count orb) k

-- how many there are of these two kinds
abbrev pub scans : List Float → List Float → ℕ
scans st orb = vertex_pairs (count st) (count orb)

-- the computed ray of a pair
unfoldable pub ray_at : List Float → List Float → Point → Float → Pair → Option Float
ray_at st orb move tol p =
    let w = sweep_of move tol in
    cond (eqb p.kind 0)
    (edge_ray (point_at orb p.orbiting) w.dir st p.stationary tol)
    (edge_ray (point_at st p.stationary) (back_of w).dir orb p.orbiting tol)

-- the pair number k has a computed hit at d
pub record Meets (st orb : List Float) (move : Point) (tol : Float) (k : ℕ) (d : Float) : Type 0 where
  pub scanned : k < scans st orb
  pub at : ray_at st orb move tol (pair_no st orb k) ≡ Some d

-- and it lies strictly between the tolerance and the length less the tolerance
pub record Blocks (st orb : List Float) (move : Point) (tol : Float) (k : ℕ) (d : Float) : Type 0 where
  pub meets : Meets st orb move tol k d
  pub above : lt tol d ≡ true
  pub below : lt d (length_of move ⊖ tol) ≡ true

-- the move is shorter than the tolerance, or no pair has such a hit
abbrev pub Clear : List Float → List Float → Point → Float → Type 0
Clear st orb move tol = (lt (length_of move) tol ≡ true) ⊎ ((k : ℕ) (d : Float) → Blocks st orb move tol k d → ⊥)

-- such a hit: no other is strictly smaller, and each that is scanned before it is strictly larger
pub record NearestHit (st orb : List Float) (move : Point) (tol : Float) (d : Float) (p : Pair) : Type 0 where
  pub number : ℕ
  pub is : pair_no st orb number ≡ p
  pub blocks : Blocks st orb move tol number d
  pub least : (j : ℕ) (e : Float) → Blocks st orb move tol j e → lt e d ≡ false
  pub first : (j : ℕ) (e : Float) → j < number → Blocks st orb move tol j e → lt d e ≡ true

-- the answer: nothing where the move is clear, and else the nearest hit
pub data Told (st orb : List Float) (move : Point) (tol : Float) : Option Hit → Type 0 where
  nothing : Clear st orb move tol → Told st orb move tol None
  hit : {h : Hit} → (Clear st orb move tol → ⊥) → NearestHit st orb move tol h.distance (pair h.kind h.stationary h.orbiting) → Told st orb move tol (Some h)

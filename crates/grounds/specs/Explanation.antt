-- What the move runs into first, and the ground of that answer, over the pairs of both kinds. Definitions only.
use Rattle.std.specs.Prelude.{ℕ, ◌-◌, cond, List, Float, Option, Some, None}
use Rattle.std.specs.Float.Ieee.{lt, eq}
use Rattle.plane.specs.Vector.{length_of}
use Rattle.plane.specs.declared.Point.{Point}
use Rattle.collision.specs.Check.{sweep_of, both_of}
use Rattle.collision.specs.declared.Hit.{Hit}
use Rattle.grounds.specs.Classes.{too_near, in_between, too_far, how_many}
use Rattle.grounds.specs.Grounds.{ground_by}
use Rattle.grounds.specs.Scan.{no_tally}
use Rattle.grounds.specs.declared.Ground.{Ground}
use Rattle.grounds.specs.declared.Ground.TheVariants.{Short}
use Rattle.grounds.specs.declared.Tally.{Tally}
use Rattle.grounds.specs.declared.Explanation.{Explanation}

-- the pairs at a hit's very distance, less the hit's own
unfoldable pub others_at : List Float → List Float → Point → Float → Option Hit → ℕ
others_at st orb move tol None = 0
others_at st orb move tol (Some h) = how_many st orb move tol (λ e. eq e h.distance) - 1

-- all pairs: the nearest hit, the others at its distance, and the hits too near, between and too far
unfoldable pub tally_of : List Float → List Float → Point → Float → Tally
tally_of st orb move tol =
    let w = sweep_of move tol in
    let best = both_of st orb w in
    record {
      best = best;
      others = others_at st orb move tol best;
      near = how_many st orb move tol (too_near w);
      between = how_many st orb move tol (in_between w);
      far = how_many st orb move tol (too_far w);
    }

-- the ground by the counts
abbrev pub explanation_by : Tally → Explanation
explanation_by t = let ground : Ground = ground_by t.near t.between t.far in record { ground = ground; tally = t }

-- `explain_collision`: of a move shorter than the tolerance no pair is scanned
unfoldable pub explanation_of : List Float → List Float → Point → Float → Explanation
explanation_of st orb move tol =
    cond (lt (length_of move) tol) (record { ground = Short; tally = no_tally }) (explanation_by (tally_of st orb move tol))

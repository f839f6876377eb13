-- The one scan: what is noted of a pair's ray, pair by pair in the order of `check_translation_collision`. Definitions only.
use Rattle.std.specs.Prelude.{ℕ, ◌+◌, ◌≤◌, cond, List, Float, Option, Some, None}
use Rattle.std.specs.Float.Ieee.{lt, eq}
use Rattle.ring.specs.Ring.{count, point_at}
use Rattle.laws.specs.Turns.{turn_rows}
use Rattle.collision.specs.Ray.{edge_ray}
use Rattle.collision.specs.Hit.{kept_hit}
use Rattle.collision.specs.Parts.{pair_by}
use Rattle.collision.specs.Check.{back_of}
use Rattle.collision.specs.declared.Sweep.{Sweep}
use Rattle.collision.specs.declared.Hit.{Hit}
use Rattle.grounds.specs.Classes.{too_near, in_between, too_far, hit_is}
use Rattle.grounds.specs.declared.Tally.{Tally}

-- before the first pair
abbrev pub no_tally : Tally
no_tally = record { best = None; others = 0; near = 0; between = 0; far = 0 }

-- the others at the nearest distance, after a new hit that counts: none for a nearer one, and one more for one at that very distance
unfoldable pub others_after : ℕ → Option Hit → Option Hit → ℕ
others_after others best None = others
others_after others None (Some g) = 0
others_after others (Some h) (Some g) = cond (lt g.distance h.distance) 0 (others + cond (eq g.distance h.distance) 1 0)

-- a ray of the vertex v against the edge e
unfoldable pub noted_of : Sweep → ℕ → Tally → ℕ → ℕ → Option Float → Tally
noted_of w kind t v e ray =
    let new = pair_by ray w kind v e in
    record {
      best = kept_hit t.best new;
      others = others_after t.others t.best new;
      near = t.near + cond (hit_is (too_near w) ray) 1 0;
      between = t.between + cond (hit_is (in_between w) ray) 1 0;
      far = t.far + cond (hit_is (too_far w) ray) 1 0;
    }

-- the pair of a vertex and an edge
unfoldable pub pair_noted : List Float → List Float → Sweep → ℕ → Tally → ℕ → ℕ → Tally
pair_noted vs es w kind t v e = noted_of w kind t v e (edge_ray (point_at vs v) w.dir es e w.tolerance)

-- each vertex against each edge
unfoldable pub scan_noted : List Float → List Float → Sweep → ℕ → Tally → Tally
scan_noted vs es w kind before = turn_rows (pair_noted vs es w kind) (count es) before (count vs)

-- orbiting vertices against stationary edges, then stationary vertices against orbiting edges
unfoldable pub both_noted : List Float → List Float → Sweep → Tally
both_noted st orb w = scan_noted st orb (back_of w) 1 (scan_noted orb st w 0 no_tally)

-- the pairs of one kind, and of both, of rings of 256 vertices
abbrev pub kind_most : ℕ
kind_most = 65536

abbrev pub pairs_most : ℕ
pairs_most = 131072

-- no count is above a number
pub record AtMost (t : Tally) (most : ℕ) : Type 0 where
  pub others_below : t.others ≤ most
  pub near_below : t.near ≤ most
  pub between_below : t.between ≤ most
  pub far_below : t.far ≤ most

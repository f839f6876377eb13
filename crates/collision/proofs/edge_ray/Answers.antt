-- `collision::edge_ray` meets its contract: the two ends, and then the ray. Assumes nothing.
use Rattle.collision.specs.Ray.{edge_ray}
use Rattle.collision.proofs.edge_ray.Goals as goal

pub returns : goal.returns
unfolding edge_ray
returns c =
    rw (c.ray_segment_intersection.ensures, c.point_at-p2.ensures, c.next.ensures.0, c.point_at-p1.ensures)

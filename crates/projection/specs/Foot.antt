-- Where the foot of a point sits on an edge, by its parameter, and the numbers by which it is told. Definitions only.
use Rattle.std.specs.Prelude.{ℕ, cond, Float}
use Rattle.std.specs.Float.Ieee.{eq}
use Rattle.scalar.specs.Float.{f0, f1}
use Rattle.plane.specs.Segment.{project_of}
use Rattle.plane.specs.declared.Point.{Point}
use Rattle.projection.specs.declared.foot.Foot.{Foot}
use Rattle.projection.specs.declared.foot.Foot.TheVariants.{Start, End, Between}

-- at the edge's start (parameter 0), at its end (1), or between, compared as numbers
unfoldable pub foot_at : Float → Foot
foot_at t = cond (eq t f0) Start (cond (eq t f1) End Between)

-- the foot of p on the edge a b
unfoldable pub foot_of : Point → Point → Point → Foot
foot_of p a b = foot_at (project_of p a b)

-- 0 start, 1 end, 2 between
abbrev pub foot_code : Foot → ℕ
foot_code Start = 0
foot_code End = 1
foot_code Between = 2

-- `directions::unit` meets its contract: what is the edge has its direction. Assumes nothing.
use native.Mathlib.Omega.{arith}
use mathlib.Core.Path.{sym, ap, ◌∙◌}
use Rattle.plane.specs.Vector.{normalize_of}
use Rattle.directions.proofs.unit.Goals as goal

pub point_at-requires : goal.point_at-requires
point_at-requires c =
    omega (arith, c.requires.i_bound, c.requires.directed.most)

pub returns-then-same_point : goal.returns-then-same_point
returns-then-same_point c =
    c.point_at.ensures ∙ c.requires.directed.each _ c.requires.i_bound ∙ ap normalize_of (sym c.edge.ensures ∙ sym (c.same_point.ensures c.if-same_point.true))

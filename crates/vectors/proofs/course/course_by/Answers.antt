-- `vectors::course::course_by` meets its contract: each kind has its own. Assumes nothing.
use native.Mathlib.Omega.{arith}
use mathlib.Core.Path.{sym, ◌∙◌}
use Rattle.vectors.specs.Vectors.{vector_by}
use Rattle.contacts.proofs.ByKind.{of_0, of_1, of_2}
use Rattle.vectors.proofs.Along.{stationary_edge, orbiting_edge}
use Rattle.vectors.proofs.course.course_by.Goals as goal

pub over_edge-requires : goal.over_edge-requires
over_edge-requires c = stationary_edge _ _ c.requires (λ k. omega (arith, c.in-0.is))

pub over_vertex-requires : goal.over_vertex-requires
over_vertex-requires c = orbiting_edge _ _ c.requires c.in-1.is

pub over_both-requires : goal.over_both-requires
over_both-requires c = stationary_edge _ _ c.requires c.in_default.in_default-own.rest.1

pub returns-in-0 : goal.returns-in-0
unfolding vector_by
returns-in-0 c = c.over_edge.ensures ∙ sym (of_0 _ _ _ _ c.in-0.is)

pub returns-in-1 : goal.returns-in-1
unfolding vector_by
returns-in-1 c = c.over_vertex.ensures ∙ sym (of_1 _ _ _ _ c.in-1.is)

pub returns-in_default : goal.returns-in_default
unfolding vector_by
returns-in_default c =
    let m = c.in_default.in_default-own.rest in
    c.over_both.ensures ∙ sym (of_2 _ _ _ _ m.0.1 m.1)

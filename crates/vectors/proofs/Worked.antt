-- Worked examples, by computation: the vectors of docs/SCOPE.md's S and Q where Q starts, and those that are left once that position is visited.
-- Assumes nothing.
use Prim.Native.Nat.{ℕ}
use mathlib.Core.Path.{◌≡◌, refl, ap, ◌∙◌}
use mathlib.Core.List.{List, [], ◌∷◌}
use lib.Ieee.{Float, add, sub, mul, div, lt, neg, of_bits}
use Rattle.scalar.specs.Float.{float, f0, f1, f2}
use Rattle.scalar.specs.Scalar.{minus_zero, ahead, or_number, smaller_of}
use Rattle.square_root.specs.Root.{sqrt_of}
use Rattle.plane.specs.Vector.{point, minus_of, dot_of, length_of, distance_of, normalize_of, ahead_of}
use Rattle.plane.specs.declared.Point.{Point}
use Rattle.ring.specs.Ring.{point_at}
use Rattle.ring.specs.Each.{each}
use Rattle.pairs.specs.Pairs.{pair_of}
use Rattle.contacts.specs.Touching.{edge_end, edges_of}
use Rattle.contacts.proofs.Worked.{S, Q, tol, four, minus_two, numbers}
use Rattle.vectors.specs.Vectors.{opposite_of, direction_of, vertex_edge, edge_vertex, edge_edge, vector_by, vector_of, vectors_from, vectors_of, vector_numbers, sources_of}
use Rattle.vectors.specs.Fit.{apart_from, visited_of, potential_of, keeps, kept_vectors, fit_of}

abbrev six : Float
six = float 0x4018_0000_0000_0000

-- -0.0, -1.0
abbrev m0 : Float
m0 = neg f0

abbrev m1 : Float
m1 = neg f1

-- two for each of the six contacts: three of a vertex on an edge, two of an edge on a vertex, one of two edges
pub vectors : vector_numbers (vectors_of S Q tol)
    ≡ f1 ∷ f0 ∷ f2 ∷ m1 ∷ m0 ∷ f2 ∷ f1 ∷ f0 ∷ four ∷ m1 ∷ m0 ∷ f0 ∷ f0 ∷ m1 ∷ f0 ∷ m0 ∷ f1 ∷ four ∷ f1 ∷ m0 ∷ f0 ∷ m1 ∷ f0 ∷ f2 ∷ m0 ∷ f1 ∷ f2 ∷ f0 ∷ m1 ∷ f0 ∷ f1 ∷ f0 ∷ six ∷ m1 ∷ m0 ∷ six ∷ []
unfolding vector_numbers vectors_from vector_of vector_by vertex_edge edge_vertex edge_edge direction_of opposite_of normalize_of edges_of edge_end pair_of point_at minus_of dot_of length_of distance_of sqrt_of add sub mul div lt neg of_bits
vectors = ap (λ (ks : List ℕ). vector_numbers (vectors_from S Q 0 ks)) numbers ∙ refl

-- Q's position
abbrev start : Point
start = point f0 minus_two

abbrev visited : List Float
visited = f0 ∷ minus_two ∷ []

-- four of them lead back to it
pub kept_sources : sources_of (fit_of S Q start visited tol) ≡ 0 ∷ 0 ∷ 1 ∷ 2 ∷ 3 ∷ 4 ∷ 5 ∷ 5 ∷ []
unfolding sources_of kept_vectors keeps visited_of apart_from each potential_of ahead_of smaller_of or_number ahead minus_zero vectors_from vector_of vector_by vertex_edge edge_vertex edge_edge direction_of opposite_of normalize_of edges_of edge_end pair_of point_at minus_of dot_of length_of distance_of sqrt_of add sub mul div lt neg of_bits
kept_sources = ap (λ (ks : List ℕ). sources_of (kept_vectors (keeps start visited tol) (vectors_from S Q 0 ks))) numbers ∙ refl

-- The two vectors of each kind of contact, in the order of operations of `nfp_sliding.rs`. Definitions only.
use Rattle.std.specs.Prelude.{ℕ, suc, cond, List, [], ◌∷◌, eqb, Float}
use Rattle.std.specs.Float.Ieee.{neg}
use Rattle.scalar.specs.Float.{◌⊕◌}
use Rattle.plane.specs.Vector.{point, minus_of, normalize_of, distance_of}
use Rattle.plane.specs.declared.Point.{Point}
use Rattle.ring.specs.Ring.{count}
use Rattle.pairs.specs.Pairs.{pair_of}
use Rattle.contacts.specs.Touching.{by_kind, edges_of}
use Rattle.contacts.specs.Contacts.{contacts_of}
use Rattle.contacts.specs.declared.Edges.{Edges}
use Rattle.vectors.specs.declared.TranslationVector.{TranslationVector}

abbrev pub vector : Point → Float → TranslationVector
vector dir far = record { direction = dir; distance = far }

unfoldable pub opposite_of : Point → Point
opposite_of v = point (neg v.x) (neg v.y)

unfoldable pub direction_of : Point → Point → Point
direction_of a b = normalize_of (minus_of b a)

-- the first or the second
abbrev pub by_side : ℕ → TranslationVector → TranslationVector → TranslationVector
by_side side v w = cond (eqb side 0) v w

-- the orbiting vertex on the stationary edge: to its end, back to its start
unfoldable pub vertex_edge : Edges → ℕ → TranslationVector
vertex_edge e side =
    let dir = direction_of e.a e.b in
    by_side side (vector dir (distance_of e.c e.b)) (vector (opposite_of dir) (distance_of e.c e.a))

-- the stationary vertex on the orbiting edge: the other way, until it is at the edge's end; along it, until it is at its start
unfoldable pub edge_vertex : Edges → ℕ → TranslationVector
edge_vertex e side =
    let dir = direction_of e.c e.d in
    by_side side (vector (opposite_of dir) (distance_of e.a e.d)) (vector dir (distance_of e.a e.c))

-- two edges: along the stationary one and back, for the sum of the two lengths
unfoldable pub edge_edge : Edges → ℕ → TranslationVector
edge_edge e side =
    let dir = direction_of e.a e.b in
    let far = distance_of e.a e.b ⊕ distance_of e.c e.d in
    by_side side (vector dir far) (vector (opposite_of dir) far)

unfoldable pub vector_by : ℕ → Edges → ℕ → TranslationVector
vector_by kd e side = by_kind kd (vertex_edge e side) (edge_vertex e side) (edge_edge e side)

-- a vector of contact k
unfoldable pub vector_of : List Float → List Float → ℕ → ℕ → TranslationVector
vector_of st orb k side =
    let p = pair_of (count st) (count orb) k in
    vector_by p.kind (edges_of st orb p) side

-- a vector and the index of its contact
pub record Sourced : Type 0 where
  pub slide : TranslationVector
  pub source : ℕ

abbrev pub sourced : TranslationVector → ℕ → Sourced
sourced v i = record { slide = v; source = i }

-- the two of each contact, the first of which has the index i
unfoldable pub vectors_from : List Float → List Float → ℕ → List ℕ → List Sourced
vectors_from st orb i [] = []
vectors_from st orb i (k ∷ ks) = sourced (vector_of st orb k 0) i ∷ sourced (vector_of st orb k 1) i ∷ vectors_from st orb (suc i) ks

-- `compute_translation_vectors`: the vectors of all contacts
abbrev pub vectors_of : List Float → List Float → Float → List Sourced
vectors_of st orb tol = vectors_from st orb 0 (contacts_of st orb tol)

-- per vector its direction and its distance
unfoldable pub vector_numbers : List Sourced → List Float
vector_numbers [] = []
vector_numbers (s ∷ ss) = s.slide.direction.x ∷ s.slide.direction.y ∷ s.slide.distance ∷ vector_numbers ss

unfoldable pub sources_of : List Sourced → List ℕ
sources_of [] = []
sources_of (s ∷ ss) = s.source ∷ sources_of ss

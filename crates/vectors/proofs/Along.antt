-- The edge along which the vectors of each kind lead. Assumes nothing.
use Prim.Native.Nat.{ℕ}
use mathlib.Core.Path.{◌≡◌, ◌∙◌}
use borrow.Author.Tests.{eq-eqb, ne_eqb}
use Rattle.plane.specs.declared.Point.{Point}
use Rattle.contacts.specs.declared.Edges.{Edges}
use Rattle.vectors.specs.Vectors.{direction_of}
use Rattle.vectors.specs.Courses.{along_by}

module _ (kd : ℕ) (e : Edges) {v : Point} (h : v ≡ along_by kd e) where
  pub stationary_edge : (kd ≡ 1 → ⊥) → v ≡ direction_of e.a e.b
  unfolding along_by
  stationary_edge k = h ∙ (rw (ne_eqb kd 1 k))

  pub orbiting_edge : kd ≡ 1 → v ≡ direction_of e.c e.d
  unfolding along_by
  orbiting_edge k = h ∙ (rw (eq-eqb kd 1 k))

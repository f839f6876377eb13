-- What is left of the vectors at a place, and what a step takes of it. Definitions only.
use Rattle.std.specs.Prelude.{ℕ, ◌+◌, ◌*◌, ◌≤◌, ◌<◌, ◌≡◌, cond, List, [], ◌∷◌, eqb, Option, Some, None, Float}
use Rattle.plane.specs.declared.Point.{Point}
use Rattle.ring.specs.Ring.{count}
use Rattle.pairs.specs.Pairs.{pair_count}
use Rattle.contacts.specs.Contacts.{contacts_from}
use Rattle.vectors.specs.Vectors.{Sourced, sourced, vector_of, vectors_from}
use Rattle.vectors.specs.Fit.{kept_vectors, keeps}
use Rattle.vectors.specs.declared.Place.{Place}
use Rattle.vectors.specs.declared.Step.{Step}

-- the place before all vectors
abbrev pub front : Place
front = record { contact = 0; side = 0; source = 0 }

-- a place of the pairs of two rings
pub record Ready (st orb : List Float) (p : Place) : Type 0 where
  pub side_most : p.side ≤ 1
  pub contact_most : p.contact + p.side ≤ pair_count (count st) (count orb)
  pub source_most : p.source ≤ p.contact

-- what is left there
unfoldable pub left_at : List Float → List Float → Float → Place → List Sourced
left_at st orb tol p =
    cond (eqb p.side 0)
    (vectors_from st orb p.source (contacts_from st orb tol p.contact))
    (sourced (vector_of st orb p.contact 1) p.source ∷ vectors_from st orb (p.source + 1) (contacts_from st orb tol (p.contact + 1)))

-- how far a place is
abbrev pub far : Place → ℕ
far p = 2 * p.contact + p.side

-- a step from a place p to the place q behind the vector s, of what g sees of the vectors
pub record Behind (st orb : List Float) (tol : Float) (g : List Sourced → List Sourced) (p : Place) (s : Sourced) (q : Place) : Type 0 where
  pub then : g (left_at st orb tol p) ≡ s ∷ g (left_at st orb tol q)
  pub ready : Ready st orb q
  pub farther : far p < far q

abbrev pub Takes : List Float → List Float → Float → (List Sourced → List Sourced) → Place → Option Step → Type 0
Takes st orb tol g p None = g (left_at st orb tol p) ≡ []
Takes st orb tol g p (Some s) = Behind st orb tol g p (sourced s.vector s.source) s.rest

-- all vectors, or those that lead to no visited position
abbrev pub all_left : List Sourced → List Sourced
all_left l = l

abbrev pub kept_left : Point → List Float → Float → List Sourced → List Sourced
kept_left from visited tol l = kept_vectors (keeps from visited tol) l

-- The numbers that say which contact it is and where its foot sits. Definitions only.
use Rattle.std.specs.Prelude.{ℕ, List, [], ◌∷◌, Float}
use Rattle.ring.specs.Ring.{count}
use Rattle.pairs.specs.Pairs.{pair_of}
use Rattle.pairs.specs.declared.Pair.{Pair}
use Rattle.contacts.specs.Touching.{by_kind, edges_of}
use Rattle.contacts.specs.declared.Edges.{Edges}
use Rattle.projection.specs.Foot.{foot_of, foot_code}
use Rattle.projection.specs.declared.foot.Foot.{Foot}

-- for a vertex contact the foot on the edge it touches, for an edge-edge contact the foot of the orbiting edge's first end on the stationary edge
unfoldable pub foot_by : ℕ → Edges → Foot
foot_by kd e = by_kind kd (foot_of e.c e.a e.b) (foot_of e.a e.c e.d) (foot_of e.c e.a e.b)

unfoldable pub contact_foot : List Float → List Float → Pair → Foot
contact_foot st orb p = foot_by p.kind (edges_of st orb p)

-- how many numbers a contact takes
abbrev pub entry : ℕ
entry = 4

-- per contact its kind, its stationary and its orbiting index, and the code of its foot
unfoldable pub which_of : List Float → List Float → List ℕ → List ℕ
which_of st orb [] = []
which_of st orb (k ∷ ks) =
    let p = pair_of (count st) (count orb) k in
    p.kind ∷ p.stationary ∷ p.orbiting ∷ foot_code (contact_foot st orb p) ∷ which_of st orb ks

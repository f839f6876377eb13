-- The directions at hand are those of a contact's edges. Assumes nothing.
use Prim.Native.Nat.{ℕ, ◌<◌}
use native.Mathlib.Omega.{arith}
use mathlib.Core.Path.{◌≡◌, refl, ◌∙◌}
use mathlib.Core.List.{List}
use lib.Ieee.{Float}
use Rattle.ring.specs.Ring.{count, point_at}
use Rattle.pairs.specs.Pairs.{Sides, Within, pair_count, pair_of}
use Rattle.pairs.specs.declared.Pair.{Pair}
use Rattle.pairs.proofs.Numbers.{within}
use Rattle.contacts.specs.Touching.{edge_end, edges_of}
use Rattle.contacts.specs.declared.Edges.{Edges}
use Rattle.vectors.specs.Vectors.{direction_of}
use Rattle.directions.specs.Directions.{edge_of, Directed}

-- of the pair k: that of its stationary edge, and the orbiting one as drawn
pub at_hand : (st orb dirs drawn headings : List Float) (k : ℕ) {p : Pair} {e : Edges} → Sides (count st) (count orb) → k < pair_count (count st) (count orb)
    → Directed dirs st → (count orb ≡ count drawn) × Directed headings drawn → p ≡ pair_of (count st) (count orb) k → e ≡ edges_of st orb p
    → (p.stationary < count dirs) × ((point_at dirs p.stationary ≡ direction_of e.a e.b) × ((p.orbiting < count drawn) × Directed headings drawn))
unfolding edges_of edge_end edge_of direction_of
at_hand st orb dirs drawn headings k {p} s l d h q f =
    let w : Within (count st) (count orb) p = rw q (within _ _ s _ l) in
    let b = w.stationary_below in
    (omega (arith, b, d.most), (d.each p.stationary b ∙ (rw f refl), (omega (arith, w.orbiting_below, h.0), h.1)))

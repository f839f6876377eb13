-- The ends of an edge of a closed ring, and whether its line parts it: by three tests, in the order of the code. Assumes nothing.
use Prim.Native.Nat.{ℕ, suc, ◌/◌, ◌<◌}
use native.Mathlib.Nat.{mod-eq_of_lt}
use native.Mathlib.Numerals.{add-one}
use mathlib.Core.Path.{◌≡◌, refl}
use mathlib.Core.Bool.{Bool, true, false, ◌&&◌}
use mathlib.Core.List.{List}
use lib.ListN.{length}
use Rattle.ring.specs.Ring.{next_of}
use Rattle.shifted.specs.Shifted.{spot_at}
use Rattle.shifted.specs.declared.Spot.{Spot}
use Rattle.reasons.specs.Parting.{differ, way_left, edge_right, parts}
use Rattle.reasons.specs.Check.{corner, line_from, line_to, parts_at}

-- ---- the ends of edge j

module _ (st : List ℕ) (j : ℕ) {v : Spot} where
  pub first_end : j < length st / 2 → v ≡ spot_at st j → v ≡ corner st j
  first_end h e = rw (mod-eq_of_lt h) e

  pub second_end : {k : ℕ} → k ≡ next_of j (length st / 2) → v ≡ spot_at st k → v ≡ corner st (suc j)
  second_end f e = rw (← (add-one j), ← f) e

-- ---- a line

both_ways : (w e : Bool) → w && e ≡ e && w
both_ways true true = refl
both_ways true false = refl
both_ways false true = refl
both_ways false false = refl

module _ (a b : ℕ → Spot) (n : ℕ) (s t p q : Spot) {d : Bool} (is : d ≡ differ p q) where
  pub one_point : d ≡ false → false ≡ parts a b n s t p q
  unfolding parts
  one_point h = rw (← is, h)

  module _ {e : Bool} (two : d ≡ true) (right : e ≡ edge_right p q s t) where
    pub edge_off : e ≡ false → false ≡ parts a b n s t p q
    unfolding parts
    edge_off h = rw (← is, two, both_ways (way_left a b n p q) (edge_right p q s t), ← right, h)

    pub way_decides : {w : Bool} → e ≡ true → w ≡ way_left a b n p q → w ≡ parts a b n s t p q
    unfolding parts
    way_decides h f = rw (← is, two, both_ways (way_left a b n p q) (edge_right p q s t), ← right, h) f

pub parts_at_lem : (st a b ls : List ℕ) (j : ℕ) {s t p q : Spot} {r : Bool} → s ≡ corner st j → t ≡ corner st (suc j)
    → p ≡ line_from ls j → q ≡ line_to ls j → r ≡ parts (spot_at a) (spot_at b) (length a / 2) s t p q → r ≡ parts_at st a b ls j
parts_at_lem st a b ls j es et ep eq h = rw (← es, ← et, ← ep, ← eq) h

-- The row of an edge i: what `clear_row` keeps from edge to edge. Assumes nothing.
use Prim.Native.Nat.{ℕ, ◌+◌, ◌-◌, ◌%◌, ◌≤◌, ◌<◌}
use mathlib.Core.Path.{◌≡◌, refl, sym, ◌∙◌}
use mathlib.Core.Bool.{Bool, true, false, not, ◌||◌}
use mathlib.Core.List.{List}
use native.Mathlib.Omega.{arith}
use native.Mathlib.Nat.{mod-eq_of_lt}
use lib.Ieee.{Float}
use Rattle.plane.specs.Vector.{turn_of}
use Rattle.plane.specs.declared.Point.{Point}
use Rattle.ring.specs.Each.{each}
use Rattle.ring.specs.Ring.{count, point_at, next_of}
use Rattle.ring.proofs.Each.{each_on, each_off, each_end}
use Rattle.segments.specs.Segments.{intersect_of}
use Rattle.simple_polygon.specs.Simple.{adjacent_of, clear_pair, clear_row}

-- the row from j on decides, the edge j starts at b1, and d3 is the turn of b1 about the edge i, which is a1 a2
pub record Row (r : List Float) (i : ℕ) (a1 a2 b1 : Point) (d3 : Float) (j : ℕ) : Type 0 where
  pub past : i < j
  pub most : j ≤ count r
  pub start : b1 ≡ point_at r (j % count r)
  pub side : d3 ≡ turn_of a1 a2 b1
  pub left : clear_row r i ≡ each (clear_pair r i) j (count r - j)

pub first_edge : (r : List Float) (i : ℕ) {a1 a2 b1 : Point} {d3 : Float} → i < count r → b1 ≡ point_at r (next_of i (count r))
    → d3 ≡ turn_of a1 a2 b1 → Row r i a1 a2 b1 d3 (i + 1)
unfolding clear_row
first_edge r i h s e = record { past = omega arith; most = omega arith; start = s; side = e; left = refl }

module _ (r : List Float) (i : ℕ) {a1 a2 b1 b2 : Point} {d3 : Float} {j : ℕ} {s q : Bool} (R : Row r i a1 a2 b1 d3 j) (h : j < count r)
    (e1 : a1 ≡ point_at r i) (e2 : a2 ≡ point_at r (next_of i (count r))) (e3 : b2 ≡ point_at r (next_of j (count r)))
    (e4 : s ≡ adjacent_of i j (count r)) (e5 : q ≡ (s || not (intersect_of a1 a2 b1 b2))) where
  pair_is : q ≡ clear_pair r i j
  unfolding clear_pair
  pair_is = rw (e5, e4, R.start, e1, e2, e3, mod-eq_of_lt h)

  pub next_edge : {d4 : Float} → d4 ≡ turn_of a1 a2 b2 → q ≡ true → Row r i a1 a2 b2 d4 (j + 1)
  next_edge e t =
      record {
        past = omega (arith, R.past);
        most = omega arith;
        start = e3;
        side = e;
        left = R.left ∙ each_on _ _ _ h (sym pair_is ∙ t);
      }

  pub edge_off : q ≡ false → clear_row r i ≡ false
  edge_off t = R.left ∙ each_off _ _ _ h (sym pair_is ∙ t)

pub no_more : (r : List Float) (i : ℕ) {a1 a2 b1 : Point} {d3 : Float} {j : ℕ} → Row r i a1 a2 b1 d3 j → count r ≤ j → clear_row r i ≡ true
no_more r i R h = R.left ∙ each_end _ _ _ h

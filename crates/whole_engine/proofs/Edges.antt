-- The row of an edge i: what `clear_row` keeps from edge to edge. Assumes nothing.
use Prim.Native.Nat.{ℕ, ◌+◌, ◌-◌, ◌%◌, ◌≤◌, ◌<◌}
use mathlib.Core.Path.{◌≡◌, refl, sym, ◌∙◌}
use mathlib.Core.Bool.{Bool, true, false, not, ◌||◌}
use native.Mathlib.Omega.{arith}
use native.Mathlib.Nat.{mod-eq_of_lt}
use lib.IntN.{ℤ}
use Rattle.ring.specs.Each.{each}
use Rattle.ring.specs.Ring.{next_of}
use Rattle.ring.proofs.Each.{each_on, each_off, each_end}
use Rattle.simple_polygon.specs.Simple.{adjacent_of}
use Rattle.shifted.specs.Shifted.{Small}
use Rattle.shifted.specs.declared.Spot.{Spot}
use Rattle.whole_rules.specs.Segments.{whole_turn, whole_intersect}
use Rattle.whole_rules.specs.Simple.{whole_clear_pair, whole_clear_row}

-- the row from j on decides, the edge j starts at b1, and d3 is the turn of b1 about the edge i, which is a1 a2
pub record Row (at : ℕ → Spot) (n i : ℕ) (a1 a2 b1 : Spot) (d3 : ℤ) (j : ℕ) : Type 0 where
  pub past : i < j
  pub most : j ≤ n
  pub small : Small b1
  pub start : b1 ≡ at (j % n)
  pub side : d3 ≡ whole_turn a1 a2 b1
  pub left : whole_clear_row at n i ≡ each (whole_clear_pair at n i) j (n - j)

pub first_edge : (at : ℕ → Spot) (n i : ℕ) {a1 a2 b1 : Spot} {d3 : ℤ} → i < n → Small b1 → b1 ≡ at (next_of i n)
    → d3 ≡ whole_turn a1 a2 b1 → Row at n i a1 a2 b1 d3 (i + 1)
unfolding whole_clear_row
first_edge at n i h m s e = record { past = omega arith; most = omega arith; small = m; start = s; side = e; left = refl }

module _ (at : ℕ → Spot) (n i : ℕ) {a1 a2 b1 b2 : Spot} {d3 : ℤ} {j : ℕ} {s q : Bool} (R : Row at n i a1 a2 b1 d3 j) (h : j < n)
    (e1 : a1 ≡ at i) (e2 : a2 ≡ at (next_of i n)) (e3 : b2 ≡ at (next_of j n))
    (e4 : s ≡ adjacent_of i j n) (e5 : q ≡ (s || not (whole_intersect a1 a2 b1 b2))) where
  pair_is : q ≡ whole_clear_pair at n i j
  unfolding whole_clear_pair
  pair_is = rw (e5, e4, R.start, e1, e2, e3, mod-eq_of_lt h)

  pub next_edge : {d4 : ℤ} → Small b2 → d4 ≡ whole_turn a1 a2 b2 → q ≡ true → Row at n i a1 a2 b2 d4 (j + 1)
  next_edge m e t =
      record {
        past = omega (arith, R.past);
        most = omega arith;
        small = m;
        start = e3;
        side = e;
        left = R.left ∙ each_on _ _ _ h (sym pair_is ∙ t);
      }

  pub edge_off : q ≡ false → whole_clear_row at n i ≡ false
  edge_off t = R.left ∙ each_off _ _ _ h (sym pair_is ∙ t)

pub no_more : (at : ℕ → Spot) (n i : ℕ) {a1 a2 b1 : Spot} {d3 : ℤ} {j : ℕ} → Row at n i a1 a2 b1 d3 j → n ≤ j → whole_clear_row at n i ≡ true
no_more at n i R h = R.left ∙ each_end _ _ _ h

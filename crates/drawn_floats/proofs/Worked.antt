-- The definitions say something: a square that slides up beside a ring by (0.25, 2.25), drawn in quarters, on a grid of whole
-- numbers. Drawn they overlap by half a unit and more; the middle of the square, half-way, is 4 units deep inside, and by the
-- theorem outside the ring.
use Prim.Native.Nat.{ℕ, zero, suc, ◌≤◌}
use native.Mathlib.Omega.{arith}
use mathlib.Core.Path.{◌≡◌, refl}
use mathlib.Core.Bool.{false}
use mathlib.Core.List.{List, [], ◌∷◌, map}
use lib.IntN.{ℤ, pos, negsuc, ◌+ℤ◌}
use lib.Ieee.{Float, fin}
use Rattle.ring.specs.Each.{each}
use Rattle.shifted.specs.Shifted.{up_of}
use Rattle.whole_engine.specs.Rows.{all_in_bounds}
use Rattle.whole_moves.specs.Moved.{moved_by}
use Rattle.reasons.specs.Hull.{total, sum_x, sum_y}
use Rattle.reasons.specs.Moves.{legs_from, starts, ends}
use Rattle.reasons.specs.Crossing.{crosses, ups, downs}
use Rattle.reasons.specs.Reason.{mark, marks_up, marks_down}
use Rattle.reasons.specs.Parting.{left_on, right_on, way_left, edge_right, differ, parts}
use Rattle.reasons.specs.Lowest.{lower, low_spot}
use Rattle.reasons.specs.First.{first_from}
use Rattle.reasons.specs.Check.{clear, balance, judged, ground_of, corner, check_of}
use Rattle.reasons.specs.Drawn.{DeepAt}
use Rattle.drawn.specs.Told.{legs_of, ApartBy}
use Rattle.to_grid.specs.Grid.{nearest}
use Rattle.drawn_floats.specs.Picture.{size_of, Picture, PutOn}
use Rattle.drawn_floats.proofs.Told.{floats_apart}

-- ---- the floats

-- so many quarters, an odd number
abbrev quarters : ℕ → Float
quarters m = fin false m (negsuc 1)

-- 29.75, 6.25, 33.75, 6.25, 33.75, 14.25, 29.75, 14.25
abbrev xs : List Float
xs =
    quarters 119 ∷ quarters 25 ∷ quarters 135 ∷ quarters 25 ∷ quarters 135 ∷ quarters 57 ∷ quarters 119 ∷ quarters 57 ∷ []

-- 22.25, 8, 30.25, 8, 30.25, 16, 22.25, 16
abbrev ys : List Float
ys =
    quarters 89 ∷ fin false 1 (pos 3) ∷ quarters 121 ∷ fin false 1 (pos 3) ∷ quarters 121 ∷ fin false 1 (pos 4) ∷ quarters 89
    ∷ fin false 1 (pos 4) ∷ []

-- ---- on the grid

-- where they are drawn, and at the end
abbrev zero_float : Float
zero_float = fin false 0 (pos 0)

abbrev start : List ℤ
start = pos 22 ∷ pos 8 ∷ pos 30 ∷ pos 8 ∷ pos 30 ∷ pos 16 ∷ pos 22 ∷ pos 16 ∷ []

abbrev end : List ℤ
end = pos 22 ∷ pos 10 ∷ pos 30 ∷ pos 10 ∷ pos 30 ∷ pos 18 ∷ pos 22 ∷ pos 18 ∷ []

-- nothing aside
none : (z : ℤ) → z ≡ z +ℤ pos 0 → (u : ℤ) × (size_of u ≤ 0) × (z ≡ z +ℤ u)
none z e = (pos 0, omega arith, e)

put : PutOn 1 0 xs ys zero_float zero_float (quarters 1) (quarters 9) start end
unfolding all_in_bounds nearest moved_by
put =
    record {
      some = omega arith;
      starts = (none _ refl, (none _ refl, (none _ refl, (none _ refl, (none _ refl, (none _ refl, (none _ refl, (none _ refl, tt))))))));
      ends = (none _ refl, (none _ refl, (none _ refl, (none _ refl, (none _ refl, (none _ refl, (none _ refl, (none _ refl, tt))))))));
      ring_within = refl;
      starts_within = refl;
      ends_within = refl;
    }

-- the line x = 30, for each edge
abbrev ls : List ℕ
ls =
    1000030 ∷ 1000006 ∷ 1000030 ∷ 1000014 ∷ 1000030 ∷ 1000006 ∷ 1000030 ∷ 1000014 ∷ 1000030 ∷ 1000006 ∷ 1000030 ∷ 1000014
    ∷ 1000030 ∷ 1000006 ∷ 1000030 ∷ 1000014 ∷ []

checked : check_of (map up_of (map (nearest 1) xs)) (map up_of start) (map up_of end) ls ≡ clear
unfolding ground_of judged first_from parts differ way_left edge_right left_on right_on each balance marks_up marks_down mark low_spot lower
    up_of nearest
checked = refl

-- ---- the picture, in quarters of a unit

abbrev ring : List ℕ
ring = 8000119 ∷ 8000025 ∷ 8000135 ∷ 8000025 ∷ 8000135 ∷ 8000057 ∷ 8000119 ∷ 8000057 ∷ []

abbrev c : List ℕ
c = 8000089 ∷ 8000032 ∷ 8000121 ∷ 8000032 ∷ 8000121 ∷ 8000064 ∷ 8000089 ∷ 8000064 ∷ []

abbrev d : List ℕ
d = 8000090 ∷ 8000041 ∷ 8000122 ∷ 8000041 ∷ 8000122 ∷ 8000073 ∷ 8000090 ∷ 8000073 ∷ []

picture : Picture 2 1 xs ys zero_float zero_float (quarters 1) (quarters 9) ring c d
picture =
    record {
      corners = c;
      from_x = 8000000;
      from_y = 8000000;
      to_x = 8000001;
      to_y = 8000009;
      stationary = omega arith;
      orbiting = omega arith;
      from_across = omega arith;
      from_upward = omega arith;
      to_across = omega arith;
      to_upward = omega arith;
      starts = omega arith;
      ends = omega arith;
    }

apart : ApartBy 12 ring c d
apart = floats_apart picture put ls checked

-- ---- a point deep inside

abbrev four : ℕ → ℕ → ℕ → ℕ → ℕ → ℕ
four p q r s zero = p
four p q r s (suc zero) = q
four p q r s (suc (suc zero)) = r
four p q r s (suc (suc (suc i))) = s

middle : DeepAt 12 (legs_of c d) 1 1 2 32000422 32000210
unfolding legs_from starts ends total sum_x sum_y
middle =
    record {
      inside =
          record {
            r = 64;
            some = omega arith;
            across = omega arith;
            upward = omega arith;
            east = record { weight = four 0 1 1 0; all = refl; across = refl; upward = refl };
            west = record { weight = four 1 0 0 1; all = refl; across = refl; upward = refl };
            north = record { weight = four 0 0 1 1; all = refl; across = refl; upward = refl };
            south = record { weight = four 1 1 0 0; all = refl; across = refl; upward = refl };
          };
      far = omega arith;
    }

so : ups (corner ring) 4 4 32000422 32000210 ≡ downs (corner ring) 4 4 32000422 32000210
so = apart.outside 1 1 2 32000422 32000210 middle

-- one edge crosses upwards, and so one downwards
once : ups (corner ring) 4 4 32000422 32000210 ≡ 1
unfolding ups crosses
once = refl

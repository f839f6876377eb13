-- Worked examples, by computation: x and y move each by their own, at a bound and past it, and back down. Assumes nothing.
use mathlib.Core.Path.{◌≡◌, refl}
use mathlib.Core.Bool.{true, false}
use mathlib.Core.List.{List, [], ◌∷◌}
use lib.IntN.{ℤ, pos, negsuc}
use Rattle.shifted.specs.Shifted.{up_of}
use Rattle.whole_engine.specs.Rows.{all_in_bounds}
use Rattle.whole_moves.specs.Moved.{moved_by, moved_up, down_of}

-- (3, -2), (0, 7) and (-5, 4) moved by (-1, 10)
spots : List ℤ
spots = pos 3 ∷ negsuc 1 ∷ pos 0 ∷ pos 7 ∷ negsuc 4 ∷ pos 4 ∷ []

moved : moved_by (negsuc 0) (pos 10) spots ≡ pos 2 ∷ pos 8 ∷ negsuc 0 ∷ pos 17 ∷ negsuc 5 ∷ pos 14 ∷ []
unfolding spots moved_by
moved = refl

up : moved_up spots (negsuc 0) (pos 10) ≡ 1000002 ∷ 1000008 ∷ 999999 ∷ 1000017 ∷ 999994 ∷ 1000014 ∷ []
unfolding spots moved_by up_of
up = refl

-- (999999, -999999) moved by (1, -1) is at the bounds, and by (1, -2) past the lower one
edge : List ℤ
edge = pos 999999 ∷ negsuc 999998 ∷ []

at_the_bounds : all_in_bounds (moved_by (pos 1) (negsuc 0) edge) ≡ true
unfolding edge moved_by all_in_bounds
at_the_bounds = refl

past_a_bound : all_in_bounds (moved_by (pos 1) (negsuc 1) edge) ≡ false
unfolding edge moved_by all_in_bounds
past_a_bound = refl

past_it_up : moved_up edge (pos 1) (negsuc 1) ≡ 2000000 ∷ 2000001 ∷ []
unfolding edge moved_by up_of
past_it_up = refl

lowest : down_of 0 ≡ negsuc 999999
lowest = refl

highest : down_of 2000000 ≡ pos 1000000
highest = refl

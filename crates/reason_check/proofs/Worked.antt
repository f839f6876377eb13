-- Worked examples, by computation, each coordinate 10 more: S and Q of SCOPE's measured pieces, Q sliding by (2, 0) below S and
-- moving by (0, 2) into it; a line of one point; a line of the last edge turned round; and S on its equal, each edge parted.
use Prim.Native.Nat.{ℕ}
use mathlib.Core.Path.{◌≡◌, refl}
use mathlib.Core.List.{List, [], ◌∷◌}
use Rattle.ring.specs.Each.{each}
use Rattle.reasons.specs.Reason.{mark, marks_up, marks_down}
use Rattle.reasons.specs.Parting.{left_on, right_on, way_left, edge_right, differ, parts}
use Rattle.reasons.specs.Lowest.{lower, low_spot}
use Rattle.reasons.specs.First.{first_from}
use Rattle.reasons.specs.Check.{clear, edge, enclosed, balance, judged, ground_of, check_of}

abbrev S : List ℕ
S = 10 ∷ 10 ∷ 14 ∷ 10 ∷ 14 ∷ 14 ∷ 10 ∷ 14 ∷ []

-- Q below S, where it has slid to, and in S
abbrev Q : List ℕ
Q = 10 ∷ 8 ∷ 12 ∷ 8 ∷ 12 ∷ 10 ∷ 10 ∷ 10 ∷ []

abbrev slid : List ℕ
slid = 12 ∷ 8 ∷ 14 ∷ 8 ∷ 14 ∷ 10 ∷ 12 ∷ 10 ∷ []

abbrev within : List ℕ
within = 10 ∷ 10 ∷ 12 ∷ 10 ∷ 12 ∷ 12 ∷ 10 ∷ 12 ∷ []

-- the lines of a reason, the first and the last of them as they are given
abbrev lines : (a b c d e f g h : ℕ) → List ℕ
lines a b c d e f g h = a ∷ b ∷ c ∷ d ∷ 14 ∷ 10 ∷ 14 ∷ 14 ∷ 14 ∷ 14 ∷ 10 ∷ 14 ∷ e ∷ f ∷ g ∷ h ∷ []

slide : check_of S Q slid (lines 14 10 10 10 10 14 10 10) ≡ clear
unfolding ground_of judged balance first_from parts way_left edge_right differ left_on right_on each low_spot lower marks_up marks_down mark
slide = refl

-- the end of the way is not left of the first line
blocked : check_of S Q within (lines 14 10 10 10 10 14 10 10) ≡ edge 0
unfolding ground_of judged balance first_from parts way_left edge_right differ left_on right_on each low_spot lower marks_up marks_down mark
blocked = refl

one_point : check_of S Q slid (lines 14 10 14 10 10 14 10 10) ≡ edge 0
unfolding ground_of judged balance first_from parts way_left edge_right differ left_on right_on each low_spot lower marks_up marks_down mark
one_point = refl

last_turned : check_of S Q slid (lines 14 10 10 10 10 10 10 14) ≡ edge 3
unfolding ground_of judged balance first_from parts way_left edge_right differ left_on right_on each low_spot lower marks_up marks_down mark
last_turned = refl

-- each edge by its own line, and no move
on_its_equal : check_of S S S (lines 10 10 14 10 10 14 10 10) ≡ enclosed
unfolding ground_of judged balance first_from parts way_left edge_right differ left_on right_on each low_spot lower marks_up marks_down mark
on_its_equal = refl

-- What the calls answer: the refusal of what is lent, or the rule in whole numbers. Definitions only.
use Rattle.std.specs.Prelude.{ℕ, ◌/◌, Bool, List, [], ◌∷◌, length, ℤ}
use Rattle.refusals.specs.Answers.{Outcome, outcome}
use Rattle.shifted.specs.Shifted.{spot_of, spot_in}
use Rattle.whole_rules.specs.Segments.{whole_turn, whole_orientation, whole_on_segment, whole_intersect}
use Rattle.whole_rules.specs.Simple.{whole_simple}
use Rattle.whole_rules.specs.Area.{whole_area2}
use Rattle.whole_engine.specs.Rows.{wrong_whole, of_whole_ring}

abbrev pub whole_turn_call : ℤ → ℤ → ℤ → ℤ → ℤ → ℤ → Outcome ℤ
whole_turn_call ax ay bx by cx cy =
    outcome (wrong_whole (ax ∷ ay ∷ bx ∷ by ∷ cx ∷ cy ∷ [])) (whole_turn (spot_of ax ay) (spot_of bx by) (spot_of cx cy))

abbrev pub whole_orientation_call : ℤ → ℤ → ℤ → ℤ → ℤ → ℤ → Outcome ℤ
whole_orientation_call ax ay bx by cx cy =
    outcome (wrong_whole (ax ∷ ay ∷ bx ∷ by ∷ cx ∷ cy ∷ [])) (whole_orientation (spot_of ax ay) (spot_of bx by) (spot_of cx cy))

abbrev pub whole_on_segment_call : ℤ → ℤ → ℤ → ℤ → ℤ → ℤ → Outcome Bool
whole_on_segment_call ax ay bx by px py =
    outcome (wrong_whole (ax ∷ ay ∷ bx ∷ by ∷ px ∷ py ∷ [])) (whole_on_segment (spot_of ax ay) (spot_of bx by) (spot_of px py))

abbrev pub whole_intersect_call : ℤ → ℤ → ℤ → ℤ → ℤ → ℤ → ℤ → ℤ → Outcome Bool
whole_intersect_call x1 y1 x2 y2 x3 y3 x4 y4 =
    outcome (wrong_whole (x1 ∷ y1 ∷ x2 ∷ y2 ∷ x3 ∷ y3 ∷ x4 ∷ y4 ∷ [])) (whole_intersect (spot_of x1 y1) (spot_of x2 y2) (spot_of x3 y3) (spot_of x4 y4))

-- vertices of a ring
abbrev pub vertices_in : List ℤ → ℕ
vertices_in zs = length zs / 2

abbrev pub whole_simple_call : List ℤ → Outcome Bool
whole_simple_call zs = outcome (of_whole_ring zs) (whole_simple (spot_in zs) (vertices_in zs))

abbrev pub whole_area2_call : List ℤ → Outcome ℤ
whole_area2_call zs = outcome (of_whole_ring zs) (whole_area2 (spot_in zs) (vertices_in zs))

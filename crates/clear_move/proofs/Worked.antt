-- Worked examples, computed: numbers with a sign, a square that slides on another, one that is moved into it, one ring, a
-- coordinate with a fraction, and an input that is too short. Assumes nothing.
use Prim.Native.Nat.{ℕ}
use mathlib.Core.Path.{◌≡◌, refl}
use mathlib.Core.List.{List, [], ◌∷◌, ◌++◌}
use lib.IntN.{ℤ, pos, negsuc}
use lib.ListN.{get_or}
use lib.Ieee.{binary64, of_bits, of_int, to_signed, eq}
use Rattle.laws.specs.Turns.{tally}
use Rattle.print.specs.Digits.{digits, up_to}
use Rattle.ring.specs.Each.{each}
use Rattle.refusals.specs.Bounds.{every}
use Rattle.refusals.specs.Refusals.{tells_place}
use Rattle.lines.specs.Lines.{refusal_line}
use Rattle.shifted.specs.Shifted.{up_of}
use Rattle.whole_engine.specs.Rows.{all_in_bounds}
use Rattle.whole_moves.specs.Moved.{moved_by}
use Rattle.reasons.specs.Reason.{mark, marks_up, marks_down}
use Rattle.reasons.specs.Parting.{left_on, right_on, way_left, edge_right, differ, parts}
use Rattle.reasons.specs.Lowest.{lower, low_spot}
use Rattle.reasons.specs.First.{first_from}
use Rattle.reasons.specs.Check as found
use Rattle.reasons.specs.Check.{balance}
use Rattle.reason_search.specs.Lines.{box_low, box_high, box_line, either_way, way_line, line_of}
use Rattle.reason_search.specs.Search as found_first
use Rattle.reason_search.specs.Search.{onward, line_at, reached, search_of}
use Rattle.reason_search.specs.Room.{lines_to}
use Rattle.whole_input.specs.Whole.{is_whole}
use Rattle.clear_calls.specs.Rows.{of_whole_move}
use Rattle.clear_calls.specs.Calls.{short_for}
use Rattle.clear_move.specs.Shared.{same_whole, same_line, owner, has_before, has_after, line_count, start_text, run_text, range_part, ranges_to}
use Rattle.clear_move.specs.Lines.{signed, reason_line, shared_line, first_line, shared_lines, lines_text, edge_line, ground_text, judged_text}
use Rattle.clear_move.specs.Said.{pair_text, rings_text, input_text}

-- "0" and "-12"
nought : signed (pos 0) ≡ 48 ∷ []
unfolding signed digits up_to
nought = refl

minus_twelve : signed (negsuc 11) ≡ 45 ∷ 49 ∷ 50 ∷ []
unfolding signed digits up_to
minus_twelve = refl

-- ---- two polygons

abbrev Q : List ℤ
Q = pos 0 ∷ negsuc 1 ∷ pos 0 ∷ pos 0 ∷ pos 2 ∷ pos 0 ∷ pos 2 ∷ negsuc 1 ∷ []

-- S lies on Q
abbrev S : List ℤ
S = pos 0 ∷ pos 0 ∷ pos 0 ∷ pos 4 ∷ pos 4 ∷ pos 4 ∷ pos 4 ∷ pos 0 ∷ []

-- "clear lines 2", "edges 0: 0 1 0 0", the left side of the way's box, "edges 1-3: 0 0 1 0", its bottom
slide : pair_text Q S (pos 2) (pos 0)
    ≡ (99 ∷ 108 ∷ 101 ∷ 97 ∷ 114 ∷ 32 ∷ 108 ∷ 105 ∷ 110 ∷ 101 ∷ 115 ∷ 32 ∷ 50 ∷ 10 ∷ [])
    ++ ((101 ∷ 100 ∷ 103 ∷ 101 ∷ 115 ∷ 32 ∷ 48 ∷ 58 ∷ 32 ∷ 48 ∷ 32 ∷ 49 ∷ 32 ∷ 48 ∷ 32 ∷ 48 ∷ 10 ∷ [])
    ++ (101 ∷ 100 ∷ 103 ∷ 101 ∷ 115 ∷ 32 ∷ 49 ∷ 45 ∷ 51 ∷ 58 ∷ 32 ∷ 48 ∷ 32 ∷ 48 ∷ 32 ∷ 49 ∷ 32 ∷ 48 ∷ 10 ∷ []))
unfolding pair_text judged_text ground_text lines_text shared_lines first_line shared_line ranges_to range_part run_text start_text has_before has_after owner same_line same_whole tally reason_line signed digits up_to of_whole_move all_in_bounds moved_by up_of short_for lines_to search_of reached line_at onward found_first.first_line line_of way_line either_way box_line box_low box_high found.judged balance first_from parts way_left edge_right differ left_on right_on each low_spot lower marks_up marks_down mark
slide = refl

-- of six edges, the first, the third and the last two with one line: "0, 2, 4-5", "1", "3"
abbrev firsts : ℕ → ℕ
firsts k = get_or (0 ∷ 1 ∷ 0 ∷ 3 ∷ 0 ∷ 0 ∷ []) k 0

ranges : ranges_to firsts 6 0 6 ≡ 48 ∷ 44 ∷ 32 ∷ 50 ∷ 44 ∷ 32 ∷ 52 ∷ 45 ∷ 53 ∷ []
unfolding ranges_to range_part run_text start_text has_before has_after digits up_to
ranges = refl

three_lines : line_count firsts 6 ≡ 3
unfolding tally
three_lines = refl

-- "edge 1"
blocked : pair_text Q S (pos 0) (negsuc 0) ≡ 101 ∷ 100 ∷ 103 ∷ 101 ∷ 32 ∷ 49 ∷ 10 ∷ []
unfolding pair_text judged_text ground_text edge_line digits up_to of_whole_move all_in_bounds moved_by up_of short_for search_of reached line_at onward found_first.first_line line_of way_line either_way box_line box_low box_high found.judged balance first_from parts way_left edge_right differ left_on right_on each low_spot lower marks_up marks_down mark
blocked = refl

-- ---- refusals

-- "refused 8 1"
one_ring : rings_text 1 [] [] [] (pos 2) (pos 0) ≡ 114 ∷ 101 ∷ 102 ∷ 117 ∷ 115 ∷ 101 ∷ 100 ∷ 32 ∷ 56 ∷ 32 ∷ 49 ∷ 10 ∷ []
unfolding rings_text refusal_line tells_place digits up_to
one_ring = refl

-- 2.5 of a third ring: "refused 2"
not_whole : rings_text 3 (of_bits binary64 0x4004_0000_0000_0000 ∷ []) [] [] (pos 2) (pos 0)
    ≡ 114 ∷ 101 ∷ 102 ∷ 117 ∷ 115 ∷ 101 ∷ 100 ∷ 32 ∷ 50 ∷ 10 ∷ []
unfolding rings_text every is_whole of_bits to_signed of_int eq refusal_line tells_place digits up_to
not_whole = refl

-- "refused 7 0"
too_short : input_text (2 ∷ 0 ∷ 0 ∷ 0 ∷ 0 ∷ 0 ∷ 0 ∷ []) ≡ 114 ∷ 101 ∷ 102 ∷ 117 ∷ 115 ∷ 101 ∷ 100 ∷ 32 ∷ 55 ∷ 32 ∷ 48 ∷ 10 ∷ []
unfolding input_text refusal_line tells_place digits up_to
too_short = refl

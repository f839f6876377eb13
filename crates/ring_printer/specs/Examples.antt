-- Document 01's example with part 7, computed. Assumes nothing.
use Rattle.std.specs.Prelude.{ℕ, ◌≡◌, refl, List, [], ◌∷◌}
use Rattle.std.specs.Float.Ieee.{eq, to_bits, of_bits}
use Rattle.print.specs.Digits.{digits, up_to}
use Rattle.lines.specs.Lines.{refusal_line, point_lines}
use Rattle.ring.specs.Ring.{point_at}
use Rattle.number_bytes.specs.Bytes.{number_of}
use Rattle.refusals.specs.Refusals.{tells_place}
use Rattle.refusals.specs.Bounds.{coordinate}
use Rattle.reading.specs.Reading.{ord, less, best, best_of}
use Rattle.reading.specs.Lent.{kept}
use Rattle.refusals.specs.Rings.{total}
use Rattle.book_layout.specs.Layout.{coordinate_bits, coords_in, fields_in, coords_of, counts_of, parts_of, ring_count, entry_offset}
use Rattle.book_layout.specs.Faults.{entries_check, coords_check, least_check, book_check}
use Rattle.ring_printer.specs.Said.{rings_line, ring_line, ring_texts, book_text}

-- the book of the ring (4,0), (0,3), (0,0), of part 7
abbrev book : List ℕ
book =
    0 ∷ 0 ∷ 0 ∷ 0 ∷ 0 ∷ 0 ∷ 0 ∷ 0 ∷ 0 ∷ 0 ∷ 0 ∷ 0 ∷ 0 ∷ 0 ∷ 0 ∷ 0
    ∷ 0 ∷ 0 ∷ 0 ∷ 0 ∷ 0 ∷ 0 ∷ 0 ∷ 0 ∷ 0 ∷ 0 ∷ 0 ∷ 0 ∷ 0 ∷ 0 ∷ 8 ∷ 64
    ∷ 0 ∷ 0 ∷ 0 ∷ 0 ∷ 0 ∷ 0 ∷ 16 ∷ 64 ∷ 0 ∷ 0 ∷ 0 ∷ 0 ∷ 0 ∷ 0 ∷ 0 ∷ 0
    ∷ 0 ∷ 0 ∷ 0 ∷ 0 ∷ 3 ∷ 0 ∷ 0 ∷ 0 ∷ 7 ∷ 0 ∷ 0 ∷ 0 ∷ 1 ∷ 0 ∷ 0 ∷ 0 ∷ 48 ∷ 0 ∷ 0 ∷ 0 ∷ []

-- "rings 1", "ring 0 vertices 3 part 7", and a line for each of (0,0), (0,3), (4,0)
abbrev printed : List ℕ
printed =
    114 ∷ 105 ∷ 110 ∷ 103 ∷ 115 ∷ 32 ∷ 49 ∷ 10
    ∷ 114 ∷ 105 ∷ 110 ∷ 103 ∷ 32 ∷ 48 ∷ 32 ∷ 118 ∷ 101 ∷ 114 ∷ 116 ∷ 105 ∷ 99 ∷ 101 ∷ 115 ∷ 32 ∷ 51 ∷ 32 ∷ 112 ∷ 97 ∷ 114 ∷ 116 ∷ 32 ∷ 55 ∷ 10
    ∷ 48 ∷ 48 ∷ 48 ∷ 48 ∷ 48 ∷ 48 ∷ 48 ∷ 48 ∷ 48 ∷ 48 ∷ 48 ∷ 48 ∷ 48 ∷ 48 ∷ 48 ∷ 48 ∷ 32 ∷ 48 ∷ 48 ∷ 48 ∷ 48 ∷ 48 ∷ 48 ∷ 48
    ∷ 48 ∷ 48 ∷ 48 ∷ 48 ∷ 48 ∷ 48 ∷ 48 ∷ 48 ∷ 48 ∷ 10
    ∷ 48 ∷ 48 ∷ 48 ∷ 48 ∷ 48 ∷ 48 ∷ 48 ∷ 48 ∷ 48 ∷ 48 ∷ 48 ∷ 48 ∷ 48 ∷ 48 ∷ 48 ∷ 48 ∷ 32 ∷ 52 ∷ 48 ∷ 48 ∷ 56 ∷ 48 ∷ 48 ∷ 48
    ∷ 48 ∷ 48 ∷ 48 ∷ 48 ∷ 48 ∷ 48 ∷ 48 ∷ 48 ∷ 48 ∷ 10
    ∷ 52 ∷ 48 ∷ 49 ∷ 48 ∷ 48 ∷ 48 ∷ 48 ∷ 48 ∷ 48 ∷ 48 ∷ 48 ∷ 48 ∷ 48 ∷ 48 ∷ 48 ∷ 48 ∷ 32 ∷ 48 ∷ 48 ∷ 48 ∷ 48 ∷ 48 ∷ 48 ∷ 48
    ∷ 48 ∷ 48 ∷ 48 ∷ 48 ∷ 48 ∷ 48 ∷ 48 ∷ 48 ∷ 48 ∷ 10 ∷ []

pub triangle_printed : book_text book ≡ printed
unfolding book_text rings_line ring_line ring_texts point_lines point_at digits up_to to_bits book_check entries_check coords_check least_check coordinate_bits kept eq coordinate of_bits number_of coords_in fields_in coords_of counts_of parts_of ring_count entry_offset total best_of best less ord
triangle_printed = refl

-- "refused 7 0": a file of no bytes
pub nothing_printed : book_text [] ≡ 114 ∷ 101 ∷ 102 ∷ 117 ∷ 115 ∷ 101 ∷ 100 ∷ 32 ∷ 55 ∷ 32 ∷ 48 ∷ 10 ∷ []
unfolding book_text book_check refusal_line tells_place digits up_to
nothing_printed = refl

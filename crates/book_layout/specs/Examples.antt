-- Worked examples, computed. Assumes nothing.
use Rattle.std.specs.Prelude.{ℕ, ◌≡◌, refl, true, false, List, [], ◌∷◌, take, set, pos, Float}
use Rattle.std.specs.Float.{fin}
use Rattle.std.specs.Float.Ieee.{eq, to_bits, of_bits}
use Rattle.refusals.specs.Refusals.{none, refuse}
use Rattle.refusals.specs.Bounds.{coordinate, every}
use Rattle.refusals.specs.Rows.{of_rings}
use Rattle.reading.specs.Reading.{Vertex, ord, less, best, best_of, least_reading}
use Rattle.reading.specs.Lent.{kept, ring_of}
use Rattle.number_bytes.specs.Bytes.{bytes_of, number_of}
use Rattle.refusals.specs.Rings.{total}
use Rattle.book_layout.specs.Layout.{coord_bytes, body, entries, layout, book_of, coordinate_bits, coords_in, fields_in, coords_of, counts_of, parts_of, ring_count, entry_offset}
use Rattle.book_layout.specs.Writer.{rings_from, write_refusal}
use Rattle.book_layout.specs.Reader.{read_refusal}
use Rattle.book_layout.specs.Faults.{fault_at, entries_check, coords_check, least_check, book_check}

abbrev zero : Float
zero = fin false 0 (pos 0)

abbrev minus : Float
minus = fin true 0 (pos 0)

abbrev three : Float
three = fin false 3 (pos 0)

abbrev four : Float
four = fin false 1 (pos 2)

-- the ring (4,0), (0,3), (0,0)
abbrev triangle : List (List Vertex)
triangle = ring_of (four ∷ zero ∷ zero ∷ three ∷ zero ∷ zero ∷ []) ∷ []

-- its part: 7
abbrev parts : List ℕ
parts = 7 ∷ []

-- its book: (0,0), (0,3), (4,0), its entry, and the two last fields
abbrev book : List ℕ
book =
    0 ∷ 0 ∷ 0 ∷ 0 ∷ 0 ∷ 0 ∷ 0 ∷ 0 ∷ 0 ∷ 0 ∷ 0 ∷ 0 ∷ 0 ∷ 0 ∷ 0 ∷ 0
    ∷ 0 ∷ 0 ∷ 0 ∷ 0 ∷ 0 ∷ 0 ∷ 0 ∷ 0 ∷ 0 ∷ 0 ∷ 0 ∷ 0 ∷ 0 ∷ 0 ∷ 8 ∷ 64
    ∷ 0 ∷ 0 ∷ 0 ∷ 0 ∷ 0 ∷ 0 ∷ 16 ∷ 64 ∷ 0 ∷ 0 ∷ 0 ∷ 0 ∷ 0 ∷ 0 ∷ 0 ∷ 0
    ∷ 0 ∷ 0 ∷ 0 ∷ 0 ∷ 3 ∷ 0 ∷ 0 ∷ 0 ∷ 7 ∷ 0 ∷ 0 ∷ 0 ∷ 1 ∷ 0 ∷ 0 ∷ 0 ∷ 48 ∷ 0 ∷ 0 ∷ 0 ∷ []

pub triangle_book : book_of triangle parts ≡ book
unfolding book_of layout body entries coord_bytes bytes_of least_reading best_of best less ord kept to_bits eq of_bits
triangle_book = refl

-- so has the ring (4,-0.0), (-0.0,3), (0,0), though the pattern of -0.0 is before that of 0.0
pub minus_book : book_of (rings_from (3 ∷ []) (four ∷ minus ∷ minus ∷ three ∷ zero ∷ zero ∷ [])) parts ≡ book
unfolding rings_from book_of layout body entries coord_bytes bytes_of least_reading best_of best less ord kept to_bits eq of_bits
minus_book = refl

-- (-0.0,3), (4,0), (0,3), (4,0) and its reading from the third vertex on differ in a zero's sign only
pub twin_book : book_of (rings_from (4 ∷ []) (minus ∷ three ∷ four ∷ zero ∷ zero ∷ three ∷ four ∷ zero ∷ [])) parts ≡ book_of (rings_from (4 ∷ []) (zero ∷ three ∷ four ∷ zero ∷ minus ∷ three ∷ four ∷ zero ∷ [])) parts
unfolding rings_from kept to_bits eq of_bits
twin_book = refl

pub triangle_fine : book_check book ≡ none
unfolding book_check entries_check coords_check least_check coordinate_bits coordinate of_bits number_of coords_in fields_in counts_of ring_count entry_offset total best_of best less ord kept to_bits eq
triangle_fine = refl

-- one fault each: the length, the ring count, the offset of the entries, the ring's offset, its vertices, where the rings end, the
-- coordinate (2 ^ 20 and more, a NaN, -0.0), and a ring that is not its least reading
pub cut_short : book_check (take 67 book) ≡ fault_at 0
unfolding book_check entries_check coords_check least_check coordinate_bits coordinate of_bits number_of coords_in fields_in counts_of ring_count entry_offset total best_of best less ord kept to_bits eq
cut_short = refl

pub no_rings : book_check (set book 60 0) ≡ fault_at 60
unfolding book_check entries_check coords_check least_check coordinate_bits coordinate of_bits number_of coords_in fields_in counts_of ring_count entry_offset total best_of best less ord kept to_bits eq
no_rings = refl

pub entries_elsewhere : book_check (set book 64 47) ≡ fault_at 64
unfolding book_check entries_check coords_check least_check coordinate_bits coordinate of_bits number_of coords_in fields_in counts_of ring_count entry_offset total best_of best less ord kept to_bits eq
entries_elsewhere = refl

pub ring_elsewhere : book_check (set book 48 1) ≡ fault_at 48
unfolding book_check entries_check coords_check least_check coordinate_bits coordinate of_bits number_of coords_in fields_in counts_of ring_count entry_offset total best_of best less ord kept to_bits eq
ring_elsewhere = refl

pub two_vertices : book_check (set book 52 2) ≡ fault_at 52
unfolding book_check entries_check coords_check least_check coordinate_bits coordinate of_bits number_of coords_in fields_in counts_of ring_count entry_offset total best_of best less ord kept to_bits eq
two_vertices = refl

pub four_vertices : book_check (set book 52 4) ≡ fault_at 64
unfolding book_check entries_check coords_check least_check coordinate_bits coordinate of_bits number_of coords_in fields_in counts_of ring_count entry_offset total best_of best less ord kept to_bits eq
four_vertices = refl

pub too_large : book_check (set (set book 47 65) 46 48) ≡ fault_at 40
unfolding book_check entries_check coords_check least_check coordinate_bits coordinate of_bits number_of coords_in fields_in counts_of ring_count entry_offset total best_of best less ord kept to_bits eq
too_large = refl

pub not_a_number : book_check (set (set book 39 127) 38 248) ≡ fault_at 32
unfolding book_check entries_check coords_check least_check coordinate_bits coordinate of_bits number_of coords_in fields_in counts_of ring_count entry_offset total best_of best less ord kept to_bits eq
not_a_number = refl

pub minus_x : book_check (set book 23 128) ≡ fault_at 16
unfolding book_check entries_check coords_check least_check coordinate_bits coordinate of_bits number_of coords_in fields_in counts_of ring_count entry_offset total best_of best less ord kept to_bits eq
minus_x = refl

pub minus_y : book_check (set book 47 128) ≡ fault_at 40
unfolding book_check entries_check coords_check least_check coordinate_bits coordinate of_bits number_of coords_in fields_in counts_of ring_count entry_offset total best_of best less ord kept to_bits eq
minus_y = refl

pub as_given : book_check (layout triangle parts) ≡ fault_at 0
unfolding layout body entries coord_bytes bytes_of kept to_bits book_check entries_check coords_check least_check coordinate_bits coordinate of_bits number_of coords_in fields_in counts_of ring_count entry_offset total best_of best less ord eq
as_given = refl

-- the part is any number: the largest, and 0
pub largest_part : book_check (set (set (set (set book 56 255) 57 255) 58 255) 59 255) ≡ none
unfolding book_check entries_check coords_check least_check coordinate_bits coordinate of_bits number_of coords_in fields_in counts_of ring_count entry_offset total best_of best less ord kept to_bits eq
largest_part = refl

pub part_zero : book_check (set book 56 0) ≡ none
unfolding book_check entries_check coords_check least_check coordinate_bits coordinate of_bits number_of coords_in fields_in counts_of ring_count entry_offset total best_of best less ord kept to_bits eq
part_zero = refl

pub part_told : parts_of book ≡ parts
unfolding parts_of fields_in number_of ring_count entry_offset
part_told = refl

-- of two faults the first is told: the ring's offset before its vertices, a coordinate before the least reading
pub offset_first : book_check (set (set book 48 1) 52 2) ≡ fault_at 48
unfolding book_check entries_check coords_check least_check coordinate_bits coordinate of_bits number_of coords_in fields_in counts_of ring_count entry_offset total best_of best less ord kept to_bits eq
offset_first = refl

pub coordinate_first : book_check (set (set (set (layout triangle parts) 7 64) 15 65) 14 48) ≡ fault_at 8
unfolding layout body entries coord_bytes bytes_of kept to_bits book_check entries_check coords_check least_check coordinate_bits coordinate of_bits number_of coords_in fields_in counts_of ring_count entry_offset total best_of best less ord eq
coordinate_first = refl

-- ---- the writer's tests, for rooms of so many bytes

abbrev lent : List Float
lent = four ∷ zero ∷ zero ∷ three ∷ zero ∷ zero ∷ []

abbrev huge : List Float
huge = fin false 1 (pos 20) ∷ zero ∷ zero ∷ three ∷ zero ∷ zero ∷ []

pub written : write_refusal lent (3 ∷ []) parts 68 ≡ none
unfolding write_refusal of_rings total every coordinate
written = refl

pub small_room : write_refusal lent (3 ∷ []) parts 67 ≡ refuse 4 0
unfolding write_refusal of_rings total every coordinate
small_room = refl

pub number_before_room : write_refusal huge (3 ∷ []) parts 67 ≡ refuse 2 0
unfolding write_refusal of_rings total every coordinate
number_before_room = refl

-- the sum, told with the number of rings, comes before the numbers
pub sum_before_number : write_refusal huge (4 ∷ []) parts 67 ≡ refuse 1 1
unfolding write_refusal of_rings total every coordinate
sum_before_number = refl

pub odd_list : write_refusal (zero ∷ lent) (3 ∷ []) parts 67 ≡ refuse 1 1
unfolding write_refusal of_rings total every coordinate
odd_list = refl

-- parts unlike the rings in number come after the sum and before the numbers
pub two_parts : write_refusal huge (3 ∷ []) (7 ∷ 8 ∷ []) 67 ≡ refuse 1 1
unfolding write_refusal of_rings total every coordinate
two_parts = refl

pub no_part : write_refusal huge (3 ∷ []) [] 67 ≡ refuse 1 1
unfolding write_refusal of_rings total every coordinate
no_part = refl

-- the number of rings comes first, told with that number
pub no_counts : write_refusal [] [] parts 67 ≡ refuse 8 0
unfolding write_refusal of_rings total every coordinate
no_counts = refl

pub nine_counts : write_refusal [] (2 ∷ 3 ∷ 3 ∷ 3 ∷ 3 ∷ 3 ∷ 3 ∷ 3 ∷ 3 ∷ []) parts 67 ≡ refuse 9 9
unfolding write_refusal of_rings total every coordinate
nine_counts = refl

-- then ring by ring, told with the ring, and before the sum
pub pair : write_refusal (take 4 lent) (2 ∷ []) parts 67 ≡ refuse 8 0
unfolding write_refusal of_rings total every coordinate
pair = refl

pub second_pair : write_refusal lent (3 ∷ 2 ∷ []) parts 67 ≡ refuse 8 1
unfolding write_refusal of_rings total every coordinate
second_pair = refl

pub first_too_long : write_refusal lent (257 ∷ 2 ∷ []) parts 67 ≡ refuse 9 0
unfolding write_refusal of_rings total every coordinate
first_too_long = refl

-- ---- the reader's, for rooms of so many numbers, counts and parts

pub accepted : read_refusal book 6 1 1 ≡ none
unfolding read_refusal coords_of book_check entries_check coords_check least_check coordinate_bits coordinate of_bits number_of coords_in fields_in counts_of ring_count entry_offset total best_of best less ord kept to_bits eq
accepted = refl

pub small_numbers : read_refusal book 5 1 1 ≡ refuse 4 0
unfolding read_refusal coords_of book_check entries_check coords_check least_check coordinate_bits coordinate of_bits number_of coords_in fields_in counts_of ring_count entry_offset total best_of best less ord kept to_bits eq
small_numbers = refl

pub small_counts : read_refusal book 6 0 1 ≡ refuse 4 0
unfolding read_refusal coords_of book_check entries_check coords_check least_check coordinate_bits coordinate of_bits number_of coords_in fields_in counts_of ring_count entry_offset total best_of best less ord kept to_bits eq
small_counts = refl

pub small_parts : read_refusal book 6 1 0 ≡ refuse 4 0
unfolding read_refusal coords_of book_check entries_check coords_check least_check coordinate_bits coordinate of_bits number_of coords_in fields_in counts_of ring_count entry_offset total best_of best less ord kept to_bits eq
small_parts = refl

pub fault_before_room : read_refusal (set book 52 2) 5 0 0 ≡ fault_at 52
unfolding read_refusal coords_of book_check entries_check coords_check least_check coordinate_bits coordinate of_bits number_of coords_in fields_in counts_of ring_count entry_offset total best_of best less ord kept to_bits eq
fault_before_room = refl

-- Worked examples, computed: a triangle's file in both byte orders, each fault with its place, and which of two faults is told. Assumes
-- nothing.
use Prim.Native.Nat.{ℕ}
use mathlib.Core.Path.{◌≡◌, refl}
use mathlib.Core.Bool.{false}
use mathlib.Core.List.{List, [], ◌∷◌, ◌++◌}
use lib.ListN.{take, set}
use lib.IntN.{pos}
use lib.Ieee.{Float, fin, of_bits, to_bits, eq}
use Rattle.number_bytes.specs.Bytes.{bytes_of, number_of}
use Rattle.refusals.specs.Refusals.{refused_room, refused_wkb, none, refuse}
use Rattle.refusals.specs.Answers.{answers, refuses}
use Rattle.refusals.specs.Bounds.{coordinate, every}
use Rattle.refusals.specs.Rows.{of_polygon}
use Rattle.refusals.specs.Refusals.{Told}
use Rattle.wkb_layout.specs.Layout.{written_as, read_as, numbers_as, wkb_of, code_in, bits_in, numbers_in, open_numbers}
use Rattle.wkb_layout.specs.Faults.{numbers_check, closes, wkb_check}
use Rattle.wkb_layout.specs.Reader.{open_ring, read_wkb_refusal, read_wkb_call, read_wkb_room}
use Rattle.wkb_layout.specs.Writer.{drawing_of, write_wkb_refusal, write_wkb_call}
use Rattle.wkb_layout.specs.declared.Order.TheVariants.{Big}

abbrev zero : Float
zero = fin false 0 (pos 0)

abbrev three : Float
three = fin false 3 (pos 0)

abbrev four : Float
four = fin false 1 (pos 2)

-- the ring (0,0), (4,0), (0,3)
abbrev triangle : List Float
triangle = zero ∷ zero ∷ four ∷ zero ∷ zero ∷ three ∷ []

-- a coordinate of 0 in either order, and a point of two
abbrev none8 : List ℕ → List ℕ
none8 l = 0 ∷ 0 ∷ 0 ∷ 0 ∷ 0 ∷ 0 ∷ 0 ∷ 0 ∷ l

abbrev none16 : List ℕ → List ℕ
none16 l = none8 (none8 l)

-- its file: the order, the type, one ring, four points, the points
abbrev little : List ℕ
little =
    1 ∷ 3 ∷ 0 ∷ 0 ∷ 0 ∷ 1 ∷ 0 ∷ 0 ∷ 0 ∷ 4 ∷ 0 ∷ 0 ∷ 0
    ∷ none16 (0 ∷ 0 ∷ 0 ∷ 0 ∷ 0 ∷ 0 ∷ 16 ∷ 64 ∷ none16 (0 ∷ 0 ∷ 0 ∷ 0 ∷ 0 ∷ 0 ∷ 8 ∷ 64 ∷ none16 []))

abbrev big : List ℕ
big =
    0 ∷ 0 ∷ 0 ∷ 0 ∷ 3 ∷ 0 ∷ 0 ∷ 0 ∷ 1 ∷ 0 ∷ 0 ∷ 0 ∷ 4
    ∷ none16 (64 ∷ 16 ∷ 0 ∷ 0 ∷ 0 ∷ 0 ∷ 0 ∷ 0 ∷ none16 (64 ∷ 8 ∷ 0 ∷ 0 ∷ 0 ∷ 0 ∷ 0 ∷ 0 ∷ none16 []))

pub writes_little : drawing_of triangle ≡ little
unfolding wkb_of written_as numbers_as bytes_of to_bits
writes_little = refl

-- the bit patterns of the ring and of its first vertex again
pub writes_big : wkb_of Big (0 ∷ 0 ∷ 0x4010_0000_0000_0000 ∷ 0 ∷ 0 ∷ 0x4008_0000_0000_0000 ∷ 0 ∷ 0 ∷ []) ≡ big
unfolding wkb_of written_as numbers_as bytes_of
writes_big = refl

-- ---- what is read of them

pub little_fine : wkb_check little ≡ none
unfolding wkb_check numbers_check code_in bits_in read_as closes number_of coordinate of_bits eq
little_fine = refl

pub big_fine : wkb_check big ≡ none
unfolding wkb_check numbers_check code_in bits_in read_as closes number_of coordinate of_bits eq
big_fine = refl

pub little_ring : open_ring little ≡ triangle
unfolding open_numbers numbers_in code_in read_as number_of of_bits
little_ring = refl

pub big_ring : open_ring big ≡ triangle
unfolding open_numbers numbers_in code_in read_as number_of of_bits
big_ring = refl

-- ---- one fault each, at its place

abbrev fault : ℕ → Told
fault at = refuse refused_wkb at

pub short : wkb_check (take 12 little) ≡ fault 0
unfolding wkb_check numbers_check code_in bits_in read_as closes number_of coordinate of_bits eq
short = refl

pub order_two : wkb_check (set little 0 2) ≡ fault 0
unfolding wkb_check numbers_check code_in bits_in read_as closes number_of coordinate of_bits eq
order_two = refl

pub a_point : wkb_check (set little 1 1) ≡ fault 1
unfolding wkb_check numbers_check code_in bits_in read_as closes number_of coordinate of_bits eq
a_point = refl

pub two_rings : wkb_check (set little 5 2) ≡ fault 5
unfolding wkb_check numbers_check code_in bits_in read_as closes number_of coordinate of_bits eq
two_rings = refl

pub three_points : wkb_check (set little 9 3) ≡ fault 9
unfolding wkb_check numbers_check code_in bits_in read_as closes number_of coordinate of_bits eq
three_points = refl

-- 2 and 256
pub too_many_points : wkb_check (set (set little 9 2) 10 1) ≡ fault 9
unfolding wkb_check numbers_check code_in bits_in read_as closes number_of coordinate of_bits eq
too_many_points = refl

pub five_points : wkb_check (set little 9 5) ≡ fault 0
unfolding wkb_check numbers_check code_in bits_in read_as closes number_of coordinate of_bits eq
five_points = refl

pub a_byte_more : wkb_check (little ++ (0 ∷ [])) ≡ fault 0
unfolding wkb_check numbers_check code_in bits_in read_as closes number_of coordinate of_bits eq
a_byte_more = refl

pub a_byte_less : wkb_check (take 76 little) ≡ fault 0
unfolding wkb_check numbers_check code_in bits_in read_as closes number_of coordinate of_bits eq
a_byte_less = refl

-- the second vertex: a NaN, 2 ^ 20
pub not_a_number : wkb_check (set (set little 35 248) 36 127) ≡ fault 29
unfolding wkb_check numbers_check code_in bits_in read_as closes number_of coordinate of_bits eq
not_a_number = refl

pub not_a_number_big : wkb_check (set (set big 29 127) 30 248) ≡ fault 29
unfolding wkb_check numbers_check code_in bits_in read_as closes number_of coordinate of_bits eq
not_a_number_big = refl

pub too_large : wkb_check (set (set little 35 48) 36 65) ≡ fault 29
unfolding wkb_check numbers_check code_in bits_in read_as closes number_of coordinate of_bits eq
too_large = refl

-- the closing point: its x, its y
pub not_closed : wkb_check (set little 68 64) ≡ fault 61
unfolding wkb_check numbers_check code_in bits_in read_as closes number_of coordinate of_bits eq
not_closed = refl

pub not_closed_above : wkb_check (set little 76 64) ≡ fault 61
unfolding wkb_check numbers_check code_in bits_in read_as closes number_of coordinate of_bits eq
not_closed_above = refl

-- but -0.0 closes what began at 0.0
pub minus_zero_closes : wkb_check (set (set little 68 128) 76 128) ≡ none
unfolding wkb_check numbers_check code_in bits_in read_as closes number_of coordinate of_bits eq
minus_zero_closes = refl

-- of two faults the first is told
pub type_first : wkb_check (set (set little 1 1) 5 2) ≡ fault 1
unfolding wkb_check numbers_check code_in bits_in read_as closes number_of coordinate of_bits eq
type_first = refl

pub length_first : wkb_check (set (take 12 little) 0 2) ≡ fault 0
unfolding wkb_check numbers_check code_in bits_in read_as closes number_of coordinate of_bits eq
length_first = refl

pub points_before_length : wkb_check (set little 9 3 ++ (0 ∷ [])) ≡ fault 9
unfolding wkb_check numbers_check code_in bits_in read_as closes number_of coordinate of_bits eq
points_before_length = refl

pub number_before_closing : wkb_check (set (set (set little 35 248) 36 127) 68 64) ≡ fault 29
unfolding wkb_check numbers_check code_in bits_in read_as closes number_of coordinate of_bits eq
number_before_closing = refl

-- also if it is the closing point's
pub closing_number : wkb_check (set (set little 75 248) 76 127) ≡ fault 69
unfolding wkb_check numbers_check code_in bits_in read_as closes number_of coordinate of_bits eq
closing_number = refl

-- ---- the calls, for rooms of so many numbers or bytes

pub read_answers : read_wkb_call big 6 ≡ answers 3
unfolding read_wkb_refusal wkb_check numbers_check code_in bits_in read_as closes number_of coordinate of_bits eq
read_answers = refl

pub read_short : read_wkb_call big 5 ≡ refuses (refuse refused_room 0)
unfolding read_wkb_refusal wkb_check numbers_check code_in bits_in read_as closes number_of coordinate of_bits eq
read_short = refl

pub read_fault_first : read_wkb_call (set big 4 1) 5 ≡ refuses (fault 1)
unfolding read_wkb_refusal wkb_check numbers_check code_in bits_in read_as closes number_of coordinate of_bits eq
read_fault_first = refl

pub read_leaves : read_wkb_room big (three ∷ three ∷ three ∷ three ∷ three ∷ three ∷ four ∷ []) ≡ triangle ++ (four ∷ [])
unfolding read_wkb_refusal wkb_check numbers_check code_in bits_in read_as closes number_of coordinate of_bits eq open_numbers numbers_in
read_leaves = refl

pub write_answers : write_wkb_call triangle 77 ≡ answers 77
unfolding write_wkb_refusal of_polygon every coordinate
write_answers = refl

pub write_short : write_wkb_call triangle 76 ≡ refuses (refuse refused_room 0)
unfolding write_wkb_refusal of_polygon every coordinate
write_short = refl

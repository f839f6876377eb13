-- The input of a program that takes a pair of polygons: three words, and then a book whose first ring is the stationary polygon and whose second is
-- the orbiting one. Definitions only.
use Rattle.std.specs.Prelude.{ℕ, ◌*◌, List, get_or, take, drop, Float}
use Rattle.number_bytes.specs.Bytes.{number_of}
use Rattle.book_layout.specs.Layout.{counts_of}
use Rattle.book_layout.specs.Reader.{numbers_of}

-- bytes of the three words
abbrev pub words_bytes : ℕ
words_bytes = 24

-- the word at a byte
abbrev pub word_at : List ℕ → ℕ → ℕ
word_at input at = number_of (take 8 (drop at input))

-- the first n vertices of a list, and the m after them
abbrev pub first_part : List Float → ℕ → List Float
first_part xs n = take (2 * n) xs

abbrev pub second_part : List Float → ℕ → ℕ → List Float
second_part xs n m = take (2 * m) (drop (2 * n) xs)

-- vertices of ring i of a book, 0 where it has no such ring
abbrev pub vertices_of : List ℕ → ℕ → ℕ
vertices_of book i = get_or (counts_of book) i 0

-- the two polygons of a book; of a book of one ring the orbiting one has no vertices
abbrev pub stationary_in : List ℕ → List Float
stationary_in book = first_part (numbers_of book) (vertices_of book 0)

abbrev pub orbiting_in : List ℕ → List Float
orbiting_in book = second_part (numbers_of book) (vertices_of book 0) (vertices_of book 1)

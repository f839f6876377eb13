-- The first two rings that the reader hands out are the two polygons of the book, and what is said of them is said of the book.
-- Assumes nothing.
use Prim.Native.Nat.{ℕ, zero, suc, ◌+◌, ◌*◌, ◌≤◌, ◌<◌}
use native.Mathlib.Omega.{arith}
use mathlib.Core.Path.{◌≡◌, refl, ap, ap₂, ◌∙◌}
use mathlib.Core.Bool.{true, false, cond}
use mathlib.Core.List.{List, [], ◌∷◌, ◌++◌}
use lib.ListN.{length, get_or, take, drop, replicate, length-append, length-drop, length-replicate}
use lib.Seq.{take-append-le, drop-append-le}
use lib.Ieee.{Float, binary64, of_bits}
use Rattle.ring.specs.Room.{laid}
use Rattle.refusals.specs.Refusals.{passed}
use Rattle.refusals.specs.Refusals.{Told}
use Rattle.std.specs.Prelude.{Result, Ok, Err}
use Rattle.refusals.specs.Answers.{tells}
use Rattle.refusals.specs.declared.Refusal.{Refusal}
use Rattle.refusals.specs.Rings.{vertices_least, vertices_most, rings_most, within, total, sized_all}
use Rattle.book_layout.specs.Layout.{numbers_most, counts_of, parts_of}
use Rattle.book_layout.specs.Faults.{◌passes, book_check}
use Rattle.book_layout.specs.Writer.{Held}
use Rattle.book_layout.specs.Reader.{numbers_of}
use Rattle.laws.proofs.Both.{both}
use Rattle.refusals.proofs.Counts.{is_within}
use Rattle.book_reader.proofs.Files.{Promised}
use Rattle.book_reader.proofs.Handed.{a_book, book_held, room_is, counts_are, no_book}
use Rattle.pair_input.specs.Input.{first_part, second_part, vertices_of, stationary_in, orbiting_in}

-- ---- counts

-- what lies beyond a list's end is 0 already
zeros : (k m i : ℕ) → ◌≡◌ {A = ℕ} (get_or (drop k (replicate m 0)) i 0) 0
zeros zero zero i = refl
zeros (suc k) zero i = refl
zeros zero (suc m) zero = refl
zeros zero (suc m) (suc i) = zeros zero m i
zeros (suc k) (suc m) i = zeros k m i

count_at : (l rest : List ℕ) (i : ℕ) → ((j : ℕ) → get_or rest j 0 ≡ 0) → get_or (l ++ rest) i 0 ≡ get_or l i 0
count_at [] rest i z = z i
count_at (n ∷ l) rest zero z = refl
count_at (n ∷ l) rest (suc i) z = count_at l rest i z

-- the first two of a list of counts
record Two (ns : List ℕ) : Type 0 where
  first : get_or ns 0 0 ≤ vertices_most
  second : get_or ns 1 0 ≤ vertices_most
  sum : get_or ns 0 0 + get_or ns 1 0 ≤ total ns

two : (ns : List ℕ) → sized_all ns ≡ true → Two ns
unfolding sized_all total
two [] s = record { first = (omega arith); second = (omega arith); sum = (omega arith) }
two (n ∷ []) s =
    let p = is_within vertices_least vertices_most n (both (within vertices_least vertices_most n) true s).0 in
    record { first = p.1; second = (omega arith); sum = (omega arith) }
two (n ∷ m ∷ ns) s =
    let p = both (within vertices_least vertices_most n) (sized_all (m ∷ ns)) s in
    let q = both (within vertices_least vertices_most m) (sized_all ns) p.1 in
    record { first = (is_within vertices_least vertices_most n p.0).1; second = (is_within vertices_least vertices_most m q.0).1; sum = (omega arith) }

-- ---- the reader's answer

-- the three rooms before it
abbrev pub room : List Float
room = replicate numbers_most (of_bits binary64 0)

abbrev pub counts : List ℕ
counts = replicate rings_most 0

abbrev pub parts : List ℕ
parts = replicate rings_most 0

-- what the rooms hold after it: the two polygons of a book, one after the other
pub record Pair (f : List ℕ) (x : List Float) (n : List ℕ) : Type 0 where
  pub book : book_check f passes
  pub first_most : get_or n 0 0 ≤ vertices_most
  pub second_most : get_or n 1 0 ≤ vertices_most
  pub both_inside : 2 * get_or n 0 0 + 2 * get_or n 1 0 ≤ length x
  pub stationary_is : first_part x (get_or n 0 0) ≡ stationary_in f
  pub orbiting_is : second_part x (get_or n 0 0) (get_or n 1 0) ≡ orbiting_in f

module _ (f : List ℕ) (bytes : (i : ℕ) → get_or f i 0 < 256) (x : List Float) (n q : List ℕ) (r : Result ℕ Refusal) (p : Promised f room counts parts r x n q) where
  module _ (k : ℕ) (e : r ≡ Ok k) where
    held : Held (numbers_of f) (counts_of f) (parts_of f)
    held = book_held f bytes room x counts n parts q r p k e

    room_holds : x ≡ laid (numbers_of f) room
    room_holds = room_is f bytes room x counts n parts q r p k e

    vertices : (i : ℕ) → get_or n i 0 ≡ vertices_of f i
    vertices i =
        ap (λ (l : List ℕ). get_or l i 0) (counts_are f bytes room x counts n parts q r p k e)
        ∙ count_at (counts_of f) (drop (length (counts_of f)) counts) i (zeros (length (counts_of f)) rings_most)

    bounds : Two (counts_of f)
    bounds = two (counts_of f) held.sized

    numbers_are : length x ≡ length (numbers_of f) + length (drop (length (numbers_of f)) room)
    numbers_are = ap length room_holds ∙ length-append (numbers_of f) (drop (length (numbers_of f)) room)

    inside : 2 * vertices_of f 0 + 2 * vertices_of f 1 ≤ length (numbers_of f)
    inside = omega (arith, bounds.sum, held.whole)

    stationary : first_part x (get_or n 0 0) ≡ stationary_in f
    stationary = rw (vertices 0, room_holds) (take-append-le (2 * vertices_of f 0) (numbers_of f) (drop (length (numbers_of f)) room) (omega (arith, inside)))

    orbiting : second_part x (get_or n 0 0) (get_or n 1 0) ≡ orbiting_in f
    orbiting =
        let l = numbers_of f in
        let rest = drop (length l) room in
        let a = 2 * vertices_of f 0 in
        let b = 2 * vertices_of f 1 in
        let d : drop a (l ++ rest) ≡ drop a l ++ rest = drop-append-le a l rest (omega (arith, inside)) in
        rw (vertices 0, vertices 1, room_holds) (ap (take b) d ∙ take-append-le b (drop a l) rest (omega (arith, inside, length-drop a l)))

    pub pair_read : Pair f x n
    pair_read = record {
      book = a_book f bytes room x counts n parts q r p k e;
      first_most = (omega (arith, vertices 0, bounds.first));
      second_most = (omega (arith, vertices 1, bounds.second));
      both_inside = (omega (arith, vertices 0, vertices 1, inside, numbers_are));
      stationary_is = stationary;
      orbiting_is = orbiting;
    }

  module _ (why : Refusal) (e : r ≡ Err why) where
    pub fault_read : (passed (book_check f) ≡ false) × (tells why ≡ book_check f)
    fault_read =
        let l = length-replicate numbers_most (of_bits binary64 0) in
        let m = length-replicate {A = ℕ} rings_most 0 in
        no_book f bytes room x counts n parts q r p (omega (arith, l)) (omega (arith, m)) (omega (arith, m)) why e

-- ---- what is said of a book: its two polygons in one way, or its fault in another

module _ (say : List Float → List Float → List ℕ) (fault : Told → List ℕ) (f : List ℕ) where
  abbrev book_text : List ℕ
  book_text = cond (passed (book_check f)) (say (stationary_in f) (orbiting_in f)) (fault (book_check f))

  pub pair_said : {x : List Float} {n : List ℕ} → Pair f x n → say (first_part x (get_or n 0 0)) (second_part x (get_or n 0 0) (get_or n 1 0)) ≡ book_text
  pair_said p = rw p.book (ap₂ say p.stationary_is p.orbiting_is)

  pub fault_said : {told : Told} → (passed (book_check f) ≡ false) × (told ≡ book_check f) → fault told ≡ book_text
  fault_said b = rw b.0 (ap fault b.1)

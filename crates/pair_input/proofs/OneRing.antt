-- A book of one ring has no orbiting polygon, and the row of tests refuses list 1, which has no vertices. Assumes nothing.
use Prim.Native.Nat.{ℕ, ◌*◌, ◌/◌, ◌%◌, ◌≤◌}
use native.Mathlib.Omega.{arith}
use mathlib.Core.Path.{◌≡◌, refl, ap, ◌∙◌}
use mathlib.Core.Bool.{true}
use mathlib.Core.List.{List, [], ◌∷◌}
use lib.ListN.{length, get_or}
use lib.Seq.{length-take-le}
use lib.Ieee.{Float}
use borrow.Author.Tests.{le-leb, eq-eqb}
use Rattle.refusals.specs.Refusals.{refused_few, refuse}
use Rattle.refusals.specs.Rings.{vertices_least, vertices_most, within, total, sized_all}
use Rattle.refusals.specs.Lists.{polygon_extent}
use Rattle.refusals.specs.Rows.{of_two_polygons}
use Rattle.refusals.proofs.Sized.{Fine}
use Rattle.refusals.proofs.Counts.{is_within}
use Rattle.laws.proofs.Both.{both}
use Rattle.number_bytes.specs.Bytes.{Each, Byte}
use Rattle.book_layout.specs.Layout.{counts_of, parts_of}
use Rattle.book_layout.specs.Faults.{◌passes, book_check}
use Rattle.book_layout.specs.Writer.{Held}
use Rattle.book_layout.specs.Reader.{numbers_of}
use Rattle.book_layout.proofs.Lent.{read_held}
use Rattle.pair_input.specs.Input.{second_part, vertices_of, stationary_in, orbiting_in}

-- a polygon, and one of no vertices
none_orbiting : (st : List Float) → Fine (polygon_extent st) → of_two_polygons st [] ≡ refuse refused_few 1
unfolding of_two_polygons
none_orbiting st f =
    let n = length st / 2 in
    rw (eq-eqb (length st % 2) 0 f.whole, le-leb vertices_least n f.enough, le-leb n vertices_most f.within)

-- the only count of a list
record Only (ns : List ℕ) : Type 0 where
  least : vertices_least ≤ get_or ns 0 0
  most : get_or ns 0 0 ≤ vertices_most
  sum : total ns ≡ get_or ns 0 0
  second : get_or ns 1 0 ≡ 0

only : (ns : List ℕ) → length ns ≡ 1 → sized_all ns ≡ true → Only ns
unfolding sized_all total
only [] l s = absurd (omega (arith, l))
only (n ∷ []) l s =
    let p = is_within vertices_least vertices_most n (both (within vertices_least vertices_most n) true s).0 in
    record { least = p.0; most = p.1; sum = omega arith; second = refl }
only (n ∷ m ∷ ns) l s = absurd (omega (arith, l))

module _ (f : List ℕ) (bytes : Each Byte f) (ok : book_check f passes) (one : length (counts_of f) ≡ 1) where
  held : Held (numbers_of f) (counts_of f) (parts_of f)
  held = read_held f bytes ok

  count : Only (counts_of f)
  count = only (counts_of f) one held.sized

  pub stationary_fine : Fine (polygon_extent (stationary_in f))
  stationary_fine =
      let n = vertices_of f 0 in
      let l : length (stationary_in f) ≡ 2 * n = length-take-le (2 * n) (numbers_of f) (omega (arith, held.whole, count.sum)) in
      record { whole = omega (arith, l); enough = omega (arith, l, count.least); within = omega (arith, l, count.most) }

  pub orbiting_none : orbiting_in f ≡ []
  orbiting_none = ap (second_part (numbers_of f) (vertices_of f 0)) count.second

  pub one_refused : of_two_polygons (stationary_in f) (orbiting_in f) ≡ refuse refused_few 1
  one_refused = ap (of_two_polygons (stationary_in f)) orbiting_none ∙ none_orbiting (stationary_in f) stationary_fine

-- The row of tests of rings, their vertex counts and their parts, one after the other. Assumes nothing.
use Prim.Native.Nat.{ℕ, ◌*◌, ◌≤◌}
use mathlib.Core.Path.{◌≡◌, refl}
use mathlib.Core.Bool.{true}
use mathlib.Core.List.{List, map}
use native.Mathlib.Omega.{arith}
use lib.ListN.{length}
use lib.Dec.{eqb}
use lib.Ieee.{Float}
use borrow.Author.Tests.{eq-eqb, eqb-true}
use Rattle.refusals.specs.Refusals.{refused_length, passed, first}
use Rattle.refusals.specs.Bounds.{coordinates}
use Rattle.refusals.specs.Rings.{rings_most, total, sized_all, sum_ok}
use Rattle.refusals.specs.Lists.{list_fault, fault_of, rings_extent, count_extent}
use Rattle.refusals.specs.Screens.{wrong_sum, wrong_parts, wrong_number}
use Rattle.refusals.specs.Rows.{of_rings}
use Rattle.refusals.specs.Refusals.{Told}
use Rattle.refusals.proofs.Sized.{Fine, fine, row_parts, holds}
use Rattle.refusals.proofs.Faults.{fault_none, counts_sized, sized_counts}

-- the number of rings
are_rings : (ns : List ℕ) (at : ℕ) → passed (list_fault (rings_extent ns) at) ≡ true → (1 ≤ length ns) × (length ns ≤ rings_most)
are_rings ns at h = let f = fine (rings_extent ns) at h in (omega (arith, f.enough), omega (arith, f.within))

module _ (xs : List Float) (ns ps : List ℕ) where
  abbrev rings : Told
  rings = list_fault (rings_extent ns) (length ns)

  abbrev each : Told
  each = fault_of (map count_extent ns)

  abbrev later : Told
  later = first (wrong_parts ns ps) (wrong_number xs)

  abbrev last : Told
  last = first (wrong_sum xs ns) later

  -- their sum, and the number of parts
  abbrev sums : Told
  sums = first (wrong_sum xs ns) (wrong_parts ns ps)

  -- the rings one by one, and the two
  abbrev pub lists : Told
  lists = first each sums

  -- rings that are not refused
  pub rings_taken : passed (of_rings xs ns ps) ≡ true
      → (1 ≤ length ns) × (length ns ≤ rings_most) × (sized_all ns ≡ true) × (length xs ≡ 2 * total ns) × (coordinates xs ≡ true) × (length ps ≡ length ns)
  unfolding of_rings
  rings_taken h =
      let r = row_parts rings (first each last) h in
      let k = row_parts each last r.1 in
      let s = row_parts (wrong_sum xs ns) later k.1 in
      let t = row_parts (wrong_parts ns ps) (wrong_number xs) s.1 in
      let n = are_rings ns (length ns) r.0 in (
        n.0,
        n.1,
        counts_sized 0 ns k.0,
        eqb-true (length xs) (2 * total ns) (holds (sum_ok xs ns) refused_length (length ns) refl s.0),
        holds (coordinates xs) 2 0 refl t.1,
        eqb-true (length ps) (length ns) (holds (eqb (length ps) (length ns)) refused_length (length ns) refl t.0),
      )

  pub taken_rings : 1 ≤ length ns → length ns ≤ rings_most → sized_all ns ≡ true → length xs ≡ 2 * total ns → coordinates xs ≡ true → length ps ≡ length ns
      → passed (of_rings xs ns ps) ≡ true
  unfolding of_rings
  taken_rings one few sized whole bounded many =
      let f : Fine (rings_extent ns) = record { whole = omega arith; enough = omega (arith, one); within = omega (arith, few) } in
      rw (← fault_none (rings_extent ns) (length ns) f, sized_counts 0 ns sized, eq-eqb (length xs) (2 * total ns) whole, eq-eqb (length ps) (length ns) many, bounded)

-- What the tests of the call say: the start is a place of the path, and the shift's places fit the room. Assumes nothing.
use Prim.Native.Nat.{ℕ, ◌<◌, ◌≤◌}
use mathlib.Core.Path.{◌≡◌, refl}
use mathlib.Core.Bool.{true}
use lib.Dec.{leb, ltb}
use borrow.Author.Tests.{leb-true, ltb-true}
use Rattle.refusals.specs.Refusals.{none, refused_inspection, refused_fit, passed, unless, first}
use Rattle.refusals.specs.Screens.{wrong_fit}
use Rattle.refusals.proofs.Sized.{row_parts, holds}
use Rattle.inspection.specs.Places.{per_shift}
use Rattle.inspection.specs.Calls.{path_ok, shift_ok, of_shift, next_refusal}

module _ (n k start : ℕ) where
  -- where what is lent passes, the start is a place of the path
  start_in : passed (of_shift n k start) ≡ true → start < n
  unfolding of_shift
  start_in h =
      let path = unless (path_ok n) refused_inspection 0 in
      let shift = unless (shift_ok k) refused_inspection 0 in
      let from = unless (ltb start n) refused_inspection 0 in
      let s = row_parts shift from (row_parts path (first shift from) h).1 in
      ltb-true _ _ (holds (ltb start n) refused_inspection 0 refl s.1)

  pub start_below : none ≡ of_shift n k start → start < n
  start_below h = start_in (rw (← h))

  pub through : (size : ℕ) → passed (next_refusal n k start size) ≡ true → (start < n) × (per_shift n k ≤ size)
  unfolding next_refusal
  through size h =
      let p = row_parts (of_shift n k start) (wrong_fit (per_shift n k) size) h in
      (start_in p.0, leb-true _ _ (holds (leb (per_shift n k) size) refused_fit 0 refl p.1))

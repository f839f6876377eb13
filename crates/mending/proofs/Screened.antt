-- What the tests of the call tell: what a ring to mend is, and that rooms which pass are long enough. Assumes nothing.
use Prim.Native.Nat.{ℕ, ◌*◌, ◌-◌, ◌≤◌}
use mathlib.Core.Path.{◌≡◌, refl, sym, ap}
use mathlib.Core.Bool.{true}
use mathlib.Core.List.{List}
use native.Mathlib.Omega.{arith}
use lib.ListN.{length}
use lib.Dec.{leb}
use lib.Ieee.{Float}
use borrow.Author.Tests.{leb-true, le-leb}
use Rattle.ring.specs.Ring.{count}
use Rattle.refusals.specs.Refusals.{refused_remaining, none, passed, first}
use Rattle.refusals.specs.Bounds.{coordinates}
use Rattle.refusals.specs.Lists.{list_fault}
use Rattle.refusals.specs.Screens.{wrong_number, wrong_fit}
use Rattle.refusals.specs.Rows.{of_rooms}
use Rattle.refusals.proofs.Sized.{row_parts, holds, Fine, fine, rooms_fit}
use Rattle.refusals.proofs.Faults.{fault_none}
use Rattle.mending.specs.Rows.{mendable_extent, of_mendable, wrong_remaining, of_mending}
use Rattle.mending.specs.Mending.{staying, going}
use Rattle.mending.proofs.Counting.{all_parts}

-- a ring that is not refused
pub record Mendable (r : List Float) : Type 0 where
  pub even : length r ≡ 2 * count r
  pub least : 1 ≤ count r
  pub most : count r ≤ 256
  pub bounded : coordinates r ≡ true

module _ (r : List Float) where
  pub is_mendable : passed (of_mendable r) ≡ true → Mendable r
  unfolding of_mendable
  is_mendable h =
      let p = row_parts (list_fault (mendable_extent r) 0) (wrong_number r) h in
      let f = fine (mendable_extent r) 0 p.0 in
      record { even = omega (arith, f.whole); least = f.enough; most = f.within; bounded = holds (coordinates r) 2 0 refl p.1 }

  pub mendable_passes : Mendable r → of_mendable r ≡ none
  unfolding of_mendable
  mendable_passes m =
      let f : Fine (mendable_extent r) = record { whole = omega (arith, m.even); enough = m.least; within = m.most } in
      rw (← fault_none (mendable_extent r) 0 f, m.bounded)

  pub lent_is : none ≡ of_mendable r → Mendable r
  lent_is e = is_mendable (ap passed (sym e))

-- three vertices remain, and each room is long enough
pub record Fits (remaining gone room dropped points : ℕ) : Type 0 where
  pub three : 3 ≤ remaining
  pub ring : 2 * remaining ≤ room
  pub whys : 2 * gone ≤ dropped
  pub spots : 2 * gone ≤ points

module _ (remaining gone room dropped points : ℕ) where
  pub all_fit : passed (of_mending remaining gone room dropped points) ≡ true → Fits remaining gone room dropped points
  unfolding of_mending
  all_fit h =
      let report = of_rooms (2 * gone) dropped (2 * gone) points in
      let p = row_parts (wrong_remaining remaining) (first (wrong_fit (2 * remaining) room) report) h in
      let q = row_parts (wrong_fit (2 * remaining) room) report p.1 in
      let s = rooms_fit (2 * gone) dropped (2 * gone) points refl refl q.1 in
      record {
        three = leb-true _ _ (holds (leb 3 remaining) refused_remaining 0 refl p.0);
        ring = leb-true _ _ (holds (leb (2 * remaining) room) 5 0 refl q.0);
        whys = s.0;
        spots = s.1;
      }

  pub fit_passes : Fits remaining gone room dropped points → of_mending remaining gone room dropped points ≡ none
  unfolding of_mending of_rooms
  fit_passes f =
      rw (le-leb 3 remaining f.three, le-leb (2 * remaining) room f.ring, le-leb (2 * gone) dropped f.whys, le-leb (2 * gone) points f.spots)

  pub fit_is : none ≡ of_mending remaining gone room dropped points → Fits remaining gone room dropped points
  fit_is e = all_fit (ap passed (sym e))

-- what does not stay goes
pub rest : (r : List Float) (s : ℕ) → s ≡ length (staying r) → count r - s ≡ length (going r)
rest r s e = omega (arith, all_parts r)

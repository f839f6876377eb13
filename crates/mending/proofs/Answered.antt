-- What a ring that is not refused is mended to, all theorems in one, of the call's own definitions. Assumes nothing.
use Prim.Native.Nat.{ℕ, zero, suc, ◌+◌, ◌*◌, ◌-◌, ◌≤◌, ◌<◌}
use mathlib.Core.Path.{◌≡◌, refl, ap}
use mathlib.Core.Bool.{Bool, true, false}
use mathlib.Core.List.{List}
use native.Mathlib.Omega.{arith}
use lib.ListN.{length}
use lib.Ieee.{Float}
use Rattle.ring.specs.Ring.{count, point_at}
use Rattle.plane.specs.Vector.{same_of}
use Rattle.contacts.specs.Contacts.{picks}
use Rattle.refusals.specs.Refusals.{passed}
use Rattle.refusals.specs.Bounds.{coordinate, coordinates, every}
use Rattle.refusals.specs.Answers.{answers}
use Rattle.refusals.proofs.Sized.{row_parts}
use Rattle.refusals.proofs.Every.{every_at}
use Rattle.mending.specs.Mending.{why_run, why_trailing, goes_at, stays_at, why_of, staying, going, vertices_at, mended_of, dropped_of, dropped_points}
use Rattle.mending.specs.Rows.{of_mendable}
use Rattle.mending.specs.Calls.{fitting, mend_refusal, mend_call}
use Rattle.mending.specs.Restoring.{put_back, Differing, Climbing, Begun}
use Rattle.mending.proofs.Screened.{Mendable, is_mendable, mendable_passes, Fits, all_fit, fit_passes}
use Rattle.mending.proofs.Counting.{all_parts}
use Rattle.mending.proofs.Writing.{vertices_length}
use Rattle.mending.proofs.Picked.{climbs}
use Rattle.mending.proofs.Restored.{restored}
use Rattle.mending.proofs.Runs.{run_equals, trailing_equals}
use Rattle.mending.proofs.Neighbours.{mended_count, neighbours_differ}
use Rattle.mending.proofs.Again.{mended_even, nothing_more, mended_again}

vertex_bounded : (r : List Float) (i : ℕ) → i < count r → coordinates r ≡ true → (coordinate (point_at r i).x ≡ true) × (coordinate (point_at r i).y ≡ true)
unfolding point_at
vertex_bounded r i h c = (every_at coordinate r (2 * i) c (omega arith), every_at coordinate r (2 * i + 1) c (omega arith))

-- numbers of a ring in bounds are so in any choice of its vertices
chosen_bounded : (r : List Float) (p : ℕ → Bool) (n k : ℕ) → k + n ≡ count r → coordinates r ≡ true → coordinates (vertices_at r (picks p k n)) ≡ true
unfolding every picks vertices_at
chosen_bounded r p zero k e h = refl
chosen_bounded r p (suc n) k e h = go (chosen_bounded r p n (suc k) (omega arith) h) (p k) refl
  where
    go : coordinates (vertices_at r (picks p (suc k) n)) ≡ true → (b : Bool) → p k ≡ b → coordinates (vertices_at r (picks p k (suc n))) ≡ true
    go rest true q = rw q (rw ((vertex_bounded r k (omega arith) h).0, (vertex_bounded r k (omega arith) h).1) rest)
    go rest false q = rw q rest

module _ (r : List Float) where
  -- what is kept is kept in order, and the report rises
  pub kept_in_order : Climbing (staying r)
  kept_in_order = climbs (stays_at r) (count r - 0) 0

  pub report_rises : Climbing (going r)
  report_rises = climbs (goes_at r) (count r - 0) 0

  -- a dropped vertex: one of a run equals the vertex that its run begins with, a trailing one the first
  pub run_told : (i : ℕ) → goes_at r i ≡ true → why_of r i ≡ why_run → Begun r i
  run_told i g w = run_equals r i g w

  pub trailing_told : (i : ℕ) → i < count r → goes_at r i ≡ true → why_of r i ≡ why_trailing → same_of (point_at r 0) (point_at r i) ≡ true
  trailing_told i h g w = trailing_equals r i i g w (omega arith) h

  module _ (room dropped points : ℕ) (h : passed (mend_refusal r room dropped points) ≡ true) where
    lent : Mendable r
    unfolding mend_refusal
    lent = is_mendable r (row_parts (of_mendable r) (fitting r room dropped points) h).0

    fits : Fits (length (staying r)) (length (going r)) room dropped points
    unfolding mend_refusal
    fits = all_fit (length (staying r)) (length (going r)) room dropped points (row_parts (of_mendable r) (fitting r room dropped points) h).1

    two : 2 ≤ length (staying r)
    two = omega (arith, fits.three)

    -- no two neighbours are equal as numbers, the last and the first included
    pub call_differs : Differing (mended_of r)
    call_differs = neighbours_differ r two

    -- the dropped ones put back at their indices give what was lent
    pub call_restores : put_back (mended_of r) (dropped_of r) (dropped_points r) ≡ r
    call_restores = restored r lent.even

    -- a mended ring, lent with rooms that hold it, is answered as it is, and nothing is dropped
    again : Mendable (mended_of r)
    again =
        let c = mended_count r in
        record {
          even = mended_even r two;
          least = omega (arith, two);
          most = omega (arith, all_parts r, lent.most);
          bounded = chosen_bounded r (stays_at r) (count r - 0) 0 (omega arith) lent.bounded;
        }

    pub call_again : (size report spots : ℕ) → length (mended_of r) ≤ size
        → mend_call (mended_of r) size report spots ≡ answers (record { vertices = length (staying r); dropped = 0 })
    unfolding mend_refusal
    call_again size report spots fit =
        let s = mended_of r in
        let c = mended_count r in
        let g = nothing_more r two in
        let n : length (staying s) ≡ length (staying r) = omega (arith, all_parts s, ap length g) in
        let t : 3 ≤ length (staying r) = fits.three in
        let l = vertices_length r (staying r) in
        rw (mendable_passes s again, g, n, fit_passes (length (staying r)) 0 size report spots (record { three = t; ring = omega arith; whys = omega arith; spots = omega arith }))

    pub call_unchanged : mended_of (mended_of r) ≡ mended_of r
    call_unchanged = mended_again r two

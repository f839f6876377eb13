-- A ring of which no two neighbours are equal as numbers is left as it is; so mending a mended ring drops nothing. Assumes nothing.
use Prim.Native.Nat.{ℕ, zero, suc, ◌+◌, ◌*◌, ◌-◌, ◌%◌, ◌≤◌, ◌<◌}
use mathlib.Core.Path.{◌≡◌, ◌∙◌}
use mathlib.Core.Bool.{false}
use mathlib.Core.List.{List, []}
use native.Mathlib.Omega.{arith}
use native.Mathlib.Nat.{mod-eq_of_lt, mod_self}
use native.Mathlib.Numerals.{add-one}
use lib.ListN.{length}
use lib.Ieee.{Float}
use Rattle.plane.specs.Vector.{same_of}
use Rattle.ring.specs.Ring.{count, point_at}
use Rattle.mending.specs.Mending.{repeats_at, goes_at, staying, going, vertices_at, whys_at, mended_of}
use Rattle.mending.specs.Restoring.{put_back, Differing}
use Rattle.mending.proofs.Equal.{same_back, refuted}
use Rattle.mending.proofs.Trailing.{trails_at}
use Rattle.mending.proofs.Fates.{goes_first, goes_apart}
use Rattle.mending.proofs.Picked.{picks_none}
use Rattle.mending.proofs.Restored.{restored}
use Rattle.mending.proofs.Writing.{vertices_length}
use Rattle.mending.proofs.Neighbours.{never, mended_count, neighbours_differ}

module _ (s : List Float) (two : 2 ≤ count s) (differ : Differing s) where
  -- no vertex repeats the one before it
  fresh : (i : ℕ) → i + 1 < count s → repeats_at s (suc i) ≡ false
  fresh i h =
      let e : (i + 1) % count s ≡ suc i = mod-eq_of_lt h ∙ add-one i in
      let z : suc i - 1 ≡ i = omega arith in
      rw z (rw e at (differ i (omega arith)))

  -- and the last does not equal the first
  ends_differ : same_of (point_at s (count s - 1)) (point_at s 0) ≡ false
  ends_differ =
      let z : count s - 1 + 1 ≡ count s = omega arith in
      let e : (count s - 1 + 1) % count s ≡ 0 = rw z (mod_self (count s)) in
      rw e at (differ (count s - 1) (omega arith))

  all_stay : (i : ℕ) → i < count s → goes_at s i ≡ false
  all_stay zero h = goes_first s
  all_stay (suc i) h =
      refuted (goes_at s (suc i))
      (λ g. let t = goes_apart s (suc i) g (fresh i (omega arith)) in
      never (same_back (point_at s 0) (point_at s (count s - 1)) (trails_at s (suc i) (count s - 1) t (omega arith) (omega arith))) ends_differ)

  pub none_go : going s ≡ []
  none_go = picks_none (goes_at s) (count s - 0) 0 (λ m a b. all_stay m (omega arith))

  pub stays_whole : length s ≡ 2 * count s → mended_of s ≡ s
  unfolding vertices_at whys_at put_back
  stays_whole even = rw none_go at (restored s even)

-- a mended ring
module _ (r : List Float) (two : 2 ≤ length (staying r)) where
  pub mended_even : length (mended_of r) ≡ 2 * count (mended_of r)
  mended_even = omega (arith, vertices_length r (staying r))

  enough : 2 ≤ count (mended_of r)
  enough = omega (arith, mended_count r)

  pub nothing_more : going (mended_of r) ≡ []
  nothing_more = none_go (mended_of r) enough (neighbours_differ r two)

  pub mended_again : mended_of (mended_of r) ≡ mended_of r
  mended_again = stays_whole (mended_of r) enough (neighbours_differ r two) mended_even

-- When a ring has a closing repeat, test by test. Assumes nothing.
use Prim.Native.Nat.{◌-◌, ◌≤◌, ◌<◌}
use mathlib.Core.Path.{◌≡◌, refl}
use mathlib.Core.Bool.{Bool, true, false}
use mathlib.Core.List.{List}
use native.Mathlib.Omega.{arith}
use native.Mathlib.Decide.{dec_le}
use lib.Ieee.{Float}
use borrow.Author.Tests.{lt-ltb, le-ltb}
use Rattle.plane.specs.Vector.{same_of}
use Rattle.ring.specs.Ring.{count, point_at}
use Rattle.ring_copies.specs.Copies.{open_count}

module _ (r : List Float) where
  pub few : count r ≤ 3 → count r ≡ open_count r
  unfolding open_count
  few h = rw (le-ltb 3 (count r) h)

  pub repeated : 3 < count r → same_of (point_at r 0) (point_at r (count r - 1)) ≡ true → count r - 1 ≡ open_count r
  unfolding open_count
  repeated h t = rw (lt-ltb 3 (count r) h, t)

  pub whole : 3 < count r → same_of (point_at r 0) (point_at r (count r - 1)) ≡ false → count r ≡ open_count r
  unfolding open_count
  whole h t = rw (lt-ltb 3 (count r) h, t)

  -- no vertex is added
  pub open_le : open_count r ≤ count r
  open_le = go (dec_le (count r) 3) (same_of (point_at r 0) (point_at r (count r - 1))) refl
    where
      go : Dec (count r ≤ 3) → (b : Bool) → same_of (point_at r 0) (point_at r (count r - 1)) ≡ b → open_count r ≤ count r
      go (yes h) b e = omega (arith, few h)
      go (no h) true e = omega (arith, repeated (omega arith) e)
      go (no h) false e = omega (arith, whole (omega arith) e)

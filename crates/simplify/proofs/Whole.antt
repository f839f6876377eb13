-- When the whole list is kept. Assumes nothing.
use Prim.Native.Nat.{ℕ, ◌*◌, ◌%◌, ◌≤◌, ◌<◌}
use mathlib.Core.Path.{◌≡◌}
use mathlib.Core.Bool.{Bool, true, false, cond}
use mathlib.Core.List.{List}
use native.Mathlib.Omega.{arith}
use lib.ListN.{length, take}
use lib.Seq.{take-length}
use lib.Dec.{ltb}
use lib.Ieee.{Float}
use borrow.Author.Tests.{lt-ltb, le-ltb}
use Rattle.ring.specs.Ring.{count}
use Rattle.ring.specs.Room.{laid}
use Rattle.simplify.specs.Simplify.{survivors, simplified}
use Rattle.simplify.proofs.Survive.{bounded, even}

module _ (r : List Float) (tol : Float) where
  pub few : count r < 3 → simplified r tol ≡ r
  unfolding simplified
  few h = rw (lt-ltb (count r) 3 h)

  -- the whole list fits where the simplified one does
  pub whole_fits : (size : ℕ) → length r % 2 ≡ 0 → simplified r tol ≡ r → 2 * count (simplified r tol) ≤ size → length r ≤ size
  whole_fits size h e f = let g : 2 * count r ≤ size = rw e at f in omega arith

  -- the whole list, copied
  pub copied : (d : List Float) {room : List Float} → simplified r tol ≡ r → room ≡ laid (take (length r) r) d → room ≡ laid (simplified r tol) d
  copied d e h = rw e (rw take-length at h)

  module _ {kept : ℕ} (e : 2 * kept ≡ length (survivors r tol (count r))) where
    pub kept_is : kept ≡ count (survivors r tol (count r))
    kept_is = omega arith

    pub lost : 3 ≤ count r → kept < 3 → simplified r tol ≡ r
    unfolding simplified
    lost h k = rw (le-ltb (count r) 3 h, ← kept_is, lt-ltb kept 3 k)

    pub enough : 3 ≤ count r → 3 ≤ kept → simplified r tol ≡ survivors r tol (count r)
    unfolding simplified
    enough h k = rw (le-ltb (count r) 3 h, ← kept_is, le-ltb kept 3 k)

    pub enough_fits : (size : ℕ) → 3 ≤ count r → 3 ≤ kept → 2 * count (simplified r tol) ≤ size → length (survivors r tol (count r)) ≤ size
    enough_fits size h k f =
        let g : 2 * count (survivors r tol (count r)) ≤ size = rw (enough h k) at f in
        omega arith

  -- a room that holds the list holds the simplified one
  pub not_longer : length (simplified r tol) ≤ length r
  unfolding simplified
  not_longer = go (ltb (count r) 3) (ltb (count (survivors r tol (count r))) 3)
    where
      go : (a b : Bool) → length (cond a r (cond b r (survivors r tol (count r)))) ≤ length r
      go true b = omega arith
      go false true = omega arith
      go false false = omega (arith, bounded r tol (count r))

  -- and it holds whole points
  pub simplified_even : length r % 2 ≡ 0 → length (simplified r tol) % 2 ≡ 0
  unfolding simplified
  simplified_even h = go (ltb (count r) 3) (ltb (count (survivors r tol (count r))) 3)
    where
      go : (a b : Bool) → length (cond a r (cond b r (survivors r tol (count r)))) % 2 ≡ 0
      go true b = h
      go false true = h
      go false false = even r tol (count r)

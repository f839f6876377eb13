-- Whether a number lies between two others, whichever of them is the smaller. Assumes nothing.
use Prim.Native.Nat.{ℕ, ◌≤◌, ◌<◌, min, max}
use native.Mathlib.Omega.{arith}
use mathlib.Core.Path.{◌≡◌}
use mathlib.Core.Bool.{false}
use lib.Dec.{leb}
use borrow.Author.Tests.{le-leb, lt-leb}
use Rattle.whole_rules.specs.Segments.{whole_between}

module _ (a b p : ℕ) where
  pub up_in : a ≤ b → a ≤ p → leb p b ≡ whole_between a b p
  up_in h k =
      let m : min a b ≡ a = omega arith in
      let n : max a b ≡ b = omega arith in
      rw (m, n, le-leb a p k)

  pub up_out : a ≤ b → p < a → false ≡ whole_between a b p
  up_out h k = let m : min a b ≡ a = omega arith in rw (m, lt-leb a p k)

  pub down_in : b < a → b ≤ p → leb p a ≡ whole_between a b p
  down_in h k =
      let m : min a b ≡ b = omega arith in
      let n : max a b ≡ a = omega arith in
      rw (m, n, le-leb b p k)

  pub down_out : b < a → p < b → false ≡ whole_between a b p
  down_out h k = let m : min a b ≡ b = omega arith in rw (m, lt-leb b p k)

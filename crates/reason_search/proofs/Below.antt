-- What is told by a number that is found below another, and by none; and when it is so. Assumes nothing.
use Prim.Native.Nat.{ℕ, ◌≤◌, ◌<◌}
use native.Mathlib.Omega.{arith}
use mathlib.Core.Path.{◌≡◌, refl}
use mathlib.Core.Bool.{Bool, true, false, cond}
use lib.Dec.{ltb}
use borrow.Author.Tests.{ltb-true, ltb-false, lt-ltb, le-ltb}
use Rattle.std.proofs.Common.{Some, None}
use Rattle.reason_search.specs.Below.{below}

module _ (n k : ℕ) where
  pub of_some : {c : ℕ} → Some c ≡ below n k → (c ≡ k) × (c < n)
  of_some {c} h = go (ltb k n) refl h
    where
      go : (x : Bool) → ltb k n ≡ x → Some c ≡ cond x (Some k) None → (c ≡ k) × (c < n)
      go true e f = let q : c ≡ k = cc in (q, omega (arith, ltb-true k n e))
      go false e f = cc

  pub of_none : None ≡ below n k → n ≤ k
  of_none h = go (ltb k n) refl h
    where
      go : (x : Bool) → ltb k n ≡ x → None ≡ cond x (Some k) None → n ≤ k
      go true e f = cc
      go false e f = ltb-false k n e

  pub some_is : {c : ℕ} → c < n → c ≡ k → Some c ≡ below n k
  some_is {c} h e = rw (← e, lt-ltb c n h)

  pub none_is : n ≤ k → None ≡ below n k
  none_is h = rw (le-ltb k n h)

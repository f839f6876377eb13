-- The loop of `count_contacts`. The invariant: the n contacts before the pair k and those from k on are all. Assumes nothing.
use Prim.Native.Nat.{ℕ, ◌+◌, ◌≤◌}
use mathlib.Core.Path.{◌≡◌, ap}
use mathlib.Core.List.{List, []}
use native.Mathlib.Omega.{arith}
use lib.ListN.{length}
use lib.Ieee.{Float}
use Rattle.ring.specs.Ring.{count}
use Rattle.pairs.specs.Pairs.{pair_count}
use Rattle.contacts.specs.Contacts.{contacts_from, contacts_of}
use Rattle.contacts.proofs.Following.{FoundAt}

module _ (st orb : List Float) (tol : Float) where
  pub record Counting (n k : ℕ) : Type 0 where
    pub most : k ≤ pair_count (count st) (count orb)
    pub few : n ≤ k
    pub sum : n + length (contacts_from st orb tol k) ≡ length (contacts_of st orb tol)

  pub start : Counting 0 0
  start = record { most = omega arith; few = omega arith; sum = omega arith }

  pub one_more : {n k j : ℕ} → FoundAt st orb tol k j → Counting n k → Counting (n + 1) (j + 1)
  one_more f c =
      record { most = omega (arith, f.below); few = omega (arith, f.least, c.few); sum = omega (arith, ap length f.then, c.sum) }

  pub all : {n k : ℕ} → Counting n k → contacts_from st orb tol k ≡ [] → n ≡ length (contacts_of st orb tol)
  all c e = omega (arith, ap length e, c.sum)

-- Checks one after the other: what passes, and what it tells that they pass. Assumes nothing.
use Prim.Native.Nat.{ℕ}
use mathlib.Core.Path.{◌≡◌, refl}
use mathlib.Core.Bool.{Bool, true, false}
use Rattle.refusals.specs.Refusals.{first}
use Rattle.refusals.specs.Refusals.{Told}
use Rattle.reading.proofs.Order.{no_bool}
use Rattle.book_layout.specs.Faults.{fault, ◌passes}

pub pass : (a b : Told) → a passes → b passes → first a b passes
pass a b h k = rw h k

pub held : (t : Bool) (p : ℕ) → fault t p passes → t ≡ true
held true p h = refl
held false p h = no_bool h

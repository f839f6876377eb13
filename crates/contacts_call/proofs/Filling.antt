-- A loop that writes a list to the front of a room, a few elements a turn. The invariant: what is left of the list, stored from `at` on, makes
-- of the room what the whole list makes of the room as it came, d. Assumes nothing.
use Prim.Native.Nat.{ℕ, ◌+◌, ◌≤◌, ◌<◌}
use mathlib.Core.Path.{◌≡◌, refl, sym, ◌∙◌}
use mathlib.Core.List.{List, [], ◌∷◌}
use native.Mathlib.Omega.{arith}
use native.Mathlib.Nat.{zero-add}
use native.Mathlib.Numerals.{add-one}
use lib.ListN.{length, set, length-set}
use lib.Seq.{sets, sets-eq}
use Rattle.ring.specs.Room.{laid}

module _ {A : Type 0} where
  pub record Filling (all d room rest : List A) (at : ℕ) : Type 0 where
    pub same : length room ≡ length d
    pub size : at + length rest ≡ length all
    pub stores : sets d 0 all ≡ sets room at rest

  pub begun : (all d : List A) → Filling all d d all 0
  begun all d = record { same = refl; size = omega arith; stores = refl }

  module _ {all d room rest : List A} {at : ℕ} where
    pub put : {v : A} → Filling all d room (v ∷ rest) at → Filling all d (set room at v) rest (at + 1)
    put {v} f =
        record { same = simp length-set f.same; size = omega (arith, f.size); stores = rw (add-one at) f.stores }

    -- a store is within the room
    pub fits : {v : A} → length all ≤ length d → Filling all d room (v ∷ rest) at → at + length rest < length room
    fits h f = omega (arith, f.size, f.same)

  pub filled : {all d room : List A} {at : ℕ} → length all ≤ length d → Filling all d room [] at → room ≡ laid all d
  filled {all} {d} h f = sym f.stores ∙ sets-eq all d 0 (omega arith) ∙ (rw (zero-add (length all)))

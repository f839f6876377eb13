-- A test of each number of a list: a loop that makes it, where what is left of the list decides, and the same by the
-- numbers' places. Assumes nothing.
use Prim.Native.Nat.{ℕ, zero, suc, ◌+◌, ◌≤◌, ◌<◌}
use mathlib.Core.Path.{◌≡◌, refl}
use mathlib.Core.Bool.{Bool, true, false}
use mathlib.Core.List.{List, [], ◌∷◌}
use native.Mathlib.Numerals.{add-one}
use native.Mathlib.Omega.{arith}
use lib.ListN.{length, get_or, drop, drop_of_length-le}
use lib.Seq.{drop-cons}
use lib.Ieee.{Float, nan}
use Rattle.laws.proofs.Both.{both}
use Rattle.refusals.specs.Bounds.{every}

module _ (p : Float → Bool) (r : List Float) (i : ℕ) where
  pub every_on : i < length r → p (get_or r i nan) ≡ true → every p (drop i r) ≡ every p (drop (i + 1) r)
  unfolding every
  every_on h t = rw (drop-cons r i nan, t, add-one)

  pub every_off : i < length r → p (get_or r i nan) ≡ false → every p (drop i r) ≡ false
  unfolding every
  every_off h t = rw (drop-cons r i nan, t)

  pub every_end : length r ≤ i → every p (drop i r) ≡ true
  unfolding every
  every_end h = rw (drop_of_length-le r h)

-- it holds at each place, and holds of the list where it does
pub every_at : (p : Float → Bool) (r : List Float) (i : ℕ) → every p r ≡ true → i < length r → p (get_or r i nan) ≡ true
unfolding every
every_at p [] i h l = absurd (omega arith)
every_at p (x ∷ r) zero h l = (both (p x) (every p r) h).0
every_at p (x ∷ r) (suc i) h l = every_at p r i (both (p x) (every p r) h).1 (omega arith)

pub every_of : (p : Float → Bool) (r : List Float) → ((i : ℕ) → i < length r → p (get_or r i nan) ≡ true) → every p r ≡ true
unfolding every
every_of p [] h = refl
every_of p (x ∷ r) h =
    let here : p x ≡ true = h 0 (omega arith) in
    rw (here, every_of p r (λ i l. h (suc i) (omega arith)))

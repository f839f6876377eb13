-- Which of two numbers is less, and the turn that tells it. Assumes nothing.
use Prim.Native.Nat.{ℕ, ◌<◌}
use native.Mathlib.Omega.{arith}
use mathlib.Core.Path.{◌≡◌, refl}
use mathlib.Core.Bool.{Bool, true, false, cond, false≢true}
use mathlib.Core.Logic.{◌⊎◌, inl, inr}
use lib.Dec.{ltb}
use lib.IntN.{ℤ, pos, negsuc}
use borrow.Author.Tests.{ltb-true, ltb-false}
use Rattle.segments.specs.Segments.{straddles_of}
use Rattle.shifted.specs.declared.Spot.{Spot}
use Rattle.whole_rules.specs.Segments.{left_of, right_of, whole_turn}

-- the turn d is to the left, to the right, or neither, where l counts for the left and r for the right
pub data Turned (l r : ℕ) : ℤ → Type 0 where
  left : r < l → Turned l r (pos 1)
  right : l < r → Turned l r (negsuc 0)
  level : l ≡ r → Turned l r (pos 0)

pub compared : (l r : ℕ) → Turned l r (cond (ltb r l) (pos 1) (cond (ltb l r) (negsuc 0) (pos 0)))
compared l r = go (ltb r l) (ltb l r) refl refl
  where
    go : (s t : Bool) → ltb r l ≡ s → ltb l r ≡ t → Turned l r (cond s (pos 1) (cond t (negsuc 0) (pos 0)))
    go true t e f = left (ltb-true r l e)
    go false true e f = right (ltb-true l r f)
    go false false e f = level (omega (arith, ltb-false r l e, ltb-false l r f))

pub turn_is : (a b c : Spot) → Turned (left_of a b c) (right_of a b c) (whole_turn a b c)
unfolding whole_turn
turn_is a b c = compared (left_of a b c) (right_of a b c)

-- two turns to different sides
abbrev pub Opposite : ℕ → ℕ → ℕ → ℕ → Type 0
Opposite l r l' r' = ((r < l) × (l' < r')) ⊎ ((l < r) × (r' < l'))

pub opposite : {l r l' r' : ℕ} {d e : ℤ} → Turned l r d → Turned l' r' e → straddles_of d e ≡ true → Opposite l r l' r'
unfolding straddles_of
opposite (left h) (right k) e = inl (h, k)
opposite (right h) (left k) e = inr (h, k)
opposite (left h) (left k) e = absurd (false≢true e)
opposite (left h) (level k) e = absurd (false≢true e)
opposite (right h) (right k) e = absurd (false≢true e)
opposite (right h) (level k) e = absurd (false≢true e)
opposite (level h) (left k) e = absurd (false≢true e)
opposite (level h) (right k) e = absurd (false≢true e)
opposite (level h) (level k) e = absurd (false≢true e)

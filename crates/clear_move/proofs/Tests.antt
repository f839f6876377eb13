-- A test of each number of a list: of its parts, and of a room of zeros with the list at its front. Assumes nothing.
use Prim.Native.Nat.{ℕ, zero, suc}
use mathlib.Core.Path.{◌≡◌, refl}
use mathlib.Core.Bool.{Bool, true}
use mathlib.Core.List.{List, [], ◌∷◌, ◌++◌}
use lib.ListN.{length, take, drop, replicate}
use lib.Ieee.{Float, binary64, of_bits, of_int, to_signed, eq}
use Rattle.laws.proofs.Both.{both}
use Rattle.ring.specs.Room.{laid}
use Rattle.refusals.specs.Bounds.{coordinate, coordinates, every}
use Rattle.whole_input.specs.Whole.{is_whole, all_whole}

module _ (p : Float → Bool) where
  pub every_take : (k : ℕ) (l : List Float) → every p l ≡ true → every p (take k l) ≡ true
  unfolding every
  every_take zero l h = refl
  every_take (suc k) [] h = refl
  every_take (suc k) (x ∷ l) h = let b = both (p x) (every p l) h in rw b.0 (every_take k l b.1)

  pub every_drop : (k : ℕ) (l : List Float) → every p l ≡ true → every p (drop k l) ≡ true
  unfolding every
  every_drop zero l h = h
  every_drop (suc k) [] h = refl
  every_drop (suc k) (x ∷ l) h = every_drop k l (both (p x) (every p l) h).1

  every_front : (l rest : List Float) → every p rest ≡ true → every p (l ++ rest) ≡ every p l
  unfolding every
  every_front [] rest h = h
  every_front (x ∷ l) rest h = rw (every_front l rest h)

  every_same : (x : Float) (m : ℕ) → p x ≡ true → every p (replicate m x) ≡ true
  unfolding every
  every_same x zero h = refl
  every_same x (suc m) h = rw h (every_same x m h)

  every_laid : (l : List Float) (x : Float) (m : ℕ) → p x ≡ true → every p (laid l (replicate m x)) ≡ every p l
  every_laid l x m h = every_front l (drop (length l) (replicate m x)) (every_drop (length l) (replicate m x) (every_same x m h))

-- 0 is a coordinate, and whole
pub coordinates_laid : (l : List Float) (m : ℕ) → coordinates (laid l (replicate m (of_bits binary64 0))) ≡ coordinates l
unfolding coordinate of_bits
coordinates_laid l m = every_laid coordinate l (of_bits binary64 0) m refl

pub whole_laid : (l : List Float) (m : ℕ) → all_whole (laid l (replicate m (of_bits binary64 0))) ≡ all_whole l
unfolding is_whole of_bits of_int to_signed eq
whole_laid l m = every_laid is_whole l (of_bits binary64 0) m refl

-- What is mirrored beside a ring: a point, the rings of a book, and a ring whose order is kept. Definitions only.
use Rattle.std.specs.Prelude.{ℕ, ◌*◌, ◌≡◌, Bool, List, [], ◌∷◌, ◌++◌, length, take, drop, pos, Float}
use Rattle.std.specs.Float.{fin}
use Rattle.std.specs.Float.Ieee.{neg}
use Rattle.plane.specs.Vector.{point}
use Rattle.plane.specs.declared.Point.{Point}
use Rattle.ring.specs.Ring.{count}
use Rattle.ring.specs.Room.{laid}
use Rattle.refusals.specs.Answers.{Outcome, answers, refuses, left}
use Rattle.ring_copies.specs.Copies.{mirrored}
use Rattle.ring_copies.specs.Calls.{copy_refusal, mirror_call, mirror_room}

abbrev pub mirrored_point : Point → Point
mirrored_point p = point (neg p.x) p.y

-- two values of which each is the other with its sign changed, but that zeros are opposite whatever their signs
pub data Opposite : Float → Float → Type 0 where
  turned : (x : Float) → Opposite x (neg x)
  zeros : (s t : Bool) → Opposite (fin s 0 (pos 0)) (fin t 0 (pos 0))

-- two answers alike: opposite numbers, or one refusal
abbrev pub OppositeAnswers : Outcome Float → Outcome Float → Type 0
OppositeAnswers (answers x) (answers y) = Opposite x y
OppositeAnswers (answers x) (refuses s) = ⊥
OppositeAnswers (refuses r) (answers y) = ⊥
OppositeAnswers (refuses r) (refuses s) = r ≡ s

-- a ring with each x negated, and its order as it was
unfoldable pub negated_x : List Float → List Float
negated_x [] = []
negated_x (x ∷ []) = neg x ∷ []
negated_x (x ∷ y ∷ r) = neg x ∷ y ∷ negated_x r

-- the rings of these vertex counts, one after the other, each mirrored in its place
unfoldable pub mirrored_rings : List ℕ → List Float → List Float
mirrored_rings [] xs = []
mirrored_rings (n ∷ ns) xs = mirrored (take (2 * n) xs) ++ mirrored_rings ns (drop (2 * n) xs)

-- m is the mirror of r, and its mirror is r: the call takes m in exactly the rooms in which it takes r, and then writes r, every bit of it
pub record Returns (r m : List Float) : Type 0 where
  pub mirror : m ≡ mirrored r
  pub answers : (size : ℕ) → mirror_call m size ≡ mirror_call r size
  pub writes : (room : List Float) → mirror_room m room ≡ left (copy_refusal r (count r) (length room)) (laid r room) room

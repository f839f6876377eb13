-- When floats are whole numbers: a point, a list as long with each float the number at its place, either zero for 0; and when
-- a float and an integer that calls answer are the same. Definitions only.
use Rattle.std.specs.Prelude.{suc, ◌≡◌, true, List, [], ◌∷◌, ℤ, pos, negsuc, Float}
use Rattle.std.specs.Float.{binary64}
use Rattle.std.specs.Float.Ieee.{of_int, eq}
use Rattle.plane.specs.declared.Point.{Point}
use Rattle.refusals.specs.Answers.{Outcome, answers, refuses}
use Rattle.refusals.specs.Refusals.{Told}
use Rattle.whole_floats.specs.Whole.{Whole}

-- the float is that integer
abbrev pub DrawnAt : Float → ℤ → Type 0
DrawnAt x (pos n) = Whole x n 0
DrawnAt x (negsuc n) = Whole x 0 (suc n)

abbrev pub DrawnPoint : Point → ℤ → ℤ → Type 0
DrawnPoint a x y = DrawnAt a.x x × DrawnAt a.y y

pub data Drawn : List Float → List ℤ → Type 0 where
  none : Drawn [] []
  more : {x : Float} {z : ℤ} {xs : List Float} {zs : List ℤ} → DrawnAt x z → Drawn xs zs → Drawn (x ∷ xs) (z ∷ zs)

-- the same refusal, or the same number, bit for bit but for a zero's sign
pub data SameNumber : Outcome Float → Outcome ℤ → Type 0 where
  answered : {x : Float} {z : ℤ} → eq (of_int binary64 z) x ≡ true → ((z ≡ pos 0 → ⊥) → of_int binary64 z ≡ x)
      → SameNumber (answers x) (answers z)
  refused : {r : Told} → SameNumber (refuses r) (refuses r)

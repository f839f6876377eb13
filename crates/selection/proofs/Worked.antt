-- Worked examples, by computation. Assumes nothing.
use mathlib.Core.Path.{◌≡◌, refl}
use mathlib.Core.List.{[], ◌∷◌}
use lib.Ieee.{Float, nan, add, sub, mul, div, lt, neg, of_bits}
use Rattle.std.specs.Prelude.{Some, None}
use Rattle.scalar.specs.Float.{float, f0, f1}
use Rattle.square_root.specs.Root.{sqrt_of}
use Rattle.plane.specs.Vector.{point, minus_of, dot_of, length_of, normalize_of}
use Rattle.refusals.specs.Refusals.{refuse}
use Rattle.refusals.specs.Rows.{of_vectors}
use Rattle.refusals.specs.Answers.{answers, refuses}
use Rattle.laws.specs.FirstBest.{better, over}
use Rattle.selection.specs.Score.{preferred_of, continued_of, score_of}
use Rattle.selection.specs.Select.{vector_at, score_at, scored_at, unscored, select_of}
use Rattle.selection.specs.Calls.{chosen_index, select_call}

abbrev minus_one : Float
minus_one = float 0xbff0_0000_0000_0000

-- of the position (0, -1), below the centroid (0, 0), the way to the right is preferred: vectors 1 and 2 tie, and vector 0 is a NaN
tie : select_call (nan ∷ nan ∷ f1 ∷ f1 ∷ f0 ∷ f1 ∷ f1 ∷ f0 ∷ f1 ∷ minus_one ∷ f0 ∷ f1 ∷ []) None (point f0 f0) (point f0 minus_one) ≡ answers (Some 1)
unfolding of_vectors chosen_index select_of over better unscored scored_at score_at vector_at score_of continued_of preferred_of normalize_of minus_of dot_of length_of sqrt_of add sub mul div lt neg of_bits
tie = refl

-- the same with the way up before: the vector up comes to 0.5, that to the right to 1
before : select_call (f0 ∷ f1 ∷ f1 ∷ f1 ∷ f0 ∷ f1 ∷ []) (Some (point f0 f1)) (point f0 f0) (point f0 minus_one) ≡ answers (Some 1)
unfolding of_vectors chosen_index select_of over better unscored scored_at score_at vector_at score_of continued_of preferred_of normalize_of minus_of dot_of length_of sqrt_of add sub mul div lt neg of_bits
before = refl

-- no score is above -infinity
all_nan : select_call (nan ∷ nan ∷ f1 ∷ nan ∷ nan ∷ f1 ∷ []) None (point f0 f0) (point f0 minus_one) ≡ answers (Some 0)
unfolding of_vectors chosen_index select_of over better unscored scored_at score_at vector_at score_of continued_of preferred_of normalize_of minus_of dot_of length_of sqrt_of add sub mul div lt neg of_bits
all_nan = refl

empty : select_call [] None (point f0 f0) (point f0 f0) ≡ answers None
unfolding of_vectors chosen_index
empty = refl

odd_length : select_call (f0 ∷ f0 ∷ []) None (point f0 f0) (point f0 f0) ≡ refuses (refuse 1 0)
unfolding of_vectors
odd_length = refl

-- The lines that the search has written where it is clear: they are within the bounds, and stand at the front of its room. Assumes
-- nothing.
use Prim.Native.Nat.{ℕ, ◌+◌, ◌*◌, ◌/◌, ◌%◌, ◌≤◌, ◌<◌}
use native.Mathlib.Nat.{eq-zero-or-pos}
use native.Mathlib.Omega.{arith}
use mathlib.Core.Path.{◌≡◌, ap, subst, ◌∙◌}
use mathlib.Core.Logic.{⊎_elim}
use mathlib.Core.List.{List}
use lib.ListN.{length, get_or, take}
use lib.Seq.{take_at}
use Rattle.ring.specs.Room.{laid}
use Rattle.shifted.specs.Shifted.{spot_at, Small}
use Rattle.reasons.specs.Check.{clear}
use Rattle.reason_search.specs.Search.{search_of}
use Rattle.reason_search.specs.Room.{SearchLent, lines_to, room_of}
use Rattle.reason_search.proofs.Laying.{length_lines}
use Rattle.reason_search.proofs.Found.{all_edges}
use Rattle.reason_search.proofs.Within.{room_small}

-- number k of a room whose points are within the bounds
number_low : (room : List ℕ) (k : ℕ) → Small (spot_at room (k / 2)) → get_or room k 0 ≤ 2000000
number_low room k s =
    ⊎_elim
    (λ z. let e : 2 * (k / 2) ≡ k = omega arith in subst (λ (j : ℕ). get_or room j 0 ≤ 2000000) e s.width)
    (λ z. let e : 2 * (k / 2) + 1 ≡ k = omega arith in subst (λ (j : ℕ). get_or room j 0 ≤ 2000000) e s.height)
    (eq-zero-or-pos (k % 2))

module _ (st a b d : List ℕ) {room : List ℕ} (is : room ≡ room_of st a b d) (found : search_of st a b ≡ clear) where
  pub lines_low : SearchLent st a b d → (k : ℕ) → k < 4 * (length st / 2) → get_or room k 0 ≤ 2000000
  lines_low L k h = number_low room k (room_small st a b d L is (k / 2) (omega (arith, all_edges st a b d is found)))

  pub lines_front : take (4 * (length st / 2)) room ≡ lines_to st a b (length st / 2)
  lines_front =
      let e = all_edges st a b d is found in
      ap (take (4 * (length st / 2))) (is ∙ ap (λ (m : ℕ). laid (lines_to st a b m) d) e)
      ∙ take_at (lines_to st a b (length st / 2)) _ (4 * (length st / 2)) (length_lines st a b (length st / 2))

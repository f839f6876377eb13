-- The points of the lines that the search writes are within the bounds. Assumes nothing.
use Prim.Native.Nat.{ℕ, zero, suc, ◌+◌, ◌*◌, ◌/◌, ◌%◌, ◌≤◌, ◌<◌}
use native.Mathlib.Nat.{mod-lt, eq-zero-or-pos}
use native.Mathlib.Omega.{arith}
use mathlib.Core.Path.{◌≡◌, sym, subst}
use mathlib.Core.Logic.{⊎_elim}
use mathlib.Core.List.{List}
use lib.ListN.{length}
use Rattle.shifted.specs.Shifted.{spot_at, Small}
use Rattle.reasons.specs.Check.{corner}
use Rattle.reasons.proofs.First.{first_most}
use Rattle.reason_search.specs.Search.{anew, line_at, reached}
use Rattle.reason_search.specs.Room.{SearchLent, room_of}
use Rattle.reason_search.proofs.WayLines.{Fit}
use Rattle.reason_search.proofs.Firsts.{anew_fits, onward_fits}
use Rattle.reason_search.proofs.Found.{from_room, to_room}

module _ (st a b d : List ℕ) (L : SearchLent st a b d) where
  corner_small : (j : ℕ) → 0 < length st / 2 → Small (corner st j)
  corner_small j h = L.ring_small _ (mod-lt j h)

  edge_fits : (j : ℕ) → 0 < length st / 2 → Fit (anew a b (corner st j) (corner st (suc j)))
  edge_fits j h = anew_fits a b _ _ L.moved L.some (corner_small j h) (corner_small (suc j) h)

  at_fits : (j : ℕ) → 0 < length st / 2 → Fit (line_at st a b j)
  unfolding line_at
  at_fits zero h = edge_fits 0 h
  at_fits (suc j) h = onward_fits a b _ _ (line_at st a b j) (at_fits j h) (edge_fits (suc j) h)

  -- point i of the room, where it is the first of a line or the second
  pub room_small : {room : List ℕ} → room ≡ room_of st a b d → (i : ℕ) → i < 2 * reached st a b → Small (spot_at room i)
  unfolding reached
  room_small {room} is i h =
      let j = i / 2 in
      let l : j < reached st a b = omega arith in
      let m : reached st a b ≤ 0 + length st / 2 = first_most _ 0 _ in
      let f = at_fits j (omega arith) in
      let p = subst Small (sym (from_room st a b d is j l)) f.0 in
      let q = subst Small (sym (to_room st a b d is j l)) f.1 in
      ⊎_elim
      (λ z. let e : 2 * j ≡ i = omega arith in subst (λ k. Small (spot_at room k)) e p)
      (λ z. let e : 2 * j + 1 ≡ i = omega arith in subst (λ k. Small (spot_at room k)) e q)
      (eq-zero-or-pos (i % 2))

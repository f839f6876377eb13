-- A ring of whole coordinates lifted into a room: the front of the room has its points. Assumes nothing.
use Prim.Native.Nat.{ℕ, ◌/◌}
use mathlib.Core.Path.{◌≡◌, ap, sym, subst, ◌∙◌}
use mathlib.Core.Bool.{Bool, true}
use mathlib.Core.List.{List, map}
use lib.ListN.{length, take, length-map}
use lib.Seq.{take_at}
use lib.IntN.{ℤ}
use Rattle.ring.specs.Room.{laid}
use Rattle.shifted.specs.Shifted.{up_of, spot_in, spot_at, SmallRing}
use Rattle.whole_rules.specs.Simple.{whole_simple}
use Rattle.whole_rules.specs.Area.{whole_area2}
use Rattle.whole_rules.proofs.Same.{simple_same, area_same}
use Rattle.whole_engine.specs.Rows.{all_in_bounds}
use Rattle.whole_engine.proofs.Within.{lifted_at, small_lifted}

module _ (zs : List ℤ) (d : List ℕ) {room : List ℕ} (e : room ≡ laid (map up_of zs) d) where
  front : take (length zs) room ≡ map up_of zs
  front = ap (take (length zs)) e ∙ take_at (map up_of zs) _ (length zs) (length-map zs up_of)

  pub length_front : length (take (length zs) room) ≡ length zs
  length_front = ap length front ∙ length-map zs up_of

  pub small_front : all_in_bounds zs ≡ true → SmallRing (take (length zs) room)
  small_front h = subst SmallRing (sym front) (small_lifted zs h)

  pub simple_front : {v : Bool} → v ≡ whole_simple (spot_at (take (length zs) room)) (length (take (length zs) room) / 2)
      → v ≡ whole_simple (spot_in zs) (length zs / 2)
  simple_front h =
      h ∙ ap (λ l. whole_simple (spot_at l) (length l / 2)) front
      ∙ ap (λ k. whole_simple (spot_at (map up_of zs)) (k / 2)) (length-map zs up_of)
      ∙ simple_same (spot_at (map up_of zs)) (spot_in zs) (length zs / 2) (λ i l. lifted_at zs i l)

  pub area_front : {v : ℤ} → v ≡ whole_area2 (spot_at (take (length zs) room)) (length (take (length zs) room) / 2)
      → v ≡ whole_area2 (spot_in zs) (length zs / 2)
  area_front h =
      h ∙ ap (λ l. whole_area2 (spot_at l) (length l / 2)) front
      ∙ ap (λ k. whole_area2 (spot_at (map up_of zs)) (k / 2)) (length-map zs up_of)
      ∙ area_same (spot_at (map up_of zs)) (spot_in zs) (length zs / 2) (λ i l. lifted_at zs i l)

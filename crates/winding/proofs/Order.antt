-- The vertices in the order that the sign of the area asks for are the polygon made counter-clockwise. Assumes nothing.
use Prim.Native.Nat.{ℕ, zero, suc, ◌*◌, ◌%◌, ◌≤◌, ◌<◌}
use mathlib.Core.Path.{◌≡◌, refl, ◌∙◌}
use mathlib.Core.Bool.{Bool, true, false, cond}
use mathlib.Core.List.{List, append_assoc}
use native.Mathlib.Omega.{arith}
use native.Mathlib.Numerals.{add-one}
use lib.ListN.{length, take}
use lib.Seq.{take-suc, take_all, take_at}
use lib.Ieee.{Float, nan, lt}
use Rattle.scalar.specs.Float.{f0}
use Rattle.ring.specs.Ring.{count, point_at}
use Rattle.ring.specs.Room.{laid}
use Rattle.ring.specs.Points.{points}
use Rattle.ring.proofs.Points.{points_length}
use Rattle.winding.specs.Winding.{area_of, ordered_vertex, reversed, ccw_of}

-- the first k vertices, as they are
kept : (r : List Float) (k : ℕ) → 2 * k ≤ length r → points (ordered_vertex r false) k ≡ take (2 * k) r
unfolding points ordered_vertex point_at
kept r zero h = refl
kept r (suc k) h =
    let e : 2 * suc k ≡ suc (suc (2 * k)) = omega arith in
    let a : 2 * k < length r = omega arith in
    let b : suc (2 * k) < length r = omega arith in
    rw (e, take-suc r (suc (2 * k)) nan b, take-suc r (2 * k) nan a, append_assoc, kept r k (omega arith), add-one (2 * k))

pub chosen : (r : List Float) (reverse : Bool) → length r % 2 ≡ 0 → points (ordered_vertex r reverse) (count r) ≡ cond reverse (reversed r) r
unfolding reversed ordered_vertex
chosen r true even = refl
chosen r false even = kept r (count r) (omega arith) ∙ take_all (2 * count r) r (omega arith)

pub made_ccw : (r room : List Float) {area : Float} {out : List Float} → length r % 2 ≡ 0 → area ≡ area_of r
    → out ≡ laid (points (ordered_vertex r (lt area f0)) (count r)) room → out ≡ laid (ccw_of r) room
unfolding ccw_of
made_ccw r room even e h = rw (← e, ← chosen r (lt _ f0) even) h

-- as long as the polygon was, and so what stands at the room's front
pub ccw_length : (r : List Float) → length r % 2 ≡ 0 → length (ccw_of r) ≡ length r
unfolding ccw_of
ccw_length r even = rw (← chosen r (lt (area_of r) f0) even) (omega (arith, points_length (ordered_vertex r (lt (area_of r) f0)) (count r)))

pub ccw_front : (r room : List Float) → length r % 2 ≡ 0 → take (length r) (laid (ccw_of r) room) ≡ ccw_of r
ccw_front r room even = take_at (ccw_of r) _ (length r) (ccw_length r even)

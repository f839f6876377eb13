-- The loop of `mirror`, over plain lists and numbers: r is the ring, d the room as it came, room as it is. The invariant: the k numbers
-- at the room's front are what is left of the ring's end, mirrored, and the rest of the room is as it came. Assumes nothing.
use Prim.Native.Nat.{ℕ, suc, ◌+◌, ◌*◌, ◌-◌, ◌%◌, ◌≤◌, ◌<◌}
use mathlib.Core.Path.{◌≡◌, refl}
use mathlib.Core.List.{List, [], ◌∷◌, ◌++◌}
use native.Mathlib.Omega.{arith}
use native.Mathlib.Numerals.{add-one}
use lib.ListN.{length, drop, get_or, set, length-set, length-append}
use lib.Seq.{drop-cons, drop-length}
use lib.Ieee.{Float, nan, neg}
use Rattle.plane.specs.declared.Point.{Point}
use Rattle.ring.specs.Ring.{count, point_at}
use Rattle.ring.specs.Room.{laid, put_at}
use Rattle.ring.proofs.Emit.{emit2}
use Rattle.ring_copies.specs.Copies.{mirrored}

-- k elements are written, and `left` elements of the ring are left
pub record Turning (r d room : List Float) (left k : ℕ) : Type 0 where
  pub split : k + left ≡ length r
  pub even : left % 2 ≡ 0
  pub same : length room ≡ length d
  pub wrote : length (mirrored (drop left r)) ≡ k
  pub holds : room ≡ mirrored (drop left r) ++ drop k d

-- one vertex more
step : (r : List Float) (i : ℕ) → i + 1 < length r → mirrored (drop i r) ≡ mirrored (drop (i + 2) r) ++ (neg (get_or r i nan) ∷ get_or r (i + 1) nan ∷ [])
unfolding mirrored
step r i h =
    let e : i + 2 ≡ suc (suc i) = omega arith in
    let h1 : i < length r = omega arith in
    let h2 : suc i < length r = omega arith in
    rw (e, add-one i, drop-cons r i nan, drop-cons r (suc i) nan)

pub start : (r d : List Float) → length r % 2 ≡ 0 → Turning r d d (length r) 0
unfolding mirrored
start r d h = record { split = omega arith; even = h; same = refl; wrote = rw drop-length; holds = rw drop-length }

pub turn : {r d room : List Float} {left k : ℕ} → length r ≤ length d → 0 < left → Turning r d room left k
    → Turning r d (set (set room k (neg (get_or r (left - 2) nan))) (k + 1) (get_or r (left - 2 + 1) nan)) (left - 2) (k + 2)
turn {r} {d} {room} {left} {k} fits more t =
    let e : left - 2 + 2 ≡ left = omega arith in
    let s : mirrored (drop (left - 2) r) ≡ mirrored (drop left r) ++ (neg (get_or r (left - 2) nan) ∷ get_or r (left - 2 + 1) nan ∷ []) =
    rw e at (step r (left - 2) (omega arith)) in
    record {
      split = omega arith;
      even = omega arith;
      same = simp length-set t.same;
      wrote = rw s (simp length-append (omega arith));
      holds = rw (s, t.holds) (emit2 (mirrored (drop left r)) d k _ _ t.wrote (omega arith));
    }

-- the same by vertices: of those left the last is written as vertex i
pub vertex : {r d room new : List Float} {i : ℕ} {p : Point} → length r ≤ length d → i < count r → Turning r d room (2 * (count r - i)) (2 * i)
    → p ≡ point_at r (count r - 1 - i) → new ≡ put_at room i (record { x = neg p.x; y = p.y })
    → Turning r d new (2 * (count r - (i + 1))) (2 * (i + 1))
unfolding put_at point_at
vertex {r} {d} {room} {new} {i} fits h t e f =
    let a : 2 * (count r - i) - 2 ≡ 2 * (count r - 1 - i) = omega arith in
    let b : 2 * (count r - i) - 2 ≡ 2 * (count r - (i + 1)) = omega arith in
    let k : 2 * i + 2 ≡ 2 * (i + 1) = omega arith in
    let z = turn fits (omega arith) t in
    rw (f, e, ← b, ← k, ← a) z

pub done : {r d room : List Float} {left k : ℕ} → left ≤ 0 → Turning r d room left k → room ≡ laid (mirrored r) d
done {r} {d} {room} {left} {k} h t =
    let e : left ≡ 0 = omega arith in
    rw (← t.wrote, e) at t.holds

-- The loop of `lay`, over plain lists and numbers: d is the room as it came, room as it is. The invariant: the first i places from the start
-- on stand at the room's front, the rest of the room is as it came, and the place is the one that follows them. Assumes nothing.
use Prim.Native.Nat.{ℕ, ◌+◌, ◌≤◌, ◌<◌}
use mathlib.Core.Path.{◌≡◌, refl}
use mathlib.Core.List.{List, [], ◌++◌}
use native.Mathlib.Omega.{arith}
use native.Mathlib.Numerals.{add-one}
use lib.ListN.{length, drop, take, set, length-set, drop_of_length-le}
use lib.Seq.{length-take-le}
use Rattle.std.proofs.lemmas.List.{append-nil}
use Rattle.ring.specs.Room.{laid}
use Rattle.ring.proofs.Emit.{emit}
use Rattle.inspection.specs.Places.{next_place, place_after, places_from}
use Rattle.inspection.proofs.Places.{next_below, places_length}

pub record Laying (n start m : ℕ) (d room : List ℕ) (at i : ℕ) : Type 0 where
  pub within : i ≤ m
  pub below : at < n
  pub follows : at ≡ place_after n start i
  pub same : length room ≡ length d
  pub holds : room ≡ places_from n start i ++ drop i d

module _ (n start m : ℕ) (d : List ℕ) where
  pub begin : start < n → Laying n start m d d start 0
  unfolding place_after places_from
  begin h = record { within = omega arith; below = h; follows = refl; same = refl; holds = refl }

  pub turn : {room : List ℕ} {at i next : ℕ} → m ≤ length d → i < m → Laying n start m d room at i → next ≡ next_place n at
      → Laying n start m d (set room i at) next (i + 1)
  unfolding place_after places_from
  turn {room} {at} {i} fits more t e =
      record {
        within = omega arith;
        below = rw e (next_below n at t.below);
        follows = rw (e, add-one i, t.follows);
        same = simp length-set t.same;
        holds =
            rw (t.holds, emit (places_from n start i) d i at (places_length n start i) (omega arith), add-one i, t.follows);
      }

  pub done : {room : List ℕ} {at i : ℕ} → m ≤ i → Laying n start m d room at i
      → (at ≡ place_after n start m) × (room ≡ laid (places_from n start m) d)
  done {room} {at} {i} h t =
      let e : i ≡ m = omega arith in
      (rw e at t.follows, rw (places_length n start m, ← e) t.holds)

-- the front of a room, filled, and what lies behind it
pub filled : (n start m : ℕ) (d : List ℕ) {front : List ℕ} {at i : ℕ} → m ≤ length d → m ≤ i → Laying n start m (take m d) front at i
    → (at ≡ place_after n start m) × (front ++ drop m d ≡ laid (places_from n start m) d)
filled n start m d {front} {at} {i} fits h t =
    let p = done n start m (take m d) h t in
    let none : drop m (take m d) ≡ [] = drop_of_length-le (take m d) (omega (arith, length-take-le m d fits)) in
    (p.0, rw (p.1, places_length n start m, none, append-nil (places_from n start m)) refl)

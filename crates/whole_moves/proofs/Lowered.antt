-- Numbers brought down by a million, and the loop that writes them: list is the list, held the room as it came, room as it is. The
-- invariant: the first i numbers are written, and the rest of the room is as it came. Assumes nothing.
use Prim.Native.Nat.{ℕ, suc, ◌+◌, ◌-◌, ◌≤◌, ◌<◌}
use mathlib.Core.Path.{◌≡◌, refl, ap, ◌∙◌}
use mathlib.Core.Bool.{Bool, true, false, cond}
use mathlib.Core.List.{List, ◌++◌, map, map-append}
use native.Mathlib.Numerals.{add-one}
use native.Mathlib.Omega.{arith}
use lib.Dec.{ltb}
use lib.ListN.{length, get_or, take, drop, set, length-set, length-map}
use lib.Seq.{take-suc, length-take-le}
use lib.IntN.{ℤ, pos, negsuc, ◌-ℤ◌}
use borrow.Author.Tests.{ltb-true, ltb-false, lt-ltb, le-leb}
use mir.Syntax.{w32}
use mir.Val.{to_z, of_z, SFits}
use mir.ValLaws.{to_z_pos, to_z-of_z}
use Rattle.ring.specs.Room.{laid}
use Rattle.ring.proofs.Emit.{emit}
use Rattle.shifted.specs.Shifted.{in_bounds, up_of}
use Rattle.whole_moves.specs.Moved.{down_of}

-- ---- one number

module _ (u : ℕ) (h : u ≤ 2000000) where
  by_cases : (P : ℤ → Type 0) → (ltb u 1000000 ≡ true → P (negsuc (1000000 - suc u)))
      → (ltb u 1000000 ≡ false → P (pos (u - 1000000))) → P (down_of u)
  by_cases P low high = go (ltb u 1000000) refl
    where
      go : (t : Bool) → ltb u 1000000 ≡ t → P (cond t (negsuc (1000000 - suc u)) (pos (u - 1000000)))
      go true e = low e
      go false e = high e

  -- it fits an i32, as the machine has it
  pub down_fits : SFits w32 (down_of u)
  down_fits = by_cases (SFits w32) (λ e. record { sfits = omega arith }) (λ e. record { sfits = omega arith })

  pub down_is : to_z w32 u -ℤ pos 1000000 ≡ down_of u
  down_is = ap (λ (z : ℤ). z -ℤ pos 1000000) (to_z_pos w32 u (omega arith))

  pub down_stands : {z : ℤ} → z ≡ down_of u → to_z w32 (of_z w32 z) ≡ down_of u
  down_stands e = ap (λ (y : ℤ). to_z w32 (of_z w32 y)) e ∙ to_z-of_z w32 (down_of u) down_fits

  -- it is within the bounds, and moved up again it is as it was
  pub down_within : in_bounds (down_of u) ≡ true
  down_within =
      by_cases (λ (z : ℤ). in_bounds z ≡ true)
      (λ e. lt-ltb (1000000 - suc u) 1000000 (omega arith))
      (λ e. le-leb (u - 1000000) 1000000 (omega arith))

  pub up_down : up_of (down_of u) ≡ u
  unfolding up_of
  up_down =
      by_cases (λ (z : ℤ). up_of z ≡ u)
      (λ e. rw (lt-ltb (1000000 - suc u) 1000000 (omega arith)) (omega (arith, ltb-true u 1000000 e)))
      (λ e. rw (le-leb (u - 1000000) 1000000 (omega arith)) (omega (arith, ltb-false u 1000000 e)))

-- ---- the loop

module _ (list : List ℕ) (n : ℕ) (held : List ℤ) where
  pub record Lowered (room : List ℤ) (i : ℕ) : Type 0 where
    pub most : i ≤ n
    pub same : length room ≡ length held
    pub holds : room ≡ map down_of (take i list) ++ drop i held

  pub start : Lowered held 0
  start = record { most = omega arith; same = refl; holds = refl }

  module _ (there : n ≤ length list) (fits : n ≤ length held) where
    pub turn : {room : List ℤ} {i : ℕ} {z : ℤ} → i < n → z ≡ down_of (get_or list i 0) → Lowered room i
        → Lowered (set room i z) (i + 1)
    turn {room} {i} {z} more is t =
        let front = map down_of (take i list) in
        let long : length front ≡ i = length-map (take i list) down_of ∙ length-take-le i list (omega arith) in
        let there-is : i < length list = omega arith in
        record {
          most = omega arith;
          same = simp length-set t.same;
          holds =
              rw (t.holds, emit front held i z long (omega arith), add-one i, take-suc list i 0 there-is, map-append down_of, is);
        }

    pub done : {room : List ℤ} {i : ℕ} → n ≤ i → Lowered room i → room ≡ laid (map down_of (take n list)) held
    done {room} {i} h t =
        let e : i ≡ n = omega (arith, t.most) in
        let long : length (map down_of (take n list)) ≡ n = length-map (take n list) down_of ∙ length-take-le n list there in
        rw (long, ← e) t.holds

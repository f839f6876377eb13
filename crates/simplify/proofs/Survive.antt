-- The loops over the points, over plain lists and numbers: what stays of one point more, and the room as it fills. Assumes nothing.
use Prim.Native.Nat.{ℕ, zero, suc, ◌+◌, ◌*◌, ◌-◌, ◌%◌, ◌≤◌, ◌<◌}
use mathlib.Core.Path.{◌≡◌, refl, ap, ◌∙◌}
use mathlib.Core.Bool.{Bool, true, false, cond}
use mathlib.Core.List.{List, [], ◌∷◌, ◌++◌, append-nil}
use native.Mathlib.Omega.{arith}
use native.Mathlib.Nat.{add-zero, add-suc}
use native.Mathlib.Numerals.{add-one}
use lib.ListN.{length, drop, get_or, set, length-append, length-set}
use lib.Ieee.{Float, nan}
use Rattle.ring.specs.Ring.{count}
use Rattle.ring.specs.Room.{laid}
use Rattle.ring.proofs.Emit.{emit2}
use Rattle.simplify.specs.Simplify.{stays_of, piece, survivors}

module _ (r : List Float) (tol : Float) where
  module _ (i : ℕ) {b : Bool} (e : b ≡ stays_of r tol i) where
    pub stay : b ≡ true → survivors r tol (i + 1) ≡ survivors r tol i ++ (get_or r (2 * i) nan ∷ get_or r (2 * i + 1) nan ∷ [])
    unfolding survivors piece
    stay t = rw (add-one i, ← e, t)

    pub goes : b ≡ false → survivors r tol (i + 1) ≡ survivors r tol i
    unfolding survivors piece
    goes t = rw (add-one i, ← e, t) (append-nil _)

    pub two_more : b ≡ true → length (survivors r tol (i + 1)) ≡ length (survivors r tol i) + 2
    two_more t = rw (stay t) (simp length-append)

  -- what stays does not become less
  grow : (i k : ℕ) → length (survivors r tol i) ≤ length (survivors r tol (i + k))
  unfolding survivors
  grow i zero = rw add-zero (omega arith)
  grow i (suc k) = rw (add-suc, length-append) (omega (arith, grow i k))

  pub most : (i n : ℕ) → i ≤ n → length (survivors r tol i) ≤ length (survivors r tol n)
  most i n h = let e : n ≡ i + (n - i) = omega arith in rw e (grow i (n - i))

  -- no point is added
  piece_most : (k : ℕ) → length (piece r tol k) ≤ 2
  unfolding piece
  piece_most k = go (stays_of r tol k)
    where
      go : (b : Bool) → length (cond b (get_or r (2 * k) nan ∷ get_or r (2 * k + 1) nan ∷ []) []) ≤ 2
      go true = omega arith
      go false = omega arith

  pub bounded : (k : ℕ) → length (survivors r tol k) ≤ 2 * k
  unfolding survivors
  bounded zero = omega arith
  bounded (suc k) = rw length-append (omega (arith, bounded k, piece_most k))

  -- points are kept whole
  piece_even : (k : ℕ) → length (piece r tol k) % 2 ≡ 0
  unfolding piece
  piece_even k = go (stays_of r tol k)
    where
      go : (b : Bool) → length (cond b (get_or r (2 * k) nan ∷ get_or r (2 * k + 1) nan ∷ []) []) % 2 ≡ 0
      go true = refl
      go false = refl

  pub even : (k : ℕ) → length (survivors r tol k) % 2 ≡ 0
  unfolding survivors
  even zero = refl
  even (suc k) = rw length-append (omega (arith, even k, piece_even k))

  -- after i points k numbers are written, and the rest of the room is as it came
  pub record Gathering (d room : List Float) (k i : ℕ) : Type 0 where
    pub within : i ≤ count r
    pub wrote : length (survivors r tol i) ≡ k
    pub same : length room ≡ length d
    pub holds : room ≡ survivors r tol i ++ drop k d

  pub start : (d : List Float) → Gathering d d 0 0
  unfolding survivors
  start d = record { within = omega arith; wrote = refl; same = refl; holds = refl }

  module _ {d room : List Float} {k i : ℕ} (g : Gathering d room k i) (h : i < count r) {b : Bool} (e : b ≡ stays_of r tol i) where
    -- there is room for one point more
    pub room_left : b ≡ true → length (survivors r tol (count r)) ≤ length d → k + 2 ≤ length room
    room_left t fits = omega (arith, g.wrote, g.same, two_more i e t, most (i + 1) (count r) (omega arith))

    pub put : b ≡ true → length (survivors r tol (count r)) ≤ length d
        → Gathering d (set (set room k (get_or r (2 * i) nan)) (k + 1) (get_or r (2 * i + 1) nan)) (k + 2) (i + 1)
    put t fits =
        record {
          within = omega arith;
          wrote = two_more i e t ∙ ap (λ (x : ℕ). x + 2) g.wrote;
          same = simp length-set g.same;
          holds =
              rw (stay i e t, g.holds)
              (emit2 (survivors r tol i) d k _ _ g.wrote (omega (arith, g.same, room_left t fits)));
        }

    pub skip : b ≡ false → Gathering d room k (i + 1)
    skip t = record { within = omega arith; wrote = rw (goes i e t) g.wrote; same = g.same; holds = rw (goes i e t) g.holds }

  pub done : {d room : List Float} {k i : ℕ} → Gathering d room k i → count r ≤ i → room ≡ laid (survivors r tol (count r)) d
  done {d} {room} {k} {i} g h = let e : count r ≡ i = omega (arith, g.within) in rw (e, g.wrote) g.holds

-- A row of points as a list: its length, its vertices, and a loop that writes it to the front of a room. Assumes nothing.
use Prim.Native.Nat.{ℕ, zero, suc, ◌+◌, ◌*◌, ◌≤◌, ◌<◌}
use mathlib.Core.Path.{◌≡◌, refl, ◌∙◌}
use mathlib.Core.List.{List, ◌++◌}
use native.Mathlib.Omega.{arith}
use native.Mathlib.Numerals.{add-one}
use native.Mathlib.Decide.{dec_lt}
use lib.ListN.{length, drop, length-append, get_or-append}
use lib.Seq.{get_or-append_seam, get_or-append-add}
use lib.Ieee.{Float}
use Rattle.plane.specs.declared.Point.{Point}
use Rattle.ring.specs.Ring.{count, point_at}
use Rattle.ring.specs.Room.{laid, put_at}
use Rattle.ring.proofs.Emit.{emit2}
use Rattle.ring.specs.Points.{points}

pub points_length : (f : ℕ → Point) (n : ℕ) → length (points f n) ≡ 2 * n
unfolding points
points_length f zero = refl
points_length f (suc n) = simp length-append (omega (arith, points_length f n))

pub points_count : (f : ℕ → Point) (n : ℕ) → count (points f n) ≡ n
points_count f n = omega (arith, points_length f n)

module _ (f : ℕ → Point) (n i : ℕ) where
  -- an earlier vertex is that of the row without its last, and the last is the last point
  earlier : i < n → point_at (points f (suc n)) i ≡ point_at (points f n) i
  unfolding points point_at
  earlier h =
      let l = points_length f n in
      let a : 2 * i < length (points f n) = omega arith in
      let b : 2 * i + 1 < length (points f n) = omega arith in
      rw (get_or-append _ _ _ _ a, get_or-append _ _ _ _ b)

  last : i ≡ n → point_at (points f (suc n)) i ≡ f i
  unfolding points point_at
  last e = rw (e, ← points_length f n) (rw (get_or-append_seam, get_or-append-add))

-- the vertices are the points
pub points_at : (f : ℕ → Point) (n i : ℕ) → i < n → point_at (points f n) i ≡ f i
points_at f zero i h = absurd (omega arith)
points_at f (suc n) i h = go (λ k. points_at f n i k) (dec_lt i n)
  where
    go : (i < n → point_at (points f n) i ≡ f i) → Dec (i < n) → point_at (points f (suc n)) i ≡ f i
    go more (yes k) = earlier f n i k ∙ more k
    go more (no k) = last f n i (omega arith)

module _ (f : ℕ → Point) (d : List Float) where
  -- one point more
  pub put_next : (i : ℕ) {room next : List Float} {p : Point} → 2 * i + 1 < length d → room ≡ points f i ++ drop (2 * i) d → p ≡ f i → next ≡ put_at room i p
      → next ≡ points f (i + 1) ++ drop (2 * (i + 1)) d
  unfolding points put_at
  put_next i h e p n =
      let q : 2 * (i + 1) ≡ 2 * i + 2 = omega arith in
      rw (n, p, e, q, add-one i) (emit2 (points f i) d (2 * i) (f i).x (f i).y (points_length f i) h)

  pub put_all : (i n : ℕ) {room : List Float} → i ≤ n → n ≤ i → room ≡ points f i ++ drop (2 * i) d → room ≡ laid (points f n) d
  put_all i n h k e = let q : i ≡ n = omega arith in rw (points_length f n, ← q) e

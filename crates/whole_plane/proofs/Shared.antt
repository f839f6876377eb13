-- A point that two segments with natural coordinates have in common, by four weights: it divides a b as s to s', and c d as t
-- to t'. Assumes nothing.
use Prim.Native.Nat.{ℕ, ◌+◌, ◌-◌, ◌*◌, ◌≤◌, ◌<◌}
use native.Mathlib.Omega.{arith}
use mathlib.Core.Path.{◌≡◌, sym, ap}
use lib.IntN.{pos}
use Rattle.shifted.specs.declared.Spot.{Spot}
use Rattle.whole_plane.specs.Plane.{Common, point_of}

pub record Shared (a b c d : Spot) : Type 0 where
  pub s : ℕ
  pub s' : ℕ
  pub t : ℕ
  pub t' : ℕ
  pub whole : s + s' ≡ t + t'
  pub some : 0 < s + s'
  pub across : s' * a.x + s * b.x ≡ t' * c.x + t * d.x
  pub upward : s' * a.y + s * b.y ≡ t' * c.y + t * d.y

-- ---- one denominator

weighed : (n s s' t t' a b c d : ℕ) → n ≡ s + s' → n ≡ t + t' → s' * a + s * b ≡ t' * c + t * d
    → (n - s) * a + s * b ≡ (n - t) * c + t * d
weighed n s s' t t' a b c d h k e =
    let u : n - s ≡ s' = omega arith in
    let v : n - t ≡ t' = omega arith in
    rw (u, v) e

pub shared_common : {a b c d : Spot} → Shared a b c d → Common (point_of a) (point_of b) (point_of c) (point_of d)
shared_common {a} {b} {c} {d} h =
    let n = h.s + h.s' in
    let k : n ≡ h.t + h.t' = h.whole in
    record {
      n = n;
      s = h.s;
      t = h.t;
      above = omega (arith, h.some);
      s_most = omega arith;
      t_most = omega arith;
      across = ap pos (weighed n h.s h.s' h.t h.t' a.x b.x c.x d.x (omega arith) k h.across);
      upward = ap pos (weighed n h.s h.s' h.t h.t' a.y b.y c.y d.y (omega arith) k h.upward);
    }

pub pos_only : (m n : ℕ) → pos m ≡ pos n → m ≡ n
pos_only m n h = cc

pub common_shared : {a b c d : Spot} → Common (point_of a) (point_of b) (point_of c) (point_of d) → Shared a b c d
common_shared h =
    let u : h.s ≤ h.n = h.s_most in
    let v : h.t ≤ h.n = h.t_most in
    let w : 0 < h.n = h.above in
    record {
      s = h.s;
      s' = h.n - h.s;
      t = h.t;
      t' = h.n - h.t;
      whole = omega arith;
      some = omega arith;
      across = pos_only _ _ h.across;
      upward = pos_only _ _ h.upward;
    }

-- ---- the other end first, the other segment first, the other axis first

abbrev pub turned : {a b c d : Spot} → Shared a b c d → Shared b a c d
turned h =
    record {
      s = h.s';
      s' = h.s;
      t = h.t;
      t' = h.t';
      whole = omega (arith, h.whole);
      some = omega (arith, h.some);
      across = omega (arith, h.across);
      upward = omega (arith, h.upward);
    }

abbrev pub exchanged : {a b c d : Spot} → Shared a b c d → Shared c d a b
exchanged h =
    record {
      s = h.t;
      s' = h.t';
      t = h.s;
      t' = h.s';
      whole = sym h.whole;
      some = omega (arith, h.some, h.whole);
      across = sym h.across;
      upward = sym h.upward;
    }

-- the plane with its axes exchanged, in which left is right
abbrev pub flip : Spot → Spot
flip a = record { x = a.y; y = a.x }

pub flipped : {a b c d : Spot} → Shared a b c d → Shared (flip a) (flip b) (flip c) (flip d)
flipped h =
    record {
      s = h.s;
      s' = h.s';
      t = h.t;
      t' = h.t';
      whole = h.whole;
      some = h.some;
      across = h.upward;
      upward = h.across;
    }

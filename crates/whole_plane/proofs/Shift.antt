-- Moving every coordinate up by a million changes nothing of what segments have in common. An integer is a difference of two
-- natural numbers, and so are its parts on the way; the million cancels out. Assumes nothing.
use Prim.Native.Nat.{ℕ, ◌+◌, ◌-◌, ◌*◌, ◌≤◌}
use native.Mathlib.Omega.{arith}
use mathlib.Core.Path.{◌≡◌, ap, subst}
use mathlib.Core.Logic.{◌↔◌}
use mathlib.Core.Bool.{true}
use lib.IntN.{ℤ, pos, negsuc, ◌*ℤ◌}
use borrow.Author.Tests.{ltb-true}
use Rattle.shifted.specs.Shifted.{in_bounds, up_of, spot_of}
use Rattle.shifted.specs.declared.Spot.{Spot}
use Rattle.shifted.proofs.Laws.{within}
use Rattle.whole_floats.specs.Whole.{Difference}
use Rattle.whole_floats.proofs.Differences.{scaled, added, level, equal}
use Rattle.whole_rules.specs.Spots.{Stands}
use Rattle.whole_plane.specs.Plane.{WholePoint, whole_point, part_way, Common, point_of}
use Rattle.whole_plane.proofs.Shared.{pos_only}

-- ---- one axis: s n-ths of the way from u to v is t n-ths of the way from w to z, and the same of p, q, r, o, which are m higher

abbrev AtOne : ℕ → ℕ → ℕ → ℤ → ℤ → ℤ → ℤ → Type 0
AtOne n s t u v w z = part_way n s u v ≡ part_way n t w z

part : (n k : ℕ) (u v : ℤ) (p q m : ℕ) → k ≤ n → Difference u p m → Difference v q m
    → Difference (part_way n k u v) ((n - k) * p + k * q) (n * m)
part n k u v p q m l h g = subst (λ (i : ℕ). Difference (part_way n k u v) ((n - k) * p + k * q) i) (go (n - k) (omega arith)) sum
  where
    sum : Difference (part_way n k u v) ((n - k) * p + k * q) ((n - k) * m + k * m)
    sum = added (pos (n - k) *ℤ u) (pos k *ℤ v) _ _ _ _ (scaled (n - k) u p m h) (scaled k v q m g)

    go : (j : ℕ) → n ≡ j + k → j * m + k * m ≡ n * m
    go j e = let f : n * m ≡ (j + k) * m = ap (λ (i : ℕ). i * m) e in omega arith

module _ (u v w z : ℤ) (p q r o m : ℕ) (hu : Difference u p m) (hv : Difference v q m) (hw : Difference w r m) (hz : Difference z o m) where
  lowered : (n s t : ℕ) → s ≤ n → t ≤ n → AtOne n s t (pos p) (pos q) (pos r) (pos o) → AtOne n s t u v w z
  lowered n s t i j e =
      let f : (n - s) * p + s * q ≡ (n - t) * r + t * o = pos_only _ _ e in
      equal (part_way n s u v) (part_way n t w z) ((n - t) * r + t * o) (n * m)
      (subst (λ (k : ℕ). Difference (part_way n s u v) k (n * m)) f (part n s u v p q m i hu hv)) (part n t w z r o m j hw hz)

  raised : (n s t : ℕ) → s ≤ n → t ≤ n → AtOne n s t u v w z → AtOne n s t (pos p) (pos q) (pos r) (pos o)
  raised n s t i j e =
      let a = subst (λ (l : ℤ). Difference l ((n - s) * p + s * q) (n * m)) e (part n s u v p q m i hu hv) in
      ap pos (level (part_way n t w z) ((n - s) * p + s * q) ((n - t) * r + t * o) (n * m) a (part n t w z r o m j hw hz))

-- ---- points

carried : {a b c d a' b' c' d' : WholePoint}
    → ((n s t : ℕ) → s ≤ n → t ≤ n → AtOne n s t a.x b.x c.x d.x → AtOne n s t a'.x b'.x c'.x d'.x)
    → ((n s t : ℕ) → s ≤ n → t ≤ n → AtOne n s t a.y b.y c.y d.y → AtOne n s t a'.y b'.y c'.y d'.y)
    → Common a b c d → Common a' b' c' d'
carried f g h =
    record {
      n = h.n;
      s = h.s;
      t = h.t;
      above = h.above;
      s_most = h.s_most;
      t_most = h.t_most;
      across = f h.n h.s h.t h.s_most h.t_most h.across;
      upward = g h.n h.s h.t h.s_most h.t_most h.upward;
    }

abbrev pub StandsAt : WholePoint → Spot → Type 0
StandsAt a A = Stands a.x a.y A

-- segments have a point in common exactly if they have one where every coordinate is moved up
pub shift_exactly : (a b c d : WholePoint) (A B C D : Spot) → StandsAt a A → StandsAt b B → StandsAt c C → StandsAt d D
    → Common (point_of A) (point_of B) (point_of C) (point_of D) ↔ Common a b c d
shift_exactly a b c d A B C D P Q R S = (
  carried
      (lowered a.x b.x c.x d.x A.x B.x C.x D.x 1000000 P.across Q.across R.across S.across)
      (lowered a.y b.y c.y d.y A.y B.y C.y D.y 1000000 P.upward Q.upward R.upward S.upward),
  carried
      (raised a.x b.x c.x d.x A.x B.x C.x D.x 1000000 P.across Q.across R.across S.across)
      (raised a.y b.y c.y d.y A.y B.y C.y D.y 1000000 P.upward Q.upward R.upward S.upward),
)

-- ---- coordinates within the bounds

moved_up : (z : ℤ) → in_bounds z ≡ true → Difference z (up_of z) 1000000
unfolding up_of
moved_up (pos n) h = rw h (omega arith)
moved_up (negsuc n) h = let l = ltb-true n 1000000 h in rw h (omega arith)

pub stands_at : (x y : ℤ) → in_bounds x ≡ true → in_bounds y ≡ true → StandsAt (whole_point x y) (spot_of x y)
stands_at x y h k = record { across = moved_up x h; upward = moved_up y k; width = within x h; height = within y k }

-- Points of the plane with whole coordinates, and when two closed segments have a point in common. Nothing here speaks of a
-- rule, a turn or a box. Definitions only.
use Rattle.std.specs.Prelude.{ℕ, ◌-◌, ◌≤◌, ◌<◌, ◌≡◌, ℤ, pos, ◌+ℤ◌, ◌*ℤ◌}
use Rattle.shifted.specs.declared.Spot.{Spot}

pub record WholePoint : Type 0 where
  pub x : ℤ
  pub y : ℤ

abbrev pub whole_point : ℤ → ℤ → WholePoint
whole_point u v = record { x = u; y = v }

-- n times the coordinate that lies k n-ths of the way from u to v
abbrev pub part_way : ℕ → ℕ → ℤ → ℤ → ℤ
part_way n k u v = pos (n - k) *ℤ u +ℤ pos k *ℤ v

-- the closed segments a b and c d have a point in common: s n-ths of the way from a to b and t n-ths of the way from c to d,
-- neither beyond the end, are one point. Either segment may be a point
pub record Common (a b c d : WholePoint) : Type 0 where
  pub n : ℕ
  pub s : ℕ
  pub t : ℕ
  pub above : 0 < n
  pub s_most : s ≤ n
  pub t_most : t ≤ n
  pub across : part_way n s a.x b.x ≡ part_way n t c.x d.x
  pub upward : part_way n s a.y b.y ≡ part_way n t c.y d.y

-- a point as the rules have it, whose coordinates are natural numbers
abbrev pub point_of : Spot → WholePoint
point_of a = whole_point (pos a.x) (pos a.y)

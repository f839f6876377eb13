-- The order of points, by one coordinate and then by x, where no coordinate is a NaN. Assumes nothing.
use Prim.Native.Nat.{ℕ, ◌+◌, ◌*◌, ◌<◌}
use mathlib.Core.Path.{◌≡◌, refl}
use mathlib.Core.Bool.{Bool, true, false, not, ◌&&◌, ◌||◌}
use mathlib.Core.List.{List}
use native.Mathlib.Omega.{arith}
use lib.Ieee.{Float, nan, inf, fin, lt, is_nan}
use Rattle.plane.specs.declared.Point.{Point}
use Rattle.ring.specs.Ring.{count, point_at}
use Rattle.refusals.specs.Bounds.{coordinate, coordinates}
use Rattle.refusals.proofs.Every.{every_at}
use Rattle.laws.proofs.Order.{lt_weave, lt_irrefl, lt_asym}
use Rattle.start_position.specs.Start.{lower_of, upper_of}

-- both coordinates are numbers
pub record Real (p : Point) : Type 0 where
  pub first : is_nan p.x ≡ false
  pub second : is_nan p.y ≡ false

-- a coordinate in bounds is a number
number : (x : Float) → coordinate x ≡ true → is_nan x ≡ false
unfolding coordinate is_nan
number nan h = cc
number (inf s) h = refl
number (fin s m e) h = refl

pub reals : (r : List Float) → coordinates r ≡ true → (j : ℕ) → j < count r → Real (point_at r j)
unfolding point_at
reals r h j l =
    record {
      first = number _ (every_at coordinate r (2 * j) h (omega arith));
      second = number _ (every_at coordinate r (2 * j + 1) h (omega arith));
    }

-- the other way round: y < z and not y < x give x < z
lt_dual : (x y z : Float) → is_nan x ≡ false → lt y z ≡ true → lt y x ≡ false → lt x z ≡ true
lt_dual x y z n h k = go (lt x z) refl
  where
    go : (b : Bool) → lt x z ≡ b → lt x z ≡ true
    go true e = e
    go false e = cc (lt_weave y z x n h e)

-- the tests of an order of pairs, as truth values

asym_bits : (p q u v : Bool) → (p ≡ true → q ≡ false) → (u ≡ true → v ≡ false) → p || not q && u ≡ true → q || not p && v ≡ false
asym_bits true true u v f g h = f refl
asym_bits true false u v f g h = refl
asym_bits false true u v f g h = cc
asym_bits false false u v f g h = g h

weave_bits : (s q p p' q' s' u v w : Bool) → (p ≡ true → q ≡ false → s ≡ true) → (q' ≡ true → p' ≡ false → s ≡ true) → (s' ≡ true → p' ≡ false → q ≡ true)
    → (u ≡ true → v ≡ false → w ≡ true) → p || not p' && u ≡ true → q || not q' && v ≡ false → s || not s' && w ≡ true
weave_bits true q p p' q' s' u v w f g m l h k = refl
weave_bits false true p p' q' s' u v w f g m l h k = cc
weave_bits false false true p' q' s' u v w f g m l h k = cc (f refl refl)
weave_bits false false false true q' s' u v w f g m l h k = cc
weave_bits false false false false true s' u v w f g m l h k = cc (g refl refl)
weave_bits false false false false false true u v w f g m l h k = cc (m refl refl)
weave_bits false false false false false false u v w f g m l h k = l h k

-- lower, or as low and further left

pub lower_irrefl : (a : Point) → lower_of a a ≡ false
unfolding lower_of
lower_irrefl a = rw (lt_irrefl a.y, lt_irrefl a.x)

pub lower_asym : (a b : Point) → lower_of a b ≡ true → lower_of b a ≡ false
unfolding lower_of
lower_asym a b h = asym_bits _ _ _ _ (lt_asym a.y b.y) (lt_asym a.x b.x) h

pub lower_weave : (a b c : Point) → Real a → Real b → Real c → lower_of a b ≡ true → lower_of c b ≡ false → lower_of a c ≡ true
unfolding lower_of
lower_weave a b c ra rb rc h k =
    weave_bits (lt a.y c.y) (lt c.y b.y) (lt a.y b.y) (lt b.y a.y) (lt b.y c.y) (lt c.y a.y) _ _ _
    (lt_weave a.y b.y c.y rc.second)
    (lt_dual a.y b.y c.y ra.second)
    (lt_weave c.y a.y b.y rb.second)
    (lt_weave a.x b.x c.x rc.first)
    h
    k

-- higher, or as high and further left

pub upper_irrefl : (a : Point) → upper_of a a ≡ false
unfolding upper_of
upper_irrefl a = rw (lt_irrefl a.y, lt_irrefl a.x)

pub upper_asym : (a b : Point) → upper_of a b ≡ true → upper_of b a ≡ false
unfolding upper_of
upper_asym a b h = asym_bits _ _ _ _ (lt_asym b.y a.y) (lt_asym a.x b.x) h

pub upper_weave : (a b c : Point) → Real a → Real b → Real c → upper_of a b ≡ true → upper_of c b ≡ false → upper_of a c ≡ true
unfolding upper_of
upper_weave a b c ra rb rc h k =
    weave_bits (lt c.y a.y) (lt b.y c.y) (lt b.y a.y) (lt a.y b.y) (lt c.y b.y) (lt a.y c.y) _ _ _
    (λ p q. lt_dual c.y b.y a.y rc.second p q)
    (λ p q. lt_weave c.y b.y a.y ra.second p q)
    (λ p q. lt_dual b.y a.y c.y rb.second p q)
    (lt_weave a.x b.x c.x rc.first)
    h
    k

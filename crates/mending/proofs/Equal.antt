-- Equality as numbers goes both ways and on, of floats and of points, whatever they are. Assumes nothing.
use mathlib.Core.Path.{◌≡◌, refl}
use mathlib.Core.Bool.{Bool, true, false, ◌||◌}
use lib.Dec.{T}
use lib.Ieee.{Float, lt, le, eq}
use Rattle.laws.proofs.Both.{both}
use Rattle.laws.proofs.Order.{clash, le_trans, le_of_eq, eq_back}
use Rattle.plane.specs.Vector.{same_of}
use Rattle.plane.specs.declared.Point.{Point}

-- neither is above the other
eq_of_le : (x y : Float) → T (le x y) → T (le y x) → eq x y ≡ true
unfolding le
eq_of_le x y a b = go (lt x y) refl (eq x y) a
  where
    go : (p : Bool) → lt x y ≡ p → (q : Bool) → T (p || q) → q ≡ true
    go true e q t = absurd (clash x y e b)
    go false e true t = refl
    go false e false t = absurd t

eq_trans : (x y z : Float) → eq x y ≡ true → eq y z ≡ true → eq x z ≡ true
eq_trans x y z h k =
    eq_of_le x z (le_trans x y z (le_of_eq x y h) (le_of_eq y z k))
    (le_trans z y x (le_of_eq z y (eq_back y z k)) (le_of_eq y x (eq_back x y h)))

module _ (a b : Point) where
  pub same_back : same_of a b ≡ true → same_of b a ≡ true
  unfolding same_of
  same_back h =
      let p = both (eq a.x b.x) (eq a.y b.y) h in
      rw (eq_back a.x b.x p.0, eq_back a.y b.y p.1)

  pub same_trans : (c : Point) → same_of a b ≡ true → same_of b c ≡ true → same_of a c ≡ true
  unfolding same_of
  same_trans c h k =
      let p = both (eq a.x b.x) (eq a.y b.y) h in
      let q = both (eq b.x c.x) (eq b.y c.y) k in
      rw (eq_trans a.x b.x c.x p.0 q.0, eq_trans a.y b.y c.y p.1 q.1)

-- a test of which nothing follows does not hold
pub refuted : (b : Bool) → (b ≡ true → ⊥) → b ≡ false
refuted true h = absurd (h refl)
refuted false h = refl

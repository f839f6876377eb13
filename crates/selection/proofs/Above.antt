-- The order of scores: what is above -infinity is no NaN, and a greater score comes first. Assumes nothing.
use mathlib.Core.Path.{◌≡◌, refl}
use mathlib.Core.Bool.{Bool, true, false}
use lib.Ieee.{Float, nan, inf, fin, lt, is_nan}
use Rattle.laws.proofs.Order.{lt_weave}

-- what is not above -infinity is above nothing
pub least : (x y : Float) → lt (inf true) x ≡ false → lt y x ≡ false
unfolding lt
least nan nan h = refl
least nan (inf s) h = refl
least nan (fin s m e) h = refl
least (inf false) y h = cc
least (inf true) nan h = refl
least (inf true) (inf true) h = refl
least (inf true) (inf false) h = refl
least (inf true) (fin s m e) h = refl
least (fin s m e) y h = cc

-- and below what is, unless it is a NaN
pub below : (x y : Float) → is_nan x ≡ false → lt (inf true) x ≡ false → lt (inf true) y ≡ true → lt x y ≡ true
unfolding lt is_nan
below nan y n h t = cc
below (inf true) y n h t = t
below (inf false) y n h t = cc
below (fin s m e) y n h t = cc

real : (x : Float) → lt (inf true) x ≡ true → is_nan x ≡ false
unfolding lt is_nan
real nan h = cc
real (inf s) h = refl
real (fin s m e) h = refl

-- x is greater than y and z is not, so x is greater than z
pub weave : (x y z : Float) → lt (inf true) z ≡ true → lt y x ≡ true → lt y z ≡ false → lt z x ≡ true
weave x y z t h k = go (lt z x) refl
  where
    go : (b : Bool) → lt z x ≡ b → lt z x ≡ true
    go true e = e
    go false e = cc (lt_weave y x z (real z t) h e)

-- What the scan keeps is the first of the nearest, in the order of the pairs: orbiting vertices by stationary edges. Assumes nothing.
use Prim.Native.Nat.{◌*◌}
use mathlib.Core.Path.{◌≡◌, refl}
use mathlib.Core.Bool.{true, false}
use mathlib.Core.List.{List}
use lib.Ieee.{Float, nan, inf, fin, lt, is_nan}
use Rattle.ring.specs.Ring.{count}
use Rattle.laws.specs.FirstBest.{flat_rows, First}
use Rattle.laws.proofs.Order.{lt_weave, lt_irrefl, lt_asym}
use Rattle.laws.proofs.FirstBest.{nest_flat, over_first}
use Rattle.recovery.specs.Recovery.{closest_at, nearer_point, afar, closest_of}

-- a distance that counts is no NaN
real : (d e : Float) → lt d e ≡ true → is_nan d ≡ false
unfolding lt is_nan
real nan e h = cc
real (inf s) e h = refl
real (fin s m k) e h = refl

-- one that does not count is less than none
far : (d e : Float) → lt d (inf false) ≡ false → lt d e ≡ false
unfolding lt
far nan e h = refl
far (inf true) e h = cc
far (inf false) nan h = refl
far (inf false) (inf t) h = refl
far (inf false) (fin t n k) h = refl
far (fin s m j) e h = cc

pub closest_first : (s o : List Float) → First nearer_point (flat_rows (closest_at s o) (count s)) afar (count o * count s) (closest_of s o)
unfolding closest_of
closest_first s o =
    let f = flat_rows (closest_at s o) (count s) in
    rw (nest_flat nearer_point (closest_at s o) (count s) afar (count o))
    (over_first nearer_point f afar
    (λ x y j t h k. lt_weave x.distance y.distance (f j).distance (real (f j).distance (inf false) t) h k)
    (λ x. lt_irrefl x.distance)
    (λ x y h. lt_asym x.distance y.distance h)
    (λ x y h t. far x.distance y.distance h)
    (count o * count s))

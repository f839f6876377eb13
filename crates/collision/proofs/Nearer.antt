-- The order of what a scan finds: a hit before nothing, a smaller distance before a larger. Assumes nothing.
use mathlib.Core.Path.{◌≡◌, refl}
use mathlib.Core.Bool.{true, false}
use lib.Ieee.{is_nan}
use Rattle.std.specs.Prelude.{Option, Some, None}
use Rattle.laws.proofs.Order.{lt_weave, lt_irrefl, lt_asym}
use Rattle.collision.specs.Hit.{nearer}
use Rattle.collision.specs.declared.Hit.{Hit}

pub irrefl : (x : Option Hit) → nearer x x ≡ false
unfolding nearer
irrefl None = refl
irrefl (Some h) = lt_irrefl h.distance

pub asym : (x y : Option Hit) → nearer x y ≡ true → nearer y x ≡ false
unfolding nearer
asym None y h = cc
asym (Some x) None h = refl
asym (Some x) (Some y) h = lt_asym x.distance y.distance h

pub behind : (x y : Option Hit) → nearer x None ≡ false → nearer y None ≡ true → nearer x y ≡ false
unfolding nearer
behind None y h k = refl
behind (Some x) y h l = cc

-- x is nearer than y and z is not, so x is nearer than z, if the distance of z is no NaN
pub weave : (x y z : Option Hit) → ((h : Hit) → z ≡ Some h → is_nan h.distance ≡ false)
    → nearer z None ≡ true → nearer x y ≡ true → nearer z y ≡ false → nearer x z ≡ true
unfolding nearer
weave x y None real t h g = cc
weave None y (Some z) real t h g = cc
weave (Some x) None (Some z) real t h g = cc
weave (Some x) (Some y) (Some z) real t h g = lt_weave x.distance y.distance z.distance (real z refl) h g

-- Absolute value, smaller, larger and clamp, on every value of an `f64`. Definitions only.
use Rattle.std.specs.Prelude.{Bool, false, ◌&&◌, ◌||◌, cond, zero, suc, Float}
use Rattle.std.specs.Float.{nan, inf, fin}
use Rattle.std.specs.Float.Ieee.{lt, neg}

-- the same magnitude with the sign cleared
unfoldable pub abs_of : Float → Float
abs_of nan = nan
abs_of (inf s) = inf false
abs_of (fin s m e) = fin false m e

unfoldable pub minus_zero : Float → Bool
minus_zero nan = false
minus_zero (inf s) = false
minus_zero (fin s zero e) = s
minus_zero (fin s (suc m) e) = false

-- a comes before b: it is smaller as a number, or it is -0.0 and so is b's negative, that is b is +0.0
unfoldable pub ahead : Float → Float → Bool
ahead a b = lt a b || (minus_zero a && minus_zero (neg b))

-- of a NaN and a number the number
unfoldable pub or_number : Float → Float → Float → Float
or_number nan b c = b
or_number (inf s) nan c = inf s
or_number (fin s m e) nan c = fin s m e
or_number (inf s) (inf t) c = c
or_number (inf s) (fin t n d) c = c
or_number (fin s m e) (inf t) c = c
or_number (fin s m e) (fin t n d) c = c

unfoldable pub smaller_of : Float → Float → Float
smaller_of a b = or_number a b (cond (ahead b a) b a)

unfoldable pub larger_of : Float → Float → Float
larger_of a b = or_number a b (cond (ahead a b) b a)

unfoldable pub clamp_of : Float → Float → Float → Float
clamp_of x lo hi = cond (lt x lo) lo (cond (lt hi x) hi x)

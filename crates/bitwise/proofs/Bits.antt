-- What has the same bits is the same. Assumes nothing.
use mathlib.Core.Path.{◌≡◌, refl, sym, ap, ◌∙◌}
use mathlib.Core.Bool.{Bool, true, false, not, true≢false}
use lib.Dec.{T, eqb}
use lib.Ieee.{Float, nan, inf, fin, binary64, fits, is_nan, eq, to_bits, of_bits}
use lib.Ieee.Bits.{of_bits-to_bits}
use borrow.Author.Tests.{eqb-true}
use Rattle.plane.specs.declared.Point.{Point}

pub no_nan : (x : Float) → eq x x ≡ true → T (not (is_nan x))
unfolding eq is_nan
no_nan nan h = absurd (let q : ◌≡◌ {A = Bool} false true = h in true≢false (sym q))
no_nan (inf s) h = tt
no_nan (fin s m e) h = tt

pub same_bits : (a b : Float) → T (fits binary64 a) → T (fits binary64 b) → eqb (to_bits binary64 a) (to_bits binary64 b) ≡ true → a ≡ b
same_bits a b f g h = sym (of_bits-to_bits binary64 a f) ∙ ap (of_bits binary64) (eqb-true _ _ h) ∙ of_bits-to_bits binary64 b g

pub one_point : (a b : Point) → a.x ≡ b.x → a.y ≡ b.y → a ≡ b
one_point a b e f = rw (e, f) refl

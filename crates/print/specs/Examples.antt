-- Worked examples, computed. Assumes nothing.
use Rattle.std.specs.Prelude.{◌≡◌, refl, [], ◌∷◌}
use Rattle.print.specs.Digits.{digits, up_to, decimal, hex}

-- "0", "9", "10", "10000", and the largest of 64 bits, "18446744073709551615"
pub zero : decimal 0 ≡ 48 ∷ []
unfolding digits up_to
zero = refl

pub nine : decimal 9 ≡ 57 ∷ []
unfolding digits up_to
nine = refl

pub ten : decimal 10 ≡ 49 ∷ 48 ∷ []
unfolding digits up_to
ten = refl

pub ten_thousand : decimal 10000 ≡ 49 ∷ 48 ∷ 48 ∷ 48 ∷ 48 ∷ []
unfolding digits up_to
ten_thousand = refl

pub largest : decimal 18446744073709551615 ≡ 49 ∷ 56 ∷ 52 ∷ 52 ∷ 54 ∷ 55 ∷ 52 ∷ 52 ∷ 48 ∷ 55 ∷ 51 ∷ 55 ∷ 48 ∷ 57 ∷ 53 ∷ 53 ∷ 49 ∷ 54 ∷ 49 ∷ 53 ∷ []
unfolding digits up_to
largest = refl

-- "0123456789abcdef"
pub all_digits : hex 0x0123_4567_89ab_cdef ≡ 48 ∷ 49 ∷ 50 ∷ 51 ∷ 52 ∷ 53 ∷ 54 ∷ 55 ∷ 56 ∷ 57 ∷ 97 ∷ 98 ∷ 99 ∷ 100 ∷ 101 ∷ 102 ∷ []
unfolding digits
all_digits = refl

-- The definitions say something: a length on a grid of thousandths, ties of either sign, the largest and the smallest, and what
-- fits.
use mathlib.Core.Path.{◌≡◌, refl}
use mathlib.Core.Bool.{true, false}
use mathlib.Core.List.{[], ◌∷◌}
use lib.IntN.{pos, negsuc}
use lib.Ieee.{Float, binary64, of_bits}
use Rattle.refusals.specs.Bounds.{coordinate, every}
use Rattle.refusals.specs.Refusals.{refused_length, refused_setting, refused_fit, refused_grid, refuse}
use Rattle.refusals.specs.Answers.{answers, refuses}
use Rattle.to_grid.specs.Grid.{nearest, fits_grid}
use Rattle.to_grid.specs.Calls.{grid_numbers, of_grid, to_grid_refusal, to_grid_call, to_grid_room}

-- ---- nearest

-- 0.1234 is 123 thousandths
length : nearest 1000 (of_bits binary64 0x3FBF_9724_7453_8EF3) ≡ pos 123
unfolding nearest of_bits
length = refl

-- 2.5 and -2.5 are 3 and -3; the next below 2.5 is 2
tie : nearest 10 (of_bits binary64 0x3FD0_0000_0000_0000) ≡ pos 3
unfolding nearest of_bits
tie = refl

tie_below : nearest 10 (of_bits binary64 0xBFD0_0000_0000_0000) ≡ negsuc 2
unfolding nearest of_bits
tie_below = refl

no_tie : nearest 10 (of_bits binary64 0x3FCF_FFFF_FFFF_FFFF) ≡ pos 2
unfolding nearest of_bits
no_tie = refl

-- the smallest of all, and -0.0
smallest : nearest 1000000 (of_bits binary64 0x0000_0000_0000_0001) ≡ pos 0
unfolding nearest of_bits
smallest = refl

minus_zero_lem : nearest 1000000 (of_bits binary64 0x8000_0000_0000_0000) ≡ pos 0
unfolding nearest of_bits
minus_zero_lem = refl

-- ---- what fits

-- 90909.0909090909 times 11 is below a million; the next float is above, though its product, rounded, is a million
just_fits : fits_grid 11 (of_bits binary64 0x40F6_31D1_745D_1745) ≡ true
unfolding fits_grid of_bits
just_fits = refl

does_not : fits_grid 11 (of_bits binary64 0x40F6_31D1_745D_1746) ≡ false
unfolding fits_grid of_bits
does_not = refl

-- ---- the call

abbrev quarter : Float
quarter = of_bits binary64 0x3FD0_0000_0000_0000

abbrev million : Float
million = of_bits binary64 0x412E_8480_0000_0000

-- a point, and what the room holds beyond it
told : to_grid_call (quarter ∷ quarter ∷ []) 10 3 ≡ answers 1
unfolding to_grid_refusal of_grid grid_numbers fits_grid of_bits every coordinate
told = refl

room : to_grid_room (quarter ∷ quarter ∷ []) 10 (pos 7 ∷ pos 8 ∷ pos 9 ∷ []) ≡ pos 3 ∷ pos 3 ∷ pos 9 ∷ []
unfolding to_grid_refusal of_grid grid_numbers nearest fits_grid of_bits every coordinate
room = refl

-- the refusals, each before the next
odd : to_grid_call (million ∷ []) 0 0 ≡ refuses (refuse refused_length 0)
unfolding to_grid_refusal of_grid
odd = refl

no_units : to_grid_call (million ∷ million ∷ []) 0 0 ≡ refuses (refuse refused_setting 0)
unfolding to_grid_refusal of_grid grid_numbers of_bits every coordinate
no_units = refl

off_grid : to_grid_call (million ∷ million ∷ []) 2 0 ≡ refuses (refuse refused_grid 0)
unfolding to_grid_refusal of_grid grid_numbers fits_grid of_bits every coordinate
off_grid = refl

short : to_grid_call (million ∷ million ∷ []) 1 1 ≡ refuses (refuse refused_fit 0)
unfolding to_grid_refusal of_grid grid_numbers fits_grid of_bits every coordinate
short = refl

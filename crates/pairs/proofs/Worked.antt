-- Worked examples, by computation: pairs of four stationary and three orbiting vertices where a row or a kind ends. Assumes nothing.
use mathlib.Core.Path.{◌≡◌, refl}
use Rattle.pairs.specs.Pairs.{pair, pair_of}

-- of kind 0 the stationary index runs first
pub row_end : pair_of 4 3 3 ≡ pair 0 3 0
unfolding pair_of
row_end = refl

pub next_row : pair_of 4 3 4 ≡ pair 0 0 1
unfolding pair_of
next_row = refl

-- of the other kinds the orbiting index runs first
pub kind_1 : pair_of 4 3 12 ≡ pair 1 0 0
unfolding pair_of
kind_1 = refl

pub kind_1_row : pair_of 4 3 15 ≡ pair 1 1 0
unfolding pair_of
kind_1_row = refl

pub last : pair_of 4 3 35 ≡ pair 2 3 2
unfolding pair_of
last = refl

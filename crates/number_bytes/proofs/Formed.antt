-- What bit patterns stand for is what the format holds. Assumes nothing.
use Prim.Native.Nat.{ℕ}
use mathlib.Core.List.{List, [], ◌∷◌, map}
use lib.Ieee.{binary64, of_bits}
use lib.Ieee.Bits.{of_bits-fits}
use Rattle.number_bytes.specs.Bytes.{Formed}

pub formed_of : (cs : List ℕ) → Formed (map (of_bits binary64) cs)
formed_of [] = tt
formed_of (c ∷ cs) = (of_bits-fits binary64 c, formed_of cs)

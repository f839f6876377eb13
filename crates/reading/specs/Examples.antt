-- Worked examples, computed. Assumes nothing.
use Rattle.std.specs.Prelude.{◌≡◌, refl, true, false, [], ◌∷◌, pos, Float}
use Rattle.std.specs.Float.{fin}
use Rattle.std.specs.Float.Ieee.{eq, to_bits, of_bits}
use Rattle.reading.specs.Reading.{ord, less, best, best_of, least_reading, is_least}
use Rattle.reading.specs.Lent.{kept, ring_of}

abbrev zero : Float
zero = fin false 0 (pos 0)

abbrev minus : Float
minus = fin true 0 (pos 0)

abbrev one : Float
one = fin false 1 (pos 0)

-- the ring (0,0), (1,0), (0,0), (0,1) holds its lowest vertex twice: its least reading is (0,0), (0,1), (0,0), (1,0)
pub twice : least_reading (ring_of (zero ∷ zero ∷ one ∷ zero ∷ zero ∷ zero ∷ zero ∷ one ∷ [])) ≡ ring_of (zero ∷ zero ∷ zero ∷ one ∷ zero ∷ zero ∷ one ∷ zero ∷ [])
unfolding least_reading best_of best less ord kept to_bits eq of_bits
twice = refl

-- that one is its own least reading, and so is a ring whose vertices are all the same
pub twice_least : is_least (ring_of (zero ∷ zero ∷ zero ∷ one ∷ zero ∷ zero ∷ one ∷ zero ∷ [])) ≡ true
unfolding best_of best less ord kept to_bits eq of_bits
twice_least = refl

pub same_least : is_least (ring_of (one ∷ one ∷ one ∷ one ∷ one ∷ one ∷ [])) ≡ true
unfolding best_of best less ord kept to_bits eq of_bits
same_least = refl

-- either zero is kept as +0.0, and no other number is changed
pub zeros_kept : ring_of (minus ∷ one ∷ zero ∷ minus ∷ []) ≡ ring_of (zero ∷ one ∷ zero ∷ zero ∷ [])
unfolding kept to_bits eq of_bits
zeros_kept = refl

pub one_kept : kept one ≡ 0x3ff0_0000_0000_0000
unfolding kept to_bits eq of_bits
one_kept = refl

-- of the patterns -0.0's is before +0.0's, and not the other way round
pub minus_first : less (0x8000_0000_0000_0000 ∷ []) (0 ∷ []) ≡ true
unfolding less ord
minus_first = refl

pub plus_second : less (0 ∷ []) (0x8000_0000_0000_0000 ∷ []) ≡ false
unfolding less ord
plus_second = refl

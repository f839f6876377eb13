-- Worked examples, by computation: mirrored rings, what the laws ask of exchanged lists, and a ring whose mirror has another area.
use mathlib.Core.Path.{◌≡◌, refl}
use mathlib.Core.List.{List, [], ◌∷◌}
use lib.Ieee.{Float, add, sub, mul, neg, of_bits}
use Rattle.scalar.specs.Float.{float, f0, f1}
use Rattle.refusals.specs.Refusals.{refuse}
use Rattle.refusals.specs.Lists.{ring_extent}
use Rattle.refusals.specs.Answers.{refuses}
use Rattle.ring.specs.Ring.{point_at}
use Rattle.ring_copies.specs.Copies.{mirrored}
use Rattle.signed_area.specs.Area.{term_of, sum_to, area2_of}
use Rattle.mirror_laws.specs.Mirrored.{negated_x, mirrored_rings}
use Rattle.mirror_laws.specs.Exchanged.{fault_number, Exchanged}

abbrev minus_zero_lem : Float
minus_zero_lem = float 0x8000_0000_0000_0000

abbrev two : Float
two = float 0x4000_0000_0000_0000

abbrev minus_one : Float
minus_one = float 0xbff0_0000_0000_0000

abbrev minus_two : Float
minus_two = float 0xc000_0000_0000_0000

-- (0,0), (1,0), (0,1): its mirror, its mirror's mirror, and the ring with x negated
abbrev triangle : List Float
triangle = f0 ∷ f0 ∷ f1 ∷ f0 ∷ f0 ∷ f1 ∷ []

abbrev mirror : List Float
mirror = minus_zero_lem ∷ f1 ∷ minus_one ∷ f0 ∷ minus_zero_lem ∷ f0 ∷ []

once : mirrored triangle ≡ mirror
unfolding mirrored neg of_bits
once = refl

again : mirrored mirror ≡ triangle
unfolding mirrored neg of_bits
again = refl

negated : negated_x triangle ≡ minus_zero_lem ∷ f0 ∷ minus_one ∷ f0 ∷ minus_zero_lem ∷ f1 ∷ []
unfolding negated_x neg of_bits
negated = refl

-- two rings, each mirrored in its place
rings : mirrored_rings (3 ∷ 3 ∷ []) (f0 ∷ f0 ∷ f1 ∷ f0 ∷ f0 ∷ f1 ∷ two ∷ f0 ∷ two ∷ f1 ∷ f1 ∷ f1 ∷ [])
    ≡ minus_zero_lem ∷ f1 ∷ minus_one ∷ f0 ∷ minus_zero_lem ∷ f0 ∷ minus_one ∷ f1 ∷ minus_two ∷ f1 ∷ minus_two ∷ f0 ∷ []
unfolding mirrored_rings mirrored neg of_bits
rings = refl

-- a list of odd length has fault 1, a ring none
odd : fault_number (ring_extent (f0 ∷ [])) ≡ 1
odd = refl

even : fault_number (ring_extent triangle) ≡ 0
even = refl

-- with the odd list first the place is 0, and exchanged it is 1
moves : Exchanged {A = Float} 1 0 (refuses (refuse 1 0)) (refuses (refuse 1 1))
moves = (refl, refl)

-- The area of a mirrored ring is added up from the other end, and may be another number: of the ring (0,0.1), (0.1,0), (0.2,0.1), (0,0.3)
-- it is 0.06, and of its mirror the next number up.
abbrev tenth : Float
tenth = float 0x3fb9_9999_9999_999a

abbrev tenths : List Float
tenths = f0 ∷ tenth ∷ tenth ∷ f0 ∷ float 0x3fc9_9999_9999_999a ∷ tenth ∷ f0 ∷ float 0x3fd3_3333_3333_3333 ∷ []

own_area : area2_of tenths ≡ float 0x3fae_b851_eb85_1eb8
unfolding area2_of sum_to term_of point_at add sub mul neg of_bits
own_area = refl

mirrors_area : area2_of (mirrored tenths) ≡ float 0x3fae_b851_eb85_1eb9
unfolding mirrored area2_of sum_to term_of point_at add sub mul neg of_bits
mirrors_area = refl

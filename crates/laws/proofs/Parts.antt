-- The order of two finite values, by their parts: a value is what it is above zero less what it is below, over its
-- denominator (`plus`, `less` and `den`). Assumes nothing.
use Prim.Native.Nat.{ℕ, ◌+◌, ◌*◌, ◌≤◌}
use native.Mathlib.Omega.{arith}
use native.Mathlib.Nat.{eq-or-lt_of_le, le_of_eq}
use mathlib.Core.Path.{◌≡◌, sym}
use mathlib.Core.Logic.{◌⊎◌, inl, inr}
use mathlib.Core.Bool.{Bool, true, false, ◌&&◌, ◌||◌}
use lib.IntN.{ℤ}
use lib.Dec.{T, ltb, eqb, eqb→eq, ltb→lt, lt→ltb}
use lib.Ieee.{Float, nan, inf, fin, up, down, le}
use lib.Ieee.Fits.{and_l, and_r, and_i, eq→eqb}
use lib.Ieee.Positive.{den}

abbrev pub plus : Float → ℕ
plus nan = 0
plus (inf s) = 0
plus (fin true m e) = 0
plus (fin false m e) = m * up e

abbrev pub less : Float → ℕ
less nan = 0
less (inf s) = 0
less (fin true m e) = m * up e
less (fin false m e) = 0

-- a difference p - n over c is not above q - o over d
abbrev pub NotAbove : ℕ → ℕ → ℕ → ℕ → ℕ → ℕ → Type 0
NotAbove p n c q o d = p * d + o * c ≤ q * c + n * d

-- ---- the order of two finite values

either : (a b : Bool) → T (a || b) → T a ⊎ T b
either true b t = inl tt
either false b t = inr t

or_left : (a b : Bool) → T a → T (a || b)
or_left true b t = tt
or_left false b t = absurd t

or_right : (a b : Bool) → T b → T (a || b)
or_right true b t = tt
or_right false b t = t

below_or_level : (a b : ℕ) → T (ltb a b || (eqb a b && true)) → a ≤ b
below_or_level a b t =
    elim (either (ltb a b) (eqb a b && true) t) [
      | inl u ↦ let h = ltb→lt a b u in omega arith
      | inr u ↦ le_of_eq (eqb→eq a b (and_l (eqb a b) true u))
    ]

of_le : (a b : ℕ) → a ≤ b → T (ltb a b || (eqb a b && true))
of_le a b h =
    elim (eq-or-lt_of_le h) [
      | inl e ↦ or_right (ltb a b) (eqb a b && true) (and_i (eqb a b) true (eq→eqb e) tt)
      | inr l ↦ or_left (ltb a b) (eqb a b && true) (lt→ltb a b l)
    ]

both_zero : (a b : ℕ) → T (eqb a b && eqb a 0) → a + b ≡ 0
both_zero a b t =
    let e = eqb→eq a b (and_l (eqb a b) (eqb a 0) t) in
    let z = eqb→eq a 0 (and_r (eqb a b) (eqb a 0) t) in
    omega arith

of_zeros : (a b : ℕ) → a + b ≡ 0 → T (eqb a b && eqb a 0)
of_zeros a b h =
    let e : a ≡ b = omega arith in
    let z : a ≡ 0 = omega arith in
    and_i (eqb a b) (eqb a 0) (eq→eqb e) (eq→eqb z)

pub parts_of_le : (s : Bool) (m : ℕ) (e : ℤ) (t : Bool) (n : ℕ) (d : ℤ) →
    let x = fin s m e in
    let y = fin t n d in
    T (le x y) → NotAbove (plus x) (less x) (den x) (plus y) (less y) (den y)
unfolding le
parts_of_le false m e false n d h = let l = below_or_level (m * up e * down d) (n * up d * down e) h in omega arith
parts_of_le false m e true n d h = let z = both_zero (m * up e * down d) (n * up d * down e) h in omega arith
parts_of_le true m e false n d h = omega arith
parts_of_le true m e true n d h =
    elim (either (ltb (n * up d * down e) (m * up e * down d)) (eqb (m * up e * down d) (n * up d * down e) && true) h) [
      | inl u ↦ let l = ltb→lt (n * up d * down e) (m * up e * down d) u in omega arith
      | inr u ↦ let l = eqb→eq (m * up e * down d) (n * up d * down e) (and_l (eqb (m * up e * down d) (n * up d * down e)) true u) in omega arith
    ]

pub le_of_parts : (s : Bool) (m : ℕ) (e : ℤ) (t : Bool) (n : ℕ) (d : ℤ) →
    let x = fin s m e in
    let y = fin t n d in
    NotAbove (plus x) (less x) (den x) (plus y) (less y) (den y) → T (le x y)
unfolding le
le_of_parts false m e false n d h = of_le (m * up e * down d) (n * up d * down e) (omega arith)
le_of_parts false m e true n d h = of_zeros (m * up e * down d) (n * up d * down e) (omega arith)
le_of_parts true m e false n d h =
    let a = m * up e * down d in
    let b = n * up d * down e in
    let g : 0 ≤ a + b = omega arith in
    elim (eq-or-lt_of_le g) [
      | inl z ↦ or_right (ltb 0 (a + b)) (eqb a b && eqb a 0) (of_zeros a b (sym z))
      | inr l ↦ or_left (ltb 0 (a + b)) (eqb a b && eqb a 0) (lt→ltb 0 (a + b) l)
    ]
le_of_parts true m e true n d h =
    let a = m * up e * down d in
    let b = n * up d * down e in
    let g : b ≤ a = omega arith in
    elim (eq-or-lt_of_le g) [
      | inl z ↦ or_right (ltb b a) (eqb a b && true) (and_i (eqb a b) true (eq→eqb (sym z)) tt)
      | inr l ↦ or_left (ltb b a) (eqb a b && true) (lt→ltb b a l)
    ]

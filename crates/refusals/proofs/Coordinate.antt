-- What the two comparisons of `is_coordinate` say: the magnitude is at most a million; and that a coordinate is no NaN. Assumes nothing.
use Prim.Native.Nat.{ℕ, suc, ◌+◌, ◌*◌, ◌≤◌, ◌<◌}
use mathlib.Core.Path.{◌≡◌, refl, sym, ap, ◌∙◌}
use mathlib.Core.Bool.{Bool, true, false, not, ◌&&◌, ◌||◌, and-true, true≢false}
use native.Mathlib.Omega.{arith}
use native.Mathlib.Nat.{mul-one}
use native.Mathlib.Decide.{dec_le}
use lib.Pow.{pow_pos}
use lib.IntN.{ℤ, pos, negsuc}
use lib.Dec.{T, leb, ltb, eqb}
use lib.Ieee.{Float, nan, inf, fin, binary64, is_nan, le, lt, eq, neg, up, down, of_bits}
use borrow.Author.Tests.{lt-ltb, le-ltb, le-leb, lt-leb, eq-eqb, ne_eqb}
use Rattle.refusals.specs.Bounds.{coordinate}

-- 1000000.0 as the code has it
abbrev pub million : Float
million = of_bits binary64 0x412E_8480_0000_0000

million_is : million ≡ fin false 15625 (pos 6)
unfolding of_bits
million_is = refl

-- less or equal, by the two tests, the second either way round
ltb_or_eqb : (a b : ℕ) → ((ltb a b || eqb a b) ≡ leb a b) × ((ltb a b || eqb b a) ≡ leb a b)
ltb_or_eqb a b = go (dec_le a b) (dec_le b a)
  where
    go : Dec (a ≤ b) → Dec (b ≤ a) → ((ltb a b || eqb a b) ≡ leb a b) × ((ltb a b || eqb b a) ≡ leb a b)
    go (no h) k = (
      simp (le-ltb a b (omega arith), ne_eqb a b (λ e. omega arith), lt-leb a b (omega arith)),
      simp (le-ltb a b (omega arith), ne_eqb b a (λ e. omega arith), lt-leb a b (omega arith)),
    )
    go (yes h) (no k) = (simp (lt-ltb a b (omega arith), le-leb a b h), simp (lt-ltb a b (omega arith), le-leb a b h))
    go (yes h) (yes k) =
        (simp (le-ltb a b k, eq-eqb a b (omega arith), le-leb a b h), simp (le-ltb a b k, eq-eqb b a (omega arith), le-leb a b h))

down_pos : (e : ℤ) → 0 < down e
down_pos (pos k) = omega arith
down_pos (negsuc k) = pow_pos (suc k)

-- a number against the bound y, which is above zero, and its opposite: the size against the bound
pub bounded : (s : Bool) (m : ℕ) (e : ℤ) (n : ℕ) (d : ℤ) → 0 < n * up d * down e
    → (le (fin s m e) (fin false n d) && le (neg (fin false n d)) (fin s m e)) ≡ leb (m * up e * down d) (n * up d * down e)
unfolding le lt eq neg
bounded false m e n d h =
    let some : 0 < n * up d * down e + m * up e * down d = omega arith in
    simp ((ltb_or_eqb (m * up e * down d) (n * up d * down e)).0, lt-ltb 0 (n * up d * down e + m * up e * down d) some, and-true)
bounded true m e n d h =
    let some : 0 < m * up e * down d + n * up d * down e = omega arith in
    simp ((ltb_or_eqb (m * up e * down d) (n * up d * down e)).1, lt-ltb 0 (m * up e * down d + n * up d * down e) some, and-true)

pub coordinate_le : (x : Float) → (le x million && le (neg million) x) ≡ coordinate x
unfolding coordinate le lt eq neg
coordinate_le nan = refl
coordinate_le (inf true) = rw million_is
coordinate_le (inf false) = rw million_is
coordinate_le (fin s m e) =
    rw million_is (bounded s m e 15625 (pos 6) (omega (arith, down_pos e)) ∙ ap (λ z. leb z (1000000 * down e)) (mul-one (m * up e)))

-- a coordinate is no NaN
pub coordinate_number : (x : Float) → coordinate x ≡ true → T (not (is_nan x))
unfolding coordinate is_nan
coordinate_number nan h = absurd (true≢false (sym h))
coordinate_number (inf s) h = tt
coordinate_number (fin s m e) h = tt

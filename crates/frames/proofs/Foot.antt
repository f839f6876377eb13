-- A point of a segment, a + t * w with t from 0 to 1, lies between a and a + w along each axis, as it is rounded too: t * w lies between 0 and w. Assumes nothing.
use Prim.Native.Nat.{ℕ, zero, suc, ◌*◌, ◌≤◌}
use native.Mathlib.Omega.{arith}
use native.Mathlib.Nat.{zero-lt-suc, mul-pos, mul-le-mul_right}
use mathlib.Core.Path.{◌≡◌, refl, ◌∙◌, subst}
use mathlib.Core.Logic.{◌⊎◌, inl, inr}
use mathlib.Core.Bool.{Bool, true, false, cond, true≢false}
use lib.IntN.{ℤ, pos}
use lib.Dec.{T, eqb}
use lib.Ieee.{Float, nan, inf, fin, binary64, unlike, up, down, fits, round, neg, of_bits, add, mul, lt, le}
use lib.Ieee.Fits.{up_pos, down_pos}
use lib.Ieee.Scale.{round_same}
use Rattle.laws.proofs.Parts.{plus, less, parts_of_le, le_of_parts}
use Rattle.laws.proofs.Order.{not_above, le_trans}
use Rattle.laws.proofs.Plain.{Plain, infinite, number, round_plain, minus_below}
use Rattle.laws.proofs.Rounding.{upward, downward, rounds_mono, round_minus}
use Rattle.scalar.specs.Float.{f0, f1, ◌⊕◌, ◌⊗◌}
use Rattle.frames.proofs.Sums.{own, own_rounds, own_zero, rounded, rises, falls, adds_more}

-- ---- a parameter from 0 to 1

-- a NaN, a zero, or a fraction that is not above 1
data Share : Float → Type 0 where
  no_share : Share nan
  nothing : (s : Bool) (e : ℤ) → Share (fin s 0 e)
  part : (m : ℕ) (e : ℤ) → m * up e ≤ down e → Share (fin false m e)

no_minus : (m : ℕ) (e : ℤ) → T (le (fin false 0 (pos 0)) (fin true (suc m) e)) → ⊥
no_minus m e h = let l = parts_of_le false 0 (pos 0) true (suc m) e h in let p = mul-pos (zero-lt-suc m) (up_pos e) in omega arith

share : (t : Float) → lt t f0 ≡ false → lt f1 t ≡ false → Share t
unfolding lt of_bits
share nan h k = no_share
share (inf true) h k = absurd (true≢false h)
share (inf false) h k = absurd (true≢false k)
share (fin s zero e) h k = nothing s e
share (fin true (suc m) e) h k = absurd (no_minus m e (not_above true (suc m) e false 0 (pos 0) h))
share (fin false (suc m) e) h k = part (suc m) e (let l = parts_of_le false (suc m) e false 1 (pos 0) (not_above false 1 (pos 0) false (suc m) e k) in omega arith)

-- ---- the product with a finite value lies between 0 and that value

cut : (t c w b : ℕ) → t ≤ c → t * w * b ≤ w * (c * b)
cut t c w b h = let z = mul-le-mul_right (w * b) h in omega arith

module _ (m : ℕ) (e : ℤ) (n : ℕ) (d : ℤ) (h : m * up e ≤ down e) where
  abbrev size : ℕ
  size = m * up e * (n * up d)

  up_to : T (fits binary64 (fin false n d)) → T (le (round binary64 false size (down e * down d)) (fin false n d))
  up_to F =
      le_trans (round binary64 false size (down e * down d)) (rounded false n d) (fin false n d)
      (rounds_mono binary64 (mul-pos (down_pos e) (down_pos d)) (down_pos d) (upward size 0 (down e * down d) size (omega arith)) (own_rounds false n d)
      (let z = cut (m * up e) (down e) (n * up d) (down d) h in omega arith))
      (own false n d F).1

  down_to : T (fits binary64 (fin true n d)) → T (le (fin true n d) (round binary64 true size (down e * down d)))
  down_to F =
      le_trans (fin true n d) (rounded true n d) (round binary64 true size (down e * down d))
      (own true n d F).0
      (rounds_mono binary64 (down_pos d) (mul-pos (down_pos e) (down_pos d)) (own_rounds true n d) (downward 0 size (down e * down d) size (omega arith))
      (let z = cut (m * up e) (down e) (n * up d) (down d) h in omega arith))

-- ---- between

-- p is not below a or not below b, and not above a or not above b
abbrev pub Between : Float → Float → Float → Type 0
Between a b p = (T (le a p) ⊎ T (le b p)) × (T (le p a) ⊎ T (le p b))

le_self : (s : Bool) → T (le (inf s) (inf s))
unfolding le
le_self true = tt
le_self false = tt

-- an infinity is left as it is
from_infinity : (s : Bool) (u b : Float) → (inf s ⊕ u ≡ nan) ⊎ Between (inf s) b (inf s ⊕ u)
unfolding add
from_infinity s nan b = inl refl
from_infinity s (fin t n d) b = inr (inl (le_self s), inl (le_self s))
from_infinity true (inf true) b = inr (inl (le_self true), inl (le_self true))
from_infinity true (inf false) b = inl refl
from_infinity false (inf true) b = inl refl
from_infinity false (inf false) b = inr (inl (le_self false), inl (le_self false))

-- no share of anything is a zero or a NaN
none_of : (s : Bool) (e : ℤ) (w : Float) → (fin s 0 e ⊗ w ≡ nan) ⊎ ((r : Bool) × (fin s 0 e ⊗ w ≡ fin r 0 (pos 0)))
unfolding mul
none_of s e nan = inl refl
none_of s e (inf t) = inl refl
none_of s e (fin t n d) = inr (unlike s t, round_same binary64 (unlike s t) (0 * up e * (n * up d)) (down e * down d) (0 * 1) 1 (mul-pos (down_pos e) (down_pos d)) (omega arith) (omega arith) ∙ own_zero (unlike s t) (pos 0))

-- a part of an infinity is that infinity, or a NaN
all_or_none : (z r : Bool) → (cond z nan (inf (unlike false r)) ≡ nan) ⊎ (cond z nan (inf (unlike false r)) ≡ inf r)
all_or_none true r = inl refl
all_or_none false true = inr refl
all_or_none false false = inr refl

module _ (q : Bool) (k : ℕ) (b : ℤ) (A : T (fits binary64 (fin q k b))) where
  abbrev a : Float
  a = fin q k b

  by_nothing : (w u : Float) → (u ≡ nan) ⊎ ((r : Bool) × (u ≡ fin r 0 (pos 0))) → (a ⊕ u ≡ nan) ⊎ Between a (a ⊕ w) (a ⊕ u)
  by_nothing w u (inl e) = inl (rw e (unfold add in refl))
  by_nothing w u (inr z) = inr (rw z.1 (inl (rises q k b z.0 0 (pos 0) A (none z.0).0), inl (falls q k b z.0 0 (pos 0) A (none z.0).1)))
    where
      none : (r : Bool) → (less (fin r 0 (pos 0)) ≡ 0) × (plus (fin r 0 (pos 0)) ≡ 0)
      none true = (refl, refl)
      none false = (refl, refl)

  by_rise : (n : ℕ) (d : ℤ) {u : Float} → Plain u → T (le u (fin false n d)) → Between a (a ⊕ fin false n d) (a ⊕ u)
  unfolding le
  by_rise n d infinite l = absurd l
  by_rise n d (number m e) l = (inl (rises q k b false m e A refl), inr (adds_more q k b false m e false n d l))

  by_fall : (n : ℕ) (d : ℤ) {u : Float} → Plain u → T (le (fin true n d) (neg u)) → Between a (a ⊕ fin true n d) (a ⊕ neg u)
  unfolding le neg
  by_fall n d infinite l = absurd l
  by_fall n d (number m e) l = (inr (adds_more q k b true n d true m e l), inl (falls q k b true m e A refl))

  by_infinity : (r : Bool) (u : Float) → (u ≡ nan) ⊎ (u ≡ inf r) → (a ⊕ u ≡ nan) ⊎ Between a (a ⊕ inf r) (a ⊕ u)
  by_infinity r u (inl e) = inl (rw e (unfold add in refl))
  by_infinity r u (inr e) = inr (rw e (unfold add in (inr (le_self r), inr (le_self r))))

  by_part : (m : ℕ) (e : ℤ) → m * up e ≤ down e → (w : Float) → T (fits binary64 w)
      → (a ⊕ fin false m e ⊗ w ≡ nan) ⊎ Between a (a ⊕ w) (a ⊕ fin false m e ⊗ w)
  unfolding mul add
  by_part m e h nan W = inl refl
  by_part m e h (inf r) W = by_infinity r (fin false m e ⊗ inf r) (all_or_none (eqb m 0) r)
  by_part m e h (fin false n d) W = inr (by_rise n d (round_plain binary64 (m * up e * (n * up d)) (down e * down d)) (up_to m e n d h W))
  by_part m e h (fin true n d) W =
      inr (rw (round_minus binary64 (m * up e * (n * up d)) (down e * down d))
      (by_fall n d (round_plain binary64 (m * up e * (n * up d)) (down e * down d)) (subst (λ (x : Float). T (le (fin true n d) x)) (round_minus binary64 (m * up e * (n * up d)) (down e * down d)) (down_to m e n d h W))))

-- a + t * w lies between a and a + w, or is a NaN
pub between : (a w t : Float) → T (fits binary64 a) → T (fits binary64 w) → lt t f0 ≡ false → lt f1 t ≡ false
    → (a ⊕ t ⊗ w ≡ nan) ⊎ Between a (a ⊕ w) (a ⊕ t ⊗ w)
between a w t A W h k = by a A (share t h k)
  where
    by : (a : Float) → T (fits binary64 a) → {t : Float} → Share t → (a ⊕ t ⊗ w ≡ nan) ⊎ Between a (a ⊕ w) (a ⊕ t ⊗ w)
    by nan A z = inl (unfold add in refl)
    by (inf s) A {t} z = from_infinity s (t ⊗ w) (inf s ⊕ w)
    by (fin q k b) A no_share = inl (unfold add mul in refl)
    by (fin q k b) A (nothing s e) = by_nothing q k b A w (fin s 0 e ⊗ w) (none_of s e w)
    by (fin q k b) A (part m e h) = by_part q k b A m e h w W

-- ---- t * w lies between 0 and w, or is a NaN

pub zero_first : {x : Float} → Plain x → T (le f0 x)
unfolding le of_bits
zero_first infinite = tt
zero_first (number m e) = le_of_parts false 0 (pos 0) false m e (omega arith)

some_of : (m : ℕ) (e : ℤ) → m * up e ≤ down e → (w : Float) → T (fits binary64 w) → (fin false m e ⊗ w ≡ nan) ⊎ Between f0 w (fin false m e ⊗ w)
unfolding mul of_bits
some_of m e h nan W = inl refl
some_of m e h (inf r) W = elim (all_or_none (eqb m 0) r) [ inl z ↦ inl z | inr z ↦ inr (rw z (inr (le_self r), inr (le_self r))) ]
some_of m e h (fin false n d) W = inr (inl (zero_first (round_plain binary64 (m * up e * (n * up d)) (down e * down d))), inr (up_to m e n d h W))
some_of m e h (fin true n d) W =
    let size = m * up e * (n * up d) in
    let c = down e * down d in
    let below : T (le (round binary64 true size c) (fin false 0 (pos 0))) = rw (round_minus binary64 size c) (minus_below (round_plain binary64 size c) (number 0 (pos 0))) in
    inr (inr (down_to m e n d h W), inl below)

zero_between : (w : Float) (r : Bool) → Between f0 w (fin r 0 (pos 0))
unfolding le of_bits
zero_between w true = (inl tt, inl tt)
zero_between w false = (inl tt, inl tt)

pub part_between : (w t : Float) → T (fits binary64 w) → lt t f0 ≡ false → lt f1 t ≡ false → (t ⊗ w ≡ nan) ⊎ Between f0 w (t ⊗ w)
part_between w t W h k = by (share t h k)
  where
    by : {t : Float} → Share t → (t ⊗ w ≡ nan) ⊎ Between f0 w (t ⊗ w)
    by no_share = inl (unfold mul in refl)
    by (nothing s e) = elim (none_of s e w) [ inl z ↦ inl z | inr z ↦ inr (rw z.1 (zero_between w z.0)) ]
    by (part m e l) = some_of m e l w W

-- A slight margin, above zero and not above a half, changes no comparison of whole numbers: what is rounded lies between
-- the number and the half beside it, since rounding keeps the order. Assumes nothing.
use Prim.Native.Nat.{ℕ, ◌+◌, ◌-◌, ◌*◌, ◌^◌, ◌≤◌, ◌<◌, min, max}
use native.Mathlib.Omega.{arith}
use native.Mathlib.Nat.{mul-pos, mul-le-mul_right, lt_of_not-le}
use mathlib.Core.Path.{◌≡◌, refl, sym, ap, ◌∙◌, subst}
use mathlib.Core.Bool.{Bool, true, false, cond}
use lib.Dec.{T, ltb, leb, eqb, not_T, lit<}
use lib.Ieee.Bits.{is_true, is_false}
use lib.Ieee.{Float, nan, inf, fin, up, down, binary64, round, sub, neg, lt, le}
use lib.Ieee.Fits.{down_pos}
use borrow.Author.Tests.{ltb-true, ltb-false, leb-true, leb-false, eqb-true, eqb-false, lt-ltb, le-ltb, le-leb}
use Rattle.laws.proofs.Parts.{plus, less, NotAbove}
use Rattle.laws.proofs.Order.{clash, le_trans, lt_le, le_lt}
use Rattle.laws.proofs.Rounding.{Rounds, upward, downward, rounds_mono, finite_sum}
use Rattle.scalar.specs.Float.{◌⊕◌, ◌⊖◌}
use Rattle.scalar.specs.Scalar.{abs_of}
use Rattle.whole_floats.specs.Whole.{Whole}
use Rattle.whole_floats.proofs.Fraction.{At, at_one, of_one, agree, lt_at, same_ltb, wholes_kept, halves_kept, rounds_at}
use Rattle.whole_floats.proofs.Compare.{is_at_most}
use Rattle.whole_floats.proofs.Picked.{absolute}

-- above zero, and not above a half
abbrev pub Slight : Float → Type 0
Slight nan = ⊥
Slight (inf s) = ⊥
Slight (fin true m e) = ⊥
Slight (fin false m e) = (0 < m * up e) × (2 * (m * up e) ≤ down e)

-- ---- a whole number against the margin itself

over : (g d p q : ℕ) → 0 < g → 2 * g ≤ d → ltb q p ≡ ltb (g * 1 + q * d) (p * d + 0 * 1)
over g d p q G H =
    agree (ltb q p) (ltb (g * 1 + q * d) (p * d + 0 * 1))
    (λ h. lt-ltb (g * 1 + q * d) (p * d + 0 * 1) (let k = mul-le-mul_right d (next h) in omega arith))
    (λ h. le-ltb (g * 1 + q * d) (p * d + 0 * 1) (let k = mul-le-mul_right d (ltb-false q p h) in omega arith))
  where
    next : ltb q p ≡ true → q + 1 ≤ p
    next h = let l = ltb-true q p h in omega arith

pub above_margin : (g x : Float) (p q : ℕ) → Slight g → Whole x p q → lt g x ≡ ltb q p
above_margin nan x p q G h = absurd G
above_margin (inf s) x p q G h = absurd G
above_margin (fin true m e) x p q G h = absurd G
above_margin (fin false m e) x p q G h =
    lt_at (fin false m e) x (m * up e) 0 (down e) p q 1 (down_pos e) (lit< tt) (omega arith) (at_one x p q h)
    ∙ sym (over (m * up e) (down e) p q G.0 G.1)

pub below_margin : (g x : Float) (p q : ℕ) → Slight g → Whole x p q → lt x (neg g) ≡ ltb p q
unfolding neg
below_margin nan x p q G h = absurd G
below_margin (inf s) x p q G h = absurd G
below_margin (fin true m e) x p q G h = absurd G
below_margin (fin false m e) x p q G h =
    let a : p * down e + m * up e * 1 ≡ m * up e * 1 + p * down e = omega arith in
    let b : 0 * 1 + q * down e ≡ q * down e + 0 * 1 = omega arith in
    lt_at x (fin true m e) p q 1 0 (m * up e) (down e) (lit< tt) (down_pos e) (at_one x p q h) (omega arith)
    ∙ same_ltb a b
    ∙ sym (over (m * up e) (down e) q p G.0 G.1)

-- a magnitude below the margin is none
apart : (p q : ℕ) → (p ≡ q → ⊥) → min p q + 1 ≤ max p q
apart p q n = let l : min p q < max p q = lt_of_not-le (λ (g : max p q ≤ min p q). n (omega arith)) in omega arith

within : (g d p q : ℕ) → 0 < g → 2 * g ≤ d → eqb p q ≡ ltb (max p q * d + 0 * 1) (g * 1 + min p q * d)
within g d p q G H =
    agree (eqb p q) (ltb (max p q * d + 0 * 1) (g * 1 + min p q * d))
    (λ h. lt-ltb (max p q * d + 0 * 1) (g * 1 + min p q * d) (let k = ap (λ (z : ℕ). z * d) (level h) in omega arith))
    (λ h. le-ltb (max p q * d + 0 * 1) (g * 1 + min p q * d) (let k = mul-le-mul_right d (apart p q (eqb-false p q h)) in omega arith))
  where
    level : eqb p q ≡ true → max p q ≡ min p q
    level h = let z = eqb-true p q h in omega arith

pub slight_magnitude : (g x : Float) (p q : ℕ) → Slight g → Whole x p q → lt (abs_of x) g ≡ eqb p q
slight_magnitude nan x p q G h = absurd G
slight_magnitude (inf s) x p q G h = absurd G
slight_magnitude (fin true m e) x p q G h = absurd G
slight_magnitude (fin false m e) x p q G h =
    lt_at (abs_of x) (fin false m e) (max p q) (min p q) 1 (m * up e) 0 (down e) (lit< tt) (down_pos e)
    (at_one (abs_of x) (max p q) (min p q) (absolute x p q h)) (omega arith)
    ∙ sym (within (m * up e) (down e) p q G.0 G.1)

-- ---- a whole number less the margin, and with the margin added

-- the rounding of (P - Q) / c
abbrev rounded : ℕ → ℕ → ℕ → Float
rounded P Q c = cond (ltb P Q) (round binary64 true (Q - P) c) (round binary64 false (P - Q) c)

rounded_is : (P Q c : ℕ) → Rounds binary64 (rounded P Q c) P Q c
rounded_is P Q c = by (ltb P Q) refl
  where
    by : (t : Bool) → ltb P Q ≡ t → Rounds binary64 (cond t (round binary64 true (Q - P) c) (round binary64 false (P - Q) c)) P Q c
    by true l = downward P Q c (Q - P) (let z = ltb-true P Q l in omega arith)
    by false l = upward P Q c (P - Q) (let z = ltb-false P Q l in omega arith)

rounded_whole : (P Q : ℕ) → P ≤ Q + 2 ^ 53 → Q ≤ P + 2 ^ 53 → Whole (rounded P Q 1) P Q
rounded_whole P Q a b =
    of_one (rounded P Q 1) P Q (rounds_at 1 (2 ^ 53) wholes_kept P Q (lit< tt) (rounded_is P Q 1) (omega arith) a b)

rounded_half : (P Q : ℕ) → P ≤ Q + 2 ^ 52 → Q ≤ P + 2 ^ 52 → At (rounded P Q 2) P Q 2
rounded_half P Q a b = rounds_at 2 (2 ^ 52) halves_kept P Q (lit< tt) (rounded_is P Q 2) (omega arith) a b

-- z is the rounding of (a - b) / c: between a whole number p - q and the half before it, or the half after it
module _ (z y : Float) (a b c : ℕ) (C : 0 < c) (R : Rounds binary64 z a b c) (p q r s : ℕ) (h : Whole y r s)
    (u : p ≤ q + 1000000) (v : q ≤ p + 1000000) where
  not_more : NotAbove a b c p q 1 → p + s ≤ r + q → T (le z y)
  not_more l k =
      let w : Whole (rounded p q 1) p q = rounded_whole p q (omega arith) (omega arith) in
      let t : le (rounded p q 1) y ≡ true = is_at_most (rounded p q 1) y p q r s w h ∙ le-leb (p + s) (r + q) k in
      le_trans z (rounded p q 1) y (rounds_mono binary64 C (lit< tt) R (rounded_is p q 1) l) (subst T (sym t) tt)

  more : NotAbove (2 * p) (2 * q + 1) 2 a b c → r + q < p + s → T (le z y) → ⊥
  more l k g =
      let H = rounded (2 * p) (2 * q + 1) 2 in
      let w : At H (2 * p) (2 * q + 1) 2 = rounded_half (2 * p) (2 * q + 1) (omega arith) (omega arith) in
      let t : lt y H ≡ true =
      lt_at y H r s 1 (2 * p) (2 * q + 1) 2 (lit< tt) (lit< tt) (at_one y r s h) w
      ∙ lt-ltb (r * 2 + (2 * q + 1) * 1) (2 * p * 1 + s * 2) (omega arith) in
      clash y z (lt_le y H z t (rounds_mono binary64 (lit< tt) C (rounded_is (2 * p) (2 * q + 1) 2) R l)) g

  just_below : NotAbove a b c p q 1 → NotAbove (2 * p) (2 * q + 1) 2 a b c → leb (p + s) (r + q) ≡ le z y
  just_below l m =
      agree (leb (p + s) (r + q)) (le z y)
      (λ e. is_true (le z y) (not_more l (leb-true (p + s) (r + q) e)))
      (λ e. is_false (le z y) (not_T (le z y) (more m (leb-false (p + s) (r + q) e))))

  not_less : NotAbove p q 1 a b c → r + q ≤ p + s → T (le y z)
  not_less l k =
      let w : Whole (rounded p q 1) p q = rounded_whole p q (omega arith) (omega arith) in
      let t : le y (rounded p q 1) ≡ true = is_at_most y (rounded p q 1) r s p q h w ∙ le-leb (r + q) (p + s) k in
      le_trans y (rounded p q 1) z (subst T (sym t) tt) (rounds_mono binary64 (lit< tt) C (rounded_is p q 1) R l)

  fewer : NotAbove a b c (2 * p + 1) (2 * q) 2 → p + s < r + q → T (le y z) → ⊥
  fewer l k g =
      let H = rounded (2 * p + 1) (2 * q) 2 in
      let w : At H (2 * p + 1) (2 * q) 2 = rounded_half (2 * p + 1) (2 * q) (omega arith) (omega arith) in
      let t : lt H y ≡ true =
      lt_at H y (2 * p + 1) (2 * q) 2 r s 1 (lit< tt) (lit< tt) w (at_one y r s h)
      ∙ lt-ltb ((2 * p + 1) * 1 + s * 2) (r * 2 + 2 * q * 1) (omega arith) in
      clash z y (le_lt z H y (rounds_mono binary64 C (lit< tt) R (rounded_is (2 * p + 1) (2 * q) 2) l) t) g

  just_above : NotAbove p q 1 a b c → NotAbove a b c (2 * p + 1) (2 * q) 2 → leb (r + q) (p + s) ≡ le y z
  just_above l m =
      agree (leb (r + q) (p + s)) (le y z)
      (λ e. is_true (le y z) (not_less l (leb-true (r + q) (p + s) e)))
      (λ e. is_false (le y z) (not_T (le y z) (fewer m (leb-false (r + q) (p + s) e))))

-- the number less a margin of g / d
taken : (px lx dx p q g d : ℕ) → px * 1 + q * dx ≡ lx * 1 + p * dx → NotAbove (px * d + 0 * dx) (lx * d + g * dx) (dx * d) p q 1
taken px lx dx p q g d h = let k = ap (λ (z : ℕ). z * d) h in omega arith

taken_half : (px lx dx p q g d : ℕ) → 2 * g ≤ d → px * 1 + q * dx ≡ lx * 1 + p * dx
    → NotAbove (2 * p) (2 * q + 1) 2 (px * d + 0 * dx) (lx * d + g * dx) (dx * d)
taken_half px lx dx p q g d G h = let k = ap (λ (z : ℕ). z * d) h in let l = mul-le-mul_right dx G in omega arith

pub less_margin : (g x y : Float) (p q r s : ℕ) → Slight g → Whole x p q → Whole y r s → p ≤ q + 1000000 → q ≤ p + 1000000
    → le (x ⊖ g) y ≡ leb (p + s) (r + q)
unfolding sub neg
less_margin nan x y p q r s G h k u v = absurd G
less_margin (inf t) x y p q r s G h k u v = absurd G
less_margin (fin true n d) x y p q r s G h k u v = absurd G
less_margin (fin false n d) nan y p q r s G h k u v = absurd h
less_margin (fin false n d) (inf t) y p q r s G h k u v = absurd h
less_margin (fin false n d) (fin t m e) y p q r s G h k u v =
    let x = fin t m e in
    let i = at_one x p q h in
    sym
    (just_below (x ⊖ fin false n d) y (plus x * down d + 0 * down e) (less x * down d + n * up d * down e) (down e * down d)
    (mul-pos (down_pos e) (down_pos d)) (finite_sum binary64 t m e true n d) p q r s k u v
    (taken (plus x) (less x) (down e) p q (n * up d) (down d) i) (taken_half (plus x) (less x) (down e) p q (n * up d) (down d) G.1 i))

-- the number with the margin added
given : (px lx dx p q g d : ℕ) → px * 1 + q * dx ≡ lx * 1 + p * dx → NotAbove p q 1 (px * d + g * dx) (lx * d + 0 * dx) (dx * d)
given px lx dx p q g d h = let k = ap (λ (z : ℕ). z * d) h in omega arith

given_half : (px lx dx p q g d : ℕ) → 2 * g ≤ d → px * 1 + q * dx ≡ lx * 1 + p * dx
    → NotAbove (px * d + g * dx) (lx * d + 0 * dx) (dx * d) (2 * p + 1) (2 * q) 2
given_half px lx dx p q g d G h = let k = ap (λ (z : ℕ). z * d) h in let l = mul-le-mul_right dx G in omega arith

pub more_margin : (g x y : Float) (p q r s : ℕ) → Slight g → Whole x p q → Whole y r s → p ≤ q + 1000000 → q ≤ p + 1000000
    → le y (x ⊕ g) ≡ leb (r + q) (p + s)
more_margin nan x y p q r s G h k u v = absurd G
more_margin (inf t) x y p q r s G h k u v = absurd G
more_margin (fin true n d) x y p q r s G h k u v = absurd G
more_margin (fin false n d) nan y p q r s G h k u v = absurd h
more_margin (fin false n d) (inf t) y p q r s G h k u v = absurd h
more_margin (fin false n d) (fin t m e) y p q r s G h k u v =
    let x = fin t m e in
    let i = at_one x p q h in
    sym
    (just_above (x ⊕ fin false n d) y (plus x * down d + n * up d * down e) (less x * down d + 0 * down e) (down e * down d)
    (mul-pos (down_pos e) (down_pos d)) (finite_sum binary64 t m e false n d) p q r s k u v
    (given (plus x) (less x) (down e) p q (n * up d) (down d) i) (given_half (plus x) (less x) (down e) p q (n * up d) (down d) G.1 i))

-- The root of the smaller of two squares is the smaller of their roots. Assumes nothing.
use mathlib.Core.Path.{◌≡◌, refl, sym, ◌∙◌}
use mathlib.Core.Logic.{inl, inr}
use mathlib.Core.Bool.{Bool, true, false, ◌&&◌, ◌||◌, cond, or-true, or-false, true≢false}
use Prim.Native.Nat.{ℕ, zero, suc, ◌*◌, ◌≤◌}
use native.Mathlib.Omega.{arith}
use native.Mathlib.Nat.{zero-lt-suc, eq-or-lt_of_le}
use lib.IntN.{pos}
use lib.Dec.{T, ltb, eqb, lt→ltb}
use borrow.Author.Tests.{lt-ltb, le-ltb, eq-eqb, ne_eqb, ltb-false}
use lib.Ieee.{Float, nan, inf, fin, binary64, up, down, lt, eq, le, fits, is_nan}
use lib.Ieee.Bits.{of_bits-fits}
use lib.Ieee.Positive.{positive, above}
use Rattle.scalar.specs.Scalar.{smaller_of, or_number, ahead, minus_zero}
use Rattle.scalar.proofs.Zero.{zero_at}
use Rattle.square_root.specs.Root.{sqrt_of}
use Rattle.square_root.specs.Nearest.{Nearest}
use Rattle.laws.proofs.Order.{le_of_lt}
use Rattle.square_root.proofs.Numbers.{lt_or_le}
use Rattle.square_root.proofs.Compare.{zero_lt, sqrt_zero, sqrt_infinity}
use Rattle.square_root.proofs.Above.{same_above}
use Rattle.square_root.proofs.Patterns.{positive_at}
use Rattle.square_root.proofs.Order.{root_is, sqrt_mono}
use Rattle.square_root.proofs.Laws.{root_nearest}
use Rattle.plane.specs.Vector.{root}
use Rattle.ring_distance.specs.Squared.{nearer_of, sign, Square, Squares}

-- ---- a square is a zero, finite and above zero, or the infinity

data Size : Float → Type 0 where
  nothing : Size (fin false 0 (pos 0))
  number : {x : Float} → T (positive x) → Size x
  infinite : Size (inf false)

size : (x : Float) → Square x → Size x
unfolding is_nan
size nan S = absurd (true≢false S.number)
size (inf true) S = absurd (true≢false S.plus)
size (inf false) S = infinite
size (fin true m e) S = absurd (true≢false S.plus)
size (fin false zero e) S = rw (zero_at false e S.held) nothing
size (fin false (suc m) e) S = number (lt→ltb 0 (suc m) (zero-lt-suc m))

-- ---- the order of squares

zero_square : Square (fin false 0 (pos 0))
zero_square = record { held = unfold fits in tt; number = unfold is_nan in refl; plus = refl }

pub infinite_square : Square (inf false)
infinite_square = record { held = unfold fits in tt; number = unfold is_nan in refl; plus = refl }

-- not below is no more
le_of_not : (x y : Float) → Square x → Square y → lt y x ≡ false → T (le x y)
unfolding le lt eq is_nan
le_of_not nan y S R h = absurd (true≢false S.number)
le_of_not (inf true) y S R h = absurd (true≢false S.plus)
le_of_not (inf false) nan S R h = absurd (true≢false R.number)
le_of_not (inf false) (inf true) S R h = absurd (true≢false R.plus)
le_of_not (inf false) (inf false) S R h = tt
le_of_not (inf false) (fin t n d) S R h = absurd (true≢false h)
le_of_not (fin s m e) nan S R h = absurd (true≢false R.number)
le_of_not (fin s m e) (inf true) S R h = absurd (true≢false R.plus)
le_of_not (fin s m e) (inf false) S R h = tt
le_of_not (fin true m e) (fin t n d) S R h = absurd (true≢false S.plus)
le_of_not (fin false m e) (fin true n d) S R h = absurd (true≢false R.plus)
le_of_not (fin false m e) (fin false n d) S R h = level (m * up e * down d) (n * up d * down e) (ltb-false _ _ h)
  where
    level : (a b : ℕ) → a ≤ b → T (ltb a b || (eqb a b && true))
    level a b l = elim (eq-or-lt_of_le l) [
      | inl e ↦ rw (eq-eqb a b e, or-true (ltb a b)) tt
      | inr g ↦ rw (lt-ltb a b g) tt
    ]

not_of_le : (x y : Float) → Square x → Square y → T (le x y) → lt y x ≡ false
unfolding le lt eq is_nan
not_of_le nan y S R h = absurd (true≢false S.number)
not_of_le (inf true) y S R h = absurd (true≢false S.plus)
not_of_le (inf false) nan S R h = absurd h
not_of_le (inf false) (inf true) S R h = absurd h
not_of_le (inf false) (inf false) S R h = refl
not_of_le (inf false) (fin t n d) S R h = absurd h
not_of_le (fin true m e) y S R h = absurd (true≢false S.plus)
not_of_le (fin false m e) nan S R h = absurd h
not_of_le (fin false m e) (inf true) S R h = absurd h
not_of_le (fin false m e) (inf false) S R h = refl
not_of_le (fin false m e) (fin true n d) S R h = absurd (true≢false R.plus)
not_of_le (fin false m e) (fin false n d) S R h = level (m * up e * down d) (n * up d * down e) h
  where
    level : (a b : ℕ) → T (ltb a b || (eqb a b && true)) → ltb b a ≡ false
    level a b l = elim (lt_or_le b a) [
      | inl g ↦ absurd (rw (le-ltb a b (omega arith), ne_eqb a b (λ q. omega arith)) at l)
      | inr g ↦ le-ltb b a g
    ]

over : (x : Float) → T (positive x) → T (above x)
over nan p = absurd p
over (inf s) p = absurd p
over (fin true m e) p = absurd p
over (fin false m e) p = p

under_infinity : lt (fin false 0 (pos 0)) (inf false) ≡ true
unfolding lt
under_infinity = refl

-- neither below the other: the same
same_by : (x y : Float) → Size x → Size y → Square x → Square y → lt x y ≡ false → lt y x ≡ false → x ≡ y
same_by x y nothing nothing S R h k = refl
same_by x y nothing (number q) S R h k = absurd (true≢false (sym (zero_lt false (pos 0) y q) ∙ h))
same_by x y nothing infinite S R h k = absurd (true≢false (sym under_infinity ∙ h))
same_by x y (number p) nothing S R h k = absurd (true≢false (sym (zero_lt false (pos 0) x p) ∙ k))
same_by x y (number p) (number q) S R h k = same_above x y S.held R.held (over x p) (over y q) h k
same_by x y (number p) infinite S R h k = same_above x y S.held R.held (over x p) tt h k
same_by x y infinite nothing S R h k = absurd (true≢false (sym under_infinity ∙ k))
same_by x y infinite (number q) S R h k = same_above x y S.held R.held tt (over y q) h k
same_by x y infinite infinite S R h k = refl

pub same : (x y : Float) → Square x → Square y → lt x y ≡ false → lt y x ≡ false → x ≡ y
same x y S R h k = same_by x y (size x S) (size y R) S R h k

zero_le : (x : Float) → Size x → T (le (fin false 0 (pos 0)) x)
zero_le x nothing = unfold le in tt
zero_le x (number p) = le_of_lt (fin false 0 (pos 0)) x (zero_lt false (pos 0) x p)
zero_le x infinite = unfold le in tt

-- ---- roots of squares

positive_square : (x : Float) → T (fits binary64 x) → T (positive x) → Square x
unfolding is_nan
positive_square nan F p = absurd p
positive_square (inf s) F p = absurd p
positive_square (fin true m e) F p = absurd p
positive_square (fin false m e) F p = record { held = F; number = refl; plus = refl }

nearest_square : (n : ℕ) (r : Float) → Nearest n r → Square r
nearest_square n r N =
    rw N.is (positive_square _ (of_bits-fits binary64 N.bits) (positive_at N.bits N.some N.finite))

root_square_by : (x : Float) → Size x → T (fits binary64 x) → Square (root x)
root_square_by x nothing F = rw (sqrt_zero false (pos 0)) zero_square
root_square_by x (number p) F =
    let N = root_nearest x (root x) F p (root_is x F (root x) refl) in
    nearest_square N.0 (root x) N.3
root_square_by x infinite F = rw sqrt_infinity infinite_square

root_square : (x : Float) → Square x → Square (root x)
root_square x S = root_square_by x (size x S) S.held

-- what is not below has no smaller root
root_not : (x y : Float) → Square x → Square y → lt y x ≡ false → lt (root y) (root x) ≡ false
root_not x y S R h =
    not_of_le (root x) (root y) (root_square x S) (root_square y R)
    (sqrt_mono x y S.held R.held (zero_le x (size x S)) (le_of_not x y S R h))

-- ---- the smaller of two squares

no_minus_zero : (x : Float) → sign x ≡ false → minus_zero x ≡ false
unfolding minus_zero
no_minus_zero nan h = refl
no_minus_zero (inf s) h = refl
no_minus_zero (fin s zero e) h = h
no_minus_zero (fin s (suc m) e) h = refl

both_numbers : (a b c : Float) → is_nan a ≡ false → is_nan b ≡ false → or_number a b c ≡ c
unfolding or_number is_nan
both_numbers nan b c h k = absurd (true≢false h)
both_numbers (inf s) nan c h k = absurd (true≢false k)
both_numbers (fin s m e) nan c h k = absurd (true≢false k)
both_numbers (inf s) (inf t) c h k = refl
both_numbers (inf s) (fin t n d) c h k = refl
both_numbers (fin s m e) (inf t) c h k = refl
both_numbers (fin s m e) (fin t n d) c h k = refl

smaller_nan : (a : Float) → is_nan a ≡ false → smaller_of a nan ≡ a
unfolding smaller_of or_number is_nan
smaller_nan nan h = absurd (true≢false h)
smaller_nan (inf s) h = refl
smaller_nan (fin s m e) h = refl

smaller_is : (a b : Float) → Square a → Square b → smaller_of a b ≡ nearer_of a b
unfolding smaller_of ahead
smaller_is a b S R =
    both_numbers a b _ S.number R.number ∙ rw (no_minus_zero b R.plus, or-false (lt b a))

-- the root of the smaller is the smaller of the roots
root_smaller : (a s : Float) → Square a → Square s → root (nearer_of a s) ≡ nearer_of (root a) (root s)
root_smaller a s S R = by (lt s a) refl (lt (root s) (root a)) refl
  where
    by : (b : Bool) → lt s a ≡ b → (d : Bool) → lt (root s) (root a) ≡ d → root (cond b s a) ≡ cond d (root s) (root a)
    by true h true k = refl
    by true h false k =
        let g = not_of_le s a R S (le_of_lt s a h) in
        same (root s) (root a) (root_square s R) (root_square a S) k (root_not s a R S g)
    by false h true k = absurd (true≢false (sym k ∙ root_not a s S R h))
    by false h false k = refl

-- ---- a least and a new one, which may be a NaN

nearer_square : (a s : Float) → Square a → Square s → Square (nearer_of a s)
nearer_square a s S R = by (lt s a)
  where
    by : (b : Bool) → Square (cond b s a)
    by true = R
    by false = S

nearer_number : (a s : Float) → Square a → Square s → Squares (nearer_of a s) (smaller_of (root a) (root s))
nearer_number a s S R =
    record {
      square = nearer_square a s S R;
      is = root_smaller a s S R ∙ sym (smaller_is (root a) (root s) (root_square a S) (root_square s R));
    }

pub nearer_squares : (a s : Float) → Square a → T (fits binary64 s) → sign s ≡ false
    → Squares (nearer_of a s) (smaller_of (root a) (root s))
unfolding lt sqrt_of is_nan
nearer_squares a nan S F h = record { square = S; is = sym (smaller_nan (root a) (root_square a S).number) }
nearer_squares a (inf t) S F h = nearer_number a (inf t) S (record { held = F; number = refl; plus = h })
nearer_squares a (fin t n d) S F h = nearer_number a (fin t n d) S (record { held = F; number = refl; plus = h })

pub nearer_root : {a s r q : Float} → Squares a r → Squares s q → root (nearer_of a s) ≡ smaller_of r q
nearer_root {a} {s} A S = (nearer_number a s A.square S.square).is ∙ rw (A.is, S.is)

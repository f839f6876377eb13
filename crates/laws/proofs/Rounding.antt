-- Rounding in the order of all finite values: a result of the format is the rounding of a difference of parts (`Rounds`),
-- and of two the one of the smaller difference is not above the other. Assumes nothing.
use Prim.Native.Nat.{ℕ, zero, suc, ◌+◌, ◌-◌, ◌*◌, ◌^◌, ◌≤◌, ◌<◌}
use native.Mathlib.Omega.{arith}
use native.Mathlib.Nat.{mul-pos, mul-le-mul_right, eq-zero-or-pos}
use mathlib.Core.Path.{◌≡◌, refl, sym, ap, ◌∙◌, subst}
use mathlib.Core.Logic.{inl, inr}
use mathlib.Core.Bool.{Bool, true, false, not, cond}
use lib.IntN.{ℤ}
use lib.Dec.{T, ltb, ltb→lt, nltb→le}
use lib.Ieee.{Float, inf, fin, Format, binary32, prec, emax, low, binary64, up, down, odd, units, round, sum, add, neg, le}
use lib.Ieee.Fits.{down_pos, round_is}
use lib.Ieee.Order.{round_mono}
use lib.Ieee.Scale.{round_same}
use lib.Ieee.Positive.{den}
use Rattle.laws.proofs.Parts.{plus, less, NotAbove, parts_of_le}
use Rattle.laws.proofs.Plain.{round_plain, minus_below, turned}

-- ---- a result with its sign changed

odd_minus : (d q k l : ℕ) → odd d true q k l ≡ neg (odd d false q k l)
unfolding odd neg
odd_minus d zero k l = refl
odd_minus d (suc q) k l = refl

units_minus : (f : Format) (q k : ℕ) → units f true q k ≡ neg (units f false q k)
unfolding units
units_minus f q k = by (ltb (q * 2 ^ k) (2 ^ (low f + suc (emax f))))
  where
    by : (b : Bool) → cond b (odd (suc (prec f)) true q k (low f)) (inf true) ≡ neg (cond b (odd (suc (prec f)) false q k (low f)) (inf false))
    by true = odd_minus (suc (prec f)) q k (low f)
    by false = unfold neg in refl

pub round_minus : (f : Format) (a c : ℕ) → round f true a c ≡ neg (round f false a c)
round_minus f a c = round_is f true a c ∙ units_minus f _ _ ∙ ap neg (sym (round_is f false a c))

-- ---- rounding

pub data Rounds (f : Format) : Float → ℕ → ℕ → ℕ → Type 0 where
  upward : (p n c u : ℕ) → p ≡ n + u → Rounds f (round f false u c) p n c
  downward : (p n c u : ℕ) → n ≡ p + u → Rounds f (round f true u c) p n c

-- a zero is not above a zero
zeros_at_one : (f : Format) → T (le (round f false 0 1) (round f true 0 1))
unfolding le round
zeros_at_one binary32 = tt
zeros_at_one binary64 = tt

zeros : (f : Format) (c d : ℕ) → 0 < c → 0 < d → T (le (round f false 0 c) (round f true 0 d))
zeros f c d C D = rw (round_same f false 0 c 0 1 C (omega arith) (omega arith), round_same f true 0 d 0 1 D (omega arith) (omega arith)) (zeros_at_one f)

-- what is left of both sides where n and o are taken away
left_over : (u n c v o d : ℕ) → (n + u) * d + o * c ≤ (o + v) * c + n * d → u * d ≤ v * c
left_over u n c v o d l = omega arith

differ : (p n c u q o d v : ℕ) → p ≡ n + u → q ≡ o + v → NotAbove p n c q o d → u * d ≤ v * c
differ p n c u q o d v h k l =
    left_over u n c v o d (subst (λ (z : ℕ). z * d + o * c ≤ (o + v) * c + n * d) h (subst (λ (z : ℕ). p * d + o * c ≤ z * c + n * d) k l))

-- what is above zero is not above what is below it, unless both are nothing
nothing : (u n c v q d : ℕ) → (n + u) * d + (q + v) * c ≤ q * c + n * d → u * d + v * c ≡ 0
nothing u n c v q d l = omega arith

no_factor : (u e : ℕ) → 0 < e → u * e ≡ 0 → u ≡ 0
no_factor u e E z = elim (eq-zero-or-pos u) [ inl w ↦ w | inr w ↦ absurd (let g = mul-pos w E in omega arith) ]

level : (p n c u q o d v : ℕ) → 0 < c → 0 < d → p ≡ n + u → o ≡ q + v → NotAbove p n c q o d → (u ≡ 0) × (v ≡ 0)
level p n c u q o d v C D h k l =
    let z = nothing u n c v q d (subst (λ (x : ℕ). x * d + (q + v) * c ≤ q * c + n * d) h (subst (λ (x : ℕ). p * d + x * c ≤ q * c + n * d) k l)) in
    (no_factor u d D (omega arith), no_factor v c C (omega arith))

pub rounds_mono : (f : Format) {x y : Float} {p n c q o d : ℕ} → 0 < c → 0 < d
    → Rounds f x p n c → Rounds f y q o d → NotAbove p n c q o d → T (le x y)
rounds_mono f C D (upward p n c u h) (upward q o d v k) l = round_mono f u c v d C D (differ p n c u q o d v h k l)
rounds_mono f C D (downward p n c u h) (downward q o d v k) l =
    rw (round_minus f u c, round_minus f v d)
    (turned (round_plain f v d) (round_plain f u c) (round_mono f v d u c D C (differ o q d v n p c u k h (omega (arith, l)))))
rounds_mono f C D (downward p n c u h) (upward q o d v k) l = rw (round_minus f u c) (minus_below (round_plain f u c) (round_plain f v d))
rounds_mono f C D (upward p n c u h) (downward q o d v k) l = let z = level p n c u q o d v C D h k l in rw (z.0, z.1) (zeros f c d C D)

-- ---- sums and products of finite values

sum_rounds : (f : Format) (s : Bool) (a : ℕ) (t : Bool) (b c : ℕ) → Rounds f (sum f s a t b c) (cond s 0 a + cond t 0 b) (cond s a 0 + cond t b 0) c
unfolding sum
sum_rounds f false a false b c = upward (a + b) 0 c (a + b) (omega arith)
sum_rounds f true a true b c = downward 0 (a + b) c (a + b) (omega arith)
sum_rounds f false a true b c = by (ltb a b) (ltb→lt a b) (nltb→le a b)
  where
    by : (t : Bool) → (T t → a < b) → (T (not t) → b ≤ a) → Rounds f (cond t (round f true (b - a) c) (round f false (a - b) c)) (a + 0) (0 + b) c
    by true u v = downward (a + 0) (0 + b) c (b - a) (let h = u tt in omega arith)
    by false u v = upward (a + 0) (0 + b) c (a - b) (let h = v tt in omega arith)
sum_rounds f true a false b c = by (ltb a b) (ltb b a) (ltb→lt a b) (nltb→le a b) (nltb→le b a)
  where
    by : (t r : Bool) → (T t → a < b) → (T (not t) → b ≤ a) → (T (not r) → a ≤ b)
        → Rounds f (cond t (round f false (b - a) c) (round f r (a - b) c)) (0 + b) (a + 0) c
    by true r u v w = upward (0 + b) (a + 0) c (b - a) (let h = u tt in omega arith)
    by false true u v w = downward (0 + b) (a + 0) c (a - b) (let h = v tt in omega arith)
    by false false u v w = upward (0 + b) (a + 0) c (a - b) (let h = v tt in let k = w tt in omega arith)

written : (f : Format) (x : Float) (p n q o c : ℕ) → p ≡ q → n ≡ o → Rounds f x p n c → Rounds f x q o c
written f x p n q o c h k r = subst (λ (z : ℕ). Rounds f x z o c) h (subst (λ (z : ℕ). Rounds f x p z c) k r)

-- by the parts of both
pub finite_sum : (f : Format) (s : Bool) (m : ℕ) (e : ℤ) (t : Bool) (n : ℕ) (d : ℤ) →
    let x = fin s m e in
    let y = fin t n d in
    Rounds f (add f x y) (plus x * den y + plus y * den x) (less x * den y + less y * den x) (den x * den y)
unfolding add
finite_sum f s m e t n d =
    written f _ _ _ _ _ _ (by_plus s t) (by_less s t) (sum_rounds f s (m * up e * down d) t (n * up d * down e) (down e * down d))
  where
    by_plus : (s t : Bool) → cond s 0 (m * up e * down d) + cond t 0 (n * up d * down e) ≡ plus (fin s m e) * down d + plus (fin t n d) * down e
    by_plus false false = refl
    by_plus false true = omega arith
    by_plus true false = omega arith
    by_plus true true = omega arith

    by_less : (s t : Bool) → cond s (m * up e * down d) 0 + cond t (n * up d * down e) 0 ≡ less (fin s m e) * down d + less (fin t n d) * down e
    by_less true true = refl
    by_less false true = omega arith
    by_less true false = omega arith
    by_less false false = omega arith

-- ---- a sum grows with what is added to

grown : (p n c q o d r k b : ℕ) → NotAbove p n c q o d
    → NotAbove (p * b + r * c) (n * b + k * c) (c * b) (q * b + r * d) (o * b + k * d) (d * b)
grown p n c q o d r k b l = let z = mul-le-mul_right (b * b) l in omega arith

pub finite_mono : (f : Format) (s : Bool) (m : ℕ) (e : ℤ) (t : Bool) (n : ℕ) (d : ℤ) (r : Bool) (k : ℕ) (b : ℤ) →
    T (le (fin s m e) (fin t n d)) → T (le (add f (fin s m e) (fin r k b)) (add f (fin t n d) (fin r k b)))
finite_mono f s m e t n d r k b h =
    let x = fin s m e in
    let y = fin t n d in
    let z = fin r k b in
    rounds_mono f (mul-pos (down_pos e) (down_pos b)) (mul-pos (down_pos d) (down_pos b)) (finite_sum f s m e r k b) (finite_sum f t n d r k b)
    (grown (plus x) (less x) (den x) (plus y) (less y) (den y) (plus z) (less z) (den z) (parts_of_le s m e t n d h))

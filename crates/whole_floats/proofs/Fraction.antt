-- Floats as fractions of whole numbers: `At x p q c` says that x is finite and is (p - q) / c. Their order is that of the
-- fractions, and a rounding of a fraction over 1 or 2 is that fraction as long as it has no more digits than are kept.
-- Assumes nothing.
use Prim.Native.Nat.{ℕ, ◌+◌, ◌-◌, ◌*◌, ◌^◌, ◌≤◌, ◌<◌}
use native.Mathlib.Omega.{arith}
use native.Mathlib.Nat.{le_of_mul-le-mul_right, lt_of_mul-lt-mul_right, mul-le-mul_right, mul-lt-mul_of_pos_right, mul_assoc, pow-suc, lt_of_lt_of_le}
use mathlib.Core.Path.{◌≡◌, refl, sym, ap, ◌∙◌, subst}
use mathlib.Core.Bool.{Bool, true, false, not, true≢false}
use lib.IntN.{ℤ}
use lib.Dec.{ltb, leb, not_T, lit≤, lit<}
use lib.Pow.{shl_lt, pow_mono}
use lib.Ieee.{Float, nan, inf, fin, up, down, binary64, round, lt, le}
use lib.Ieee.Fits.{down_pos}
use lib.Ieee.Bits.{is_true, is_false}
use lib.Ieee.Exact.{HasValue, round_exact}
use lib.Ieee.Back.{round_whole}
use lib.Ieee.Scale.{round_same}
use lib.Ieee.Positive.{den}
use borrow.Author.Tests.{ltb-true, ltb-false, not-true, not-false, lt-ltb, le-ltb, lt-leb, le-leb}
use Rattle.laws.proofs.Parts.{plus, less}
use Rattle.laws.proofs.Order.{not_above, clash}
use Rattle.laws.proofs.Rounding.{Rounds, upward, downward}
use Rattle.whole_floats.specs.Whole.{Whole}

-- x is (p - q) / c
abbrev pub At : Float → ℕ → ℕ → ℕ → Type 0
At nan p q c = ⊥
At (inf s) p q c = ⊥
At (fin s m e) p q c = plus (fin s m e) * c + q * down e ≡ less (fin s m e) * c + p * down e

-- a whole number is a fraction over 1
pub at_one : (x : Float) (p q : ℕ) → Whole x p q → At x p q 1
at_one nan p q h = h
at_one (inf s) p q h = h
at_one (fin false m e) p q h = omega (arith, h)
at_one (fin true m e) p q h = omega (arith, h)

pub of_one : (x : Float) (p q : ℕ) → At x p q 1 → Whole x p q
of_one nan p q h = h
of_one (inf s) p q h = h
of_one (fin false m e) p q h = omega (arith, h)
of_one (fin true m e) p q h = omega (arith, h)

-- ---- the order

-- two tests that pass and fail together
pub agree : (a b : Bool) → (a ≡ true → b ≡ true) → (a ≡ false → b ≡ false) → a ≡ b
agree true b t f = sym (t refl)
agree false b t f = sym (f refl)

pub same_ltb : {a b c d : ℕ} → a ≡ c → b ≡ d → ltb a b ≡ ltb c d
same_ltb h k = rw (h, k)

lt_parts : (s : Bool) (m : ℕ) (e : ℤ) (t : Bool) (n : ℕ) (d : ℤ) →
    let x = fin s m e in
    let y = fin t n d in
    lt x y ≡ ltb (plus x * den y + less y * den x) (plus y * den x + less x * den y)
unfolding lt
lt_parts false m e false n d =
    let h : m * up e * down d ≡ m * up e * down d + 0 * down e = omega arith in
    let k : n * up d * down e ≡ n * up d * down e + 0 * down d = omega arith in
    same_ltb h k
lt_parts false m e true n d = sym (le-ltb (m * up e * down d + n * up d * down e) (0 * down e + 0 * down d) (omega arith))
lt_parts true m e false n d =
    let h : 0 ≡ 0 * down d + 0 * down e = omega arith in
    let k : m * up e * down d + n * up d * down e ≡ n * up d * down e + m * up e * down d = omega arith in
    same_ltb h k
lt_parts true m e true n d =
    let h : n * up d * down e ≡ 0 * down d + n * up d * down e = omega arith in
    let k : m * up e * down d ≡ 0 * down e + m * up e * down d = omega arith in
    same_ltb h k

-- two differences of the same sign: (a - b) * k is (c - d) * l
pub alike : (a b c d k l : ℕ) → 0 < k → 0 < l → a * k + d * l ≡ b * k + c * l → ltb a b ≡ ltb c d
alike a b c d k l K L h =
    agree (ltb a b) (ltb c d)
    (λ t. lt-ltb c d (lt_of_mul-lt-mul_right l (let u = mul-lt-mul_of_pos_right (ltb-true a b t) K in omega arith)))
    (λ f. le-ltb c d (le_of_mul-le-mul_right {k = l} (let u = mul-le-mul_right k (ltb-false a b f) in omega arith) L))

-- one of two values by its fraction in the place of its parts
crossed : (px lx dx p q c y z d : ℕ) → 0 < c → 0 < dx → px * c + q * dx ≡ lx * c + p * dx
    → ltb (px * d + z * dx) (y * dx + lx * d) ≡ ltb (p * d + z * c) (y * c + q * d)
crossed px lx dx p q c y z d C D h =
    alike (px * d + z * dx) (y * dx + lx * d) (p * d + z * c) (y * c + q * d) c dx C D
    (let g = ap (λ (i : ℕ). i * d) h in omega arith)

exchanged : (py ly dy r s d p q c : ℕ) → 0 < d → 0 < dy → py * d + s * dy ≡ ly * d + r * dy
    → ltb (p * dy + ly * c) (py * c + q * dy) ≡ ltb (p * d + s * c) (r * c + q * d)
exchanged py ly dy r s d p q c D Y h =
    alike (p * dy + ly * c) (py * c + q * dy) (p * d + s * c) (r * c + q * d) d dy D Y
    (let g = ap (λ (i : ℕ). i * c) h in omega arith)

pub lt_at : (x y : Float) (p q c r s d : ℕ) → 0 < c → 0 < d → At x p q c → At y r s d → lt x y ≡ ltb (p * d + s * c) (r * c + q * d)
lt_at nan y p q c r s d C D h k = absurd h
lt_at (inf s) y p q c r t d C D h k = absurd h
lt_at (fin s m e) nan p q c r t d C D h k = absurd k
lt_at (fin s m e) (inf t) p q c r u d C D h k = absurd k
lt_at (fin s m e) (fin t n i) p q c r u d C D h k =
    let x = fin s m e in
    let y = fin t n i in
    lt_parts s m e t n i
    ∙ crossed (plus x) (less x) (down e) p q c (plus y) (less y) (down i) C (down_pos e) h
    ∙ exchanged (plus y) (less y) (down i) r u d p q c D (down_pos i) k

-- among finite values one that is not above another is what the other is not less than
not_less : (s : Bool) (m : ℕ) (e : ℤ) (t : Bool) (n : ℕ) (d : ℤ) → not (lt (fin t n d) (fin s m e)) ≡ le (fin s m e) (fin t n d)
not_less s m e t n d =
    let x = fin s m e in
    let y = fin t n d in
    agree (not (lt y x)) (le x y)
    (λ h. is_true (le x y) (not_above t n d s m e (not-true (lt y x) h)))
    (λ h. is_false (le x y) (not_T (le x y) (clash y x (not-false (lt y x) h))))

pub not_ltb : (a b : ℕ) → not (ltb a b) ≡ leb b a
not_ltb a b =
    agree (not (ltb a b)) (leb b a)
    (λ h. le-leb b a (ltb-false a b (not-true (ltb a b) h)))
    (λ h. lt-leb b a (ltb-true a b (not-false (ltb a b) h)))

pub le_at : (x y : Float) (p q c r s d : ℕ) → 0 < c → 0 < d → At x p q c → At y r s d → le x y ≡ leb (p * d + s * c) (r * c + q * d)
le_at nan y p q c r s d C D h k = absurd h
le_at (inf s) y p q c r t d C D h k = absurd h
le_at (fin s m e) nan p q c r t d C D h k = absurd k
le_at (fin s m e) (inf t) p q c r u d C D h k = absurd k
le_at (fin s m e) (fin t n i) p q c r u d C D h k =
    sym (not_less s m e t n i)
    ∙ ap not (lt_at (fin t n i) (fin s m e) r u d p q c D C k h)
    ∙ not_ltb (r * c + q * d) (p * d + u * c)

-- ---- roundings that change nothing

-- a rounding of a fraction u / c that is w / D, for a w up to B
abbrev pub Kept : ℕ → ℕ → Type 0
Kept D B = (s : Bool) (u c w : ℕ) → 0 < c → u * D ≡ w * c → w ≤ B → HasValue (round binary64 s u c) s w D

pub wholes_kept : Kept 1 (2 ^ 53)
wholes_kept s u c w C h l =
    subst (λ (x : Float). HasValue x s w 1) (sym (round_same binary64 s u c w 1 C (lit< tt) h)) (round_whole binary64 s w l)

pub halves_kept : Kept 2 (2 ^ 52)
halves_kept s u c w C h l =
    subst (λ (x : Float). HasValue x s w 2) (sym (round_same binary64 s u c w 2 C (lit< tt) h))
    (round_exact binary64 s w 2 w 1073 (lit< tt) (small l)
    (lt_of_lt_of_le (shl_lt 53 1073 (small l)) (pow_mono {i = 53 + 1073} {j = 1074 + 1024} (lit≤ tt))) (twice w))
  where
    small : w ≤ 2 ^ 52 → w < 2 ^ 53
    small k = omega (arith, k)

    twice : (w : ℕ) → w * 2 ^ 1074 ≡ w * 2 ^ 1073 * 2
    twice w = ap (λ (z : ℕ). w * z) (pow-suc 2 1073) ∙ sym (mul_assoc w (2 ^ 1073) 2)

-- from the value w / D to a difference over D
up_at : (x : Float) (w P Q D : ℕ) → HasValue x false w D → P ≡ Q + w → At x P Q D
up_at nan w P Q D v h = v
up_at (inf s) w P Q D v h = v
up_at (fin true m e) w P Q D v h = absurd (true≢false v.0)
up_at (fin false m e) w P Q D v h = let k = ap (λ (z : ℕ). z * down e) h in let g = v.1 in omega arith

down_at : (x : Float) (w P Q D : ℕ) → HasValue x true w D → Q ≡ P + w → At x P Q D
down_at nan w P Q D v h = v
down_at (inf s) w P Q D v h = v
down_at (fin false m e) w P Q D v h = absurd (true≢false (sym v.0))
down_at (fin true m e) w P Q D v h = let k = ap (λ (z : ℕ). z * down e) h in let g = v.1 in omega arith

-- (P - Q) / D is u / c, so that P is not below Q
reaches : (u c P Q D : ℕ) → 0 < c → u * D + Q * c ≡ P * c → Q ≤ P
reaches u c P Q D C h = le_of_mul-le-mul_right {k = c} (omega (arith, h)) C

lengths : (u c P Q D : ℕ) → Q ≤ P → u * D + Q * c ≡ P * c → u * D ≡ (P - Q) * c
lengths u c P Q D l h =
    let e : P ≡ Q + (P - Q) = omega arith in
    let k = ap (λ (z : ℕ). z * c) e in
    omega arith

left_over : (p n u c P Q D : ℕ) → p ≡ n + u → p * D + Q * c ≡ n * D + P * c → u * D + Q * c ≡ P * c
left_over p n u c P Q D h g = let k = ap (λ (z : ℕ). z * D) h in omega arith

pub rounds_at : (D B : ℕ) → Kept D B → {x : Float} {p n c : ℕ} (P Q : ℕ) → 0 < c → Rounds binary64 x p n c
    → p * D + Q * c ≡ n * D + P * c → P ≤ Q + B → Q ≤ P + B → At x P Q D
rounds_at D B keep P Q C (upward p n c u h) g a b =
    let k = left_over p n u c P Q D h g in
    let l = reaches u c P Q D C k in
    up_at (round binary64 false u c) (P - Q) P Q D (keep false u c (P - Q) C (lengths u c P Q D l k) (omega arith)) (omega arith)
rounds_at D B keep P Q C (downward p n c u h) g a b =
    let k = left_over n p u c Q P D h (sym g) in
    let l = reaches u c Q P D C k in
    down_at (round binary64 true u c) (Q - P) P Q D (keep true u c (Q - P) C (lengths u c Q P D l k) (omega arith)) (omega arith)

-- A root on its way. Its digits are found down to the place p: n is q * q + r * p, where the r left over is less than
-- one more at p would take. And how two digits more are found, by three trials. Assumes nothing.
use mathlib.Core.Path.{◌≡◌}
use mathlib.Core.Logic.{inl, inr}
use Prim.Native.Nat.{ℕ, ◌+◌, ◌-◌, ◌*◌, ◌^◌, ◌<◌}
use native.Mathlib.Omega.{arith}
use Rattle.square_root.specs.Root.{WholeRoot, Pair, Further, takes}
use Rattle.square_root.proofs.Numbers.{side_lt}

pub record Found (n p q r : ℕ) : Type 0 where
  pub all : q * q + r * p ≡ n
  pub under : r < takes q p 1

-- ---- two digits more

-- with d at the place p, which leave s
module _ (n q p d s : ℕ) where
  with_digits : q * q + (takes q p d + s) * p ≡ n → takes q p d + s < takes q p (d + 1) → Found n p (q + d * p) s
  with_digits all under = record { all = omega arith; under = omega arith }

pub next_found : (n q p r q' t : ℕ) → Found n (4 * p) q r → Pair q (4 * r) p q' t → Found n p q' (4 * r - t)
next_found n q p r q' t f w =
    let s = 4 * r - t in
    let e : 4 * r ≡ takes q p w.d + s = omega arith in
    rw w.root (with_digits n q p w.d s (rw (← e) (omega arith)) (rw (← e) w.largest))

-- ---- the three trials: with d at the place p, x is the root and u is what it takes

abbrev Trial : (q p d x u : ℕ) → Type 0
Trial q p d x u = (x ≡ q + d * p) × (u ≡ takes q p d)

module _ (q r p : ℕ) (top : r < takes q p 4) where
  pub tried : {x u y v z w q₁ t₁ q₂ t₂ q' t : ℕ} → Trial q p 1 x u → Trial q p 2 y v → Trial q p 3 z w
      → Further q 0 r x u q₁ t₁ → Further q₁ t₁ r y v q₂ t₂ → Further q₂ t₂ r z w q' t → Pair q r p q' t
  tried a b c f g (inl h) =
      record { d = 3; root = omega arith; taken = omega arith; held = omega arith; largest = omega arith }
  tried a b c f (inl g) (inr h) =
      record { d = 2; root = omega arith; taken = omega arith; held = omega arith; largest = omega arith }
  tried a b c (inl f) (inr g) (inr h) =
      record { d = 1; root = omega arith; taken = omega arith; held = omega arith; largest = omega arith }
  tried a b c (inr f) (inr g) (inr h) =
      record { d = 0; root = omega arith; taken = omega arith; held = omega arith; largest = omega arith }

-- ---- the end

pub short : {n p q r : ℕ} → n < 2 ^ 54 * 2 ^ 54 → Found n p q r → q < 2 ^ 54
short {n} {p} {q} {r} h f = side_lt (omega (arith, f.all))

pub done : (n q r : ℕ) → Found n 1 q r → WholeRoot n q
done n q r f = omega arith

pub square : (n p q : ℕ) → Found n p q 0 → WholeRoot n q
square n p q f = omega arith

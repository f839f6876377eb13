-- One leg after the other: those that are left decide, deepened by what was found before. Assumes nothing.
use Prim.Native.Nat.{ℕ, zero, suc, ◌+◌, ◌-◌, ◌≤◌, ◌<◌, max}
use native.Mathlib.Nat.{zero-max, max-zero, le-max_left, le-max_right, max-le, le_antisymm, le_trans}
use native.Mathlib.Numerals.{add-one}
use native.Mathlib.Omega.{arith}
use mathlib.Core.Path.{◌≡◌, refl, sym, ap, ap₂}
use Rattle.drawn_aside.specs.Found.{Least, clear_by, edge_first, enclosed_by, depth_of}
use Rattle.clear_drawn_path.specs.Path.{deepened, leg_then, legs_from}
use Rattle.clear_drawn_path.specs.declared.PathFound.{PathFound}
use Rattle.clear_drawn_path.specs.declared.PathFound.TheVariants.{Clear, Edge, Enclosed}

-- ---- depths

deeper_twice : (a b c : ℕ) → max a (max b c) ≡ max (max a b) c
deeper_twice a b c =
    le_antisymm
    (max-le (le_trans (le-max_left a b) (le-max_left (max a b) c))
    (max-le (le_trans (le-max_right a b) (le-max_left (max a b) c)) (le-max_right (max a b) c)))
    (max-le (max-le (le-max_left a (max b c)) (le_trans (le-max_left b c) (le-max_right a (max b c))))
    (le_trans (le-max_right b c) (le-max_right a (max b c))))

deepened_none : (p : PathFound) → deepened 0 p ≡ p
unfolding deepened
deepened_none (Clear d) = ap Clear (zero-max d)
deepened_none (Edge leg edge) = refl
deepened_none (Enclosed leg) = refl

deepened_twice : (a b : ℕ) (p : PathFound) → deepened a (deepened b p) ≡ deepened (max a b) p
unfolding deepened
deepened_twice a b (Clear d) = ap Clear (deeper_twice a b d)
deepened_twice a b (Edge leg edge) = refl
deepened_twice a b (Enclosed leg) = refl

-- ---- the loop

pub all_left : (f : ℕ → Least) (n : ℕ) → legs_from f 0 n ≡ deepened 0 (legs_from f 0 (n - 0))
all_left f n = let e : n - 0 ≡ n = omega arith in rw e (sym (deepened_none (legs_from f 0 n)))

module _ (f : ℕ → Least) (d k n : ℕ) where
  one_less : k < n → n - k ≡ suc (n - (k + 1))
  one_less h = omega arith

  module _ (h : k < n) {v : Least} (e : v ≡ f k) where
    pub leg_on : {how a b : ℕ} → v ≡ clear_by how → a ≡ depth_of how → b ≡ max d a
        → deepened d (legs_from f k (n - k)) ≡ deepened b (legs_from f (k + 1) (n - (k + 1)))
    unfolding legs_from leg_then
    leg_on {how} t p q = rw (one_less h, ← e, t, q, p, add-one k) (deepened_twice d (depth_of how) _)

    pub leg_edge : {j : ℕ} → v ≡ edge_first j → deepened d (legs_from f k (n - k)) ≡ Edge k j
    unfolding legs_from leg_then deepened
    leg_edge t = rw (one_less h, ← e, t)

    pub leg_enclosed : {how : ℕ} → v ≡ enclosed_by how → deepened d (legs_from f k (n - k)) ≡ Enclosed k
    unfolding legs_from leg_then deepened
    leg_enclosed t = rw (one_less h, ← e, t)

  pub leg_end : n ≤ k → deepened d (legs_from f k (n - k)) ≡ Clear d
  unfolding legs_from deepened
  leg_end h = let e : n - k ≡ 0 = omega arith in rw e (ap Clear (max-zero d))

-- the same legs
pub legs_same : (f g : ℕ → Least) → ((i : ℕ) → f i ≡ g i) → (k m : ℕ) → legs_from f k m ≡ legs_from g k m
unfolding legs_from
legs_same f g e k zero = refl
legs_same f g e k (suc m) = ap₂ (λ l p. leg_then l k p) (e k) (legs_same f g e (suc k) m)

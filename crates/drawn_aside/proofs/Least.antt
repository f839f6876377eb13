-- What is found with the least how: where it is said to be clear or enclosed by a how, it is so with that one. The induction goes
-- over the hows that are left. Assumes nothing.
use Prim.Native.Nat.{ℕ, zero, suc}
use native.Mathlib.Omega.{arith}
use mathlib.Core.Path.{◌≡◌, refl, ◌∙◌}
use Rattle.reasons.specs.Check.{Ground, clear, edge, enclosed}
use Rattle.drawn_aside.specs.Found.{Least, clear_by, edge_first, enclosed_by, or_else, least_from}

-- by this how, or by one that follows
module _ (f : ℕ → Ground) (k : ℕ) (rest : Least) where
  here_clear : (g : Ground) → f k ≡ g → (h : ℕ) → or_else g k rest ≡ clear_by h → (rest ≡ clear_by h → f h ≡ clear) → f h ≡ clear
  unfolding or_else
  here_clear clear e h q more = let i : k ≡ h = cc in rw (← i) e
  here_clear (edge j) e h q more = more q
  here_clear enclosed e h q more = absurd (let z : ◌≡◌ {A = ℕ} 0 1 = cc in omega arith)

  here_enclosed : (g : Ground) → f k ≡ g → (h : ℕ) → or_else g k rest ≡ enclosed_by h → (rest ≡ enclosed_by h → f h ≡ enclosed)
      → f h ≡ enclosed
  unfolding or_else
  here_enclosed clear e h q more = absurd (let z : ◌≡◌ {A = ℕ} 0 1 = cc in omega arith)
  here_enclosed (edge j) e h q more = more q
  here_enclosed enclosed e h q more = let i : k ≡ h = cc in rw (← i) e

module _ (f : ℕ → Ground) (j : ℕ) where
  pub least_clear : (k m h : ℕ) → least_from f k m (edge_first j) ≡ clear_by h → f h ≡ clear
  unfolding least_from
  least_clear k zero h q = absurd (let z : ◌≡◌ {A = ℕ} 0 1 = cc in omega arith)
  least_clear k (suc m) h q = here_clear f k (least_from f (suc k) m (edge_first j)) (f k) refl h q (least_clear (suc k) m h)

  pub least_enclosed : (k m h : ℕ) → least_from f k m (edge_first j) ≡ enclosed_by h → f h ≡ enclosed
  unfolding least_from
  least_enclosed k zero h q = absurd (let z : ◌≡◌ {A = ℕ} 0 1 = cc in omega arith)
  least_enclosed k (suc m) h q =
      here_enclosed f k (least_from f (suc k) m (edge_first j)) (f k) refl h q (least_enclosed (suc k) m h)

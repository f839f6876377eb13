-- A ring is its own least reading exactly if the first of its least readings is the reading 0. Assumes nothing.
use Prim.Native.Nat.{ℕ, zero, suc, ◌-◌, ◌*◌, ◌<◌}
use mathlib.Core.Path.{◌≡◌, refl, sym, ap, ◌∙◌}
use mathlib.Core.Bool.{Bool, true, false, cond}
use mathlib.Core.Logic.{◌⊎◌, inl, inr, ◌↔◌}
use mathlib.Core.List.{List, append-nil}
use lib.ListN.{length}
use borrow.Author.Tests.{lt-ltb, eq-eqb, eqb-true}
use Rattle.reading.specs.Reading.{Vertex, flat, earlier, choice, best, best_of, least_reading, is_least}
use Rattle.reading.proofs.Order.{less_irrefl, less_trans, no_bool}

choice_zero : (r : List Vertex) → 0 < length r → choice r 0 ≡ r
choice_zero r h = rw (lt-ltb 0 (length r) h) (append-nil r)

-- the reading 0, or one before it
moved : (r : List Vertex) (c : ℕ) → (best r c ≡ 0) ⊎ (earlier (choice r (best r c)) (choice r 0) ≡ true)
unfolding best
moved r zero = inl refl
moved r (suc c) = go (earlier (choice r (suc c)) (choice r (best r c))) refl (moved r c)
  where
    go : (b : Bool) → earlier (choice r (suc c)) (choice r (best r c)) ≡ b
        → (best r c ≡ 0) ⊎ (earlier (choice r (best r c)) (choice r 0) ≡ true)
        → (cond b (suc c) (best r c) ≡ 0) ⊎ (earlier (choice r (cond b (suc c) (best r c))) (choice r 0) ≡ true)
    go false e h = h
    go true e (inl z) = inr (ap (λ (k : ℕ). earlier (choice r (suc c)) (choice r k)) (sym z) ∙ e)
    go true e (inr h) = inr (less_trans (flat (choice r (suc c))) (flat (choice r (best r c))) (flat (choice r 0)) e h)

pub own : (r : List Vertex) → 0 < length r → best_of r ≡ 0 → least_reading r ≡ r
unfolding least_reading
own r h e = ap (choice r) e ∙ choice_zero r h

pub is_own : (r : List Vertex) → 0 < length r → least_reading r ≡ r → best_of r ≡ 0
unfolding least_reading best_of
is_own r h e = go (moved r (2 * length r - 1))
  where
    go : (best r (2 * length r - 1) ≡ 0) ⊎ (earlier (choice r (best r (2 * length r - 1))) (choice r 0) ≡ true) → best r (2 * length r - 1) ≡ 0
    go (inl z) = z
    go (inr t) =
        no_bool
        (sym (less_irrefl (flat r))
        ∙ ap (λ (l : List Vertex). earlier l r) (sym e)
        ∙ ap (λ (l : List Vertex). earlier (choice r (best r (2 * length r - 1))) l) (sym (choice_zero r h))
        ∙ t)

-- The test for the least reading holds exactly of the rings that are their own least reading.
pub own_exactly : (r : List Vertex) → 0 < length r → (is_least r ≡ true) ↔ (least_reading r ≡ r)
own_exactly r h = (λ t. own r h (eqb-true (best_of r) 0 t), λ e. eq-eqb (best_of r) 0 (is_own r h e))

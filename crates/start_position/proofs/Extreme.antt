-- The theorems of the start's two vertices: `vertex_of` answers the lowest vertex, of these the leftmost, of equal ones the first; and the highest, of
-- these the leftmost, of equal ones the last. Assumes nothing.
use Prim.Native.Nat.{ℕ, zero, suc, ◌-◌, ◌<◌}
use native.Mathlib.Omega.{arith}
use native.Mathlib.Nat.{lt-suc_self}
use mathlib.Core.Path.{◌≡◌, refl}
use mathlib.Core.Bool.{Bool, true, false, not, cond}
use mathlib.Core.List.{List}
use lib.Ieee.{Float}
use borrow.Author.Count.{below_none}
use Rattle.plane.specs.declared.Point.{Point}
use Rattle.ring.specs.Ring.{count, point_at}
use Rattle.refusals.specs.Bounds.{coordinates}
use Rattle.laws.specs.FirstBest.{better, over}
use Rattle.laws.proofs.FirstBest.{below_suc}
use Rattle.start_position.specs.Start.{lower_of, upper_of, higher_of, extreme_vertex}
use Rattle.start_position.specs.Extreme.{Lowest, Highest}
use Rattle.start_position.proofs.Lexical.{Real, reals, lower_irrefl, lower_asym, lower_weave, upper_irrefl, upper_asym, upper_weave}

module _ (r : List Float) where
  -- one vertex more, by the test
  lower_step : (n : ℕ) (p : Point) (b : Bool) → ((j : ℕ) → j < suc n → Real (point_at r j)) → lower_of (point_at r n) p ≡ b → Lowest r n p
      → Lowest r (suc n) (cond b (point_at r n) p)
  lower_step n p true real t l =
      let first : (j : ℕ) → j < n → lower_of (point_at r n) (point_at r j) ≡ true =
      λ j h. lower_weave (point_at r n) p (point_at r j) (real n (lt-suc_self n)) (rw l.is (real l.index (omega (arith, l.within)))) (real j (omega arith)) t (l.least j h) in
      record {
        index = n;
        within = lt-suc_self n;
        is = refl;
        least =
            below_suc (λ (j : ℕ). lower_of (point_at r j) (point_at r n) ≡ false) n (λ j h. lower_asym (point_at r n) (point_at r j) (first j h)) (lower_irrefl (point_at r n));
        first = first;
      }
  lower_step n p false real t l =
      record {
        index = l.index;
        within = omega (arith, l.within);
        is = l.is;
        least = below_suc (λ (j : ℕ). lower_of (point_at r j) p ≡ false) n l.least t;
        first = l.first;
      }

  lowest_of : (n : ℕ) → ((j : ℕ) → j < suc n → Real (point_at r j)) → Lowest r (suc n) (over lower_of (point_at r) (point_at r 0) (suc n))
  unfolding over better
  lowest_of zero real =
      rw (lower_irrefl (point_at r 0))
      (record {
        index = 0;
        within = omega arith;
        is = refl;
        least = below_suc (λ (j : ℕ). lower_of (point_at r j) (point_at r 0) ≡ false) 0 (below_none (λ (j : ℕ). lower_of (point_at r j) (point_at r 0) ≡ false)) (lower_irrefl (point_at r 0));
        first = λ j h. absurd (omega arith);
      })
  lowest_of (suc n) real =
      lower_step (suc n) _ (lower_of (point_at r (suc n)) (over lower_of (point_at r) (point_at r 0) (suc n))) real refl (lowest_of n (λ j h. real j (omega arith)))

  upper_step : (n : ℕ) (p : Point) (b : Bool) → ((j : ℕ) → j < suc n → Real (point_at r j)) → upper_of p (point_at r n) ≡ b → Highest r n p
      → Highest r (suc n) (cond (not b) (point_at r n) p)
  upper_step n p true real t l =
      record {
        index = l.index;
        within = omega (arith, l.within);
        is = l.is;
        most = below_suc (λ (j : ℕ). upper_of (point_at r j) p ≡ false) n l.most (upper_asym p (point_at r n) t);
        last =
            λ j a h.
            below_suc (λ (j : ℕ). l.index < j → upper_of p (point_at r j) ≡ true) n (λ j h a. l.last j a h) (λ a. t) j h a;
      }
  upper_step n p false real t l =
      record {
        index = n;
        within = lt-suc_self n;
        is = refl;
        most = below_suc (λ (j : ℕ). upper_of (point_at r j) (point_at r n) ≡ false) n (λ j h. no_higher j h (upper_of (point_at r j) (point_at r n)) refl) (upper_irrefl (point_at r n));
        last = λ j a h. absurd (omega arith);
      }
    where
      -- what is not before p, which is not before the new one, is not before the new one
      no_higher : (j : ℕ) → j < n → (b : Bool) → upper_of (point_at r j) (point_at r n) ≡ b → upper_of (point_at r j) (point_at r n) ≡ false
      no_higher j h false e = e
      no_higher j h true e =
          cc
          (upper_weave (point_at r j) (point_at r n) p (real j (omega arith)) (real n (lt-suc_self n)) (rw l.is (real l.index (omega (arith, l.within)))) e t, l.most j h)

  highest_of : (n : ℕ) → ((j : ℕ) → j < suc n → Real (point_at r j)) → Highest r (suc n) (over higher_of (point_at r) (point_at r 0) (suc n))
  unfolding over better
  highest_of zero real =
      rw (upper_irrefl (point_at r 0))
      (record {
        index = 0;
        within = omega arith;
        is = refl;
        most = below_suc (λ (j : ℕ). upper_of (point_at r j) (point_at r 0) ≡ false) 0 (below_none (λ (j : ℕ). upper_of (point_at r j) (point_at r 0) ≡ false)) (upper_irrefl (point_at r 0));
        last = λ j a h. absurd (omega arith);
      })
  highest_of (suc n) real =
      upper_step (suc n) _ (upper_of (over higher_of (point_at r) (point_at r 0) (suc n)) (point_at r (suc n))) real refl (highest_of n (λ j h. real j (omega arith)))

  -- the theorems, of a ring that has vertices and whose coordinates are in bounds
  module _ (some : 0 < count r) (fine : coordinates r ≡ true) where
    pub vertex_lowest : Lowest r (count r) (extreme_vertex false r)
    unfolding extreme_vertex
    vertex_lowest =
        let e : count r ≡ suc (count r - 1) = omega arith in
        rw e (lowest_of (count r - 1) (λ j h. reals r fine j (omega arith)))

    pub vertex_highest : Highest r (count r) (extreme_vertex true r)
    unfolding extreme_vertex
    vertex_highest =
        let e : count r ≡ suc (count r - 1) = omega arith in
        rw e (highest_of (count r - 1) (λ j h. reals r fine j (omega arith)))

-- The theorem of the check: it accepts a path exactly if each point has a contact and each leg is free; else it tells the first fault, before which
-- all is good. No two answers say this of one path. The induction: all is good below k, and so many points are left. Assumes nothing.
use Prim.Native.Nat.{ℕ, zero, suc, ◌+◌, ◌≤◌, ◌<◌}
use mathlib.Core.Path.{◌≡◌, refl, sym, ap, subst, ◌∙◌}
use mathlib.Core.Bool.{Bool, true, false}
use mathlib.Core.Logic.{⊎_elim}
use mathlib.Core.List.{List}
use native.Mathlib.Omega.{arith}
use native.Mathlib.Nat.{eq-or-lt_of_le, lt_of_not-le, le_antisymm}
use lib.Ieee.{Float}
use Rattle.ring.specs.Ring.{count, point_at}
use Rattle.ring.specs.Moved.{moved_of}
use Rattle.contacts.specs.Contacts.{has_contact}
use Rattle.collision.specs.Check.{collision_of}
use Rattle.std.specs.Prelude.{Option, None, Some}
use Rattle.collision.specs.declared.Hit.{Hit}
use Rattle.path_check.specs.Path.{leg_of, leg_by, fault_by, fault_at, or_else, first_fault, path_fault}
use Rattle.path_check.specs.Told.{Touches, Free, Good, Told, accepted, point, leg}
use Rattle.path_check.specs.declared.Fault.{Fault}
use Rattle.path_check.specs.declared.Fault.TheVariants.{Point, Leg}

module _ (st orb : List Float) (tol : Float) (path : List Float) where
  -- one point more
  good_next : (k : ℕ) → Good st orb tol path k → Touches st orb tol path k → Free st orb tol path k → Good st orb tol path (suc k)
  good_next k g t f j h = ⊎_elim (λ e. subst (λ i. Touches st orb tol path i × Free st orb tol path i) (sym e) (t, f)) (g j) (eq-or-lt_of_le (below h))
    where
      below : {j : ℕ} → j < suc k → j ≤ k
      below h = omega arith

  no_bool : {A : Type 0} → true ≡ false → A
  no_bool e = absurd (let z : ◌≡◌ {A = ℕ} 0 1 = cc in omega arith)

  hit_is_none : {A : Type 0} {hit : Hit} → Some hit ≡ None → A
  hit_is_none e = absurd (let z : ◌≡◌ {A = ℕ} 0 1 = cc in omega arith)

  -- a point and its leg, and then the rest
  told_here : (k : ℕ) → k < count path → Good st orb tol path k → (rest : Option Fault) → (Good st orb tol path (suc k) → Told st orb tol path rest)
      → Told st orb tol path (or_else (fault_at st orb tol path k) rest)
  unfolding fault_at fault_by leg_by or_else
  told_here k h g rest next = go (has_contact st (moved_of orb (point_at path k)) tol) refl (collision_of st (moved_of orb (point_at path k)) (leg_of path k) tol) refl
    where
      go : (b : Bool) → has_contact st (moved_of orb (point_at path k)) tol ≡ b
          → (c : Option Hit) → collision_of st (moved_of orb (point_at path k)) (leg_of path k) tol ≡ c
          → Told st orb tol path (or_else (fault_at st orb tol path k) rest)
      go false t c f = rw t (point h g (λ u. no_bool (sym u ∙ t)))
      go true t None f = rw (t, f) (next (good_next k g t f))
      go true t (Some hit) f = rw (t, f) (leg h g t (λ u. hit_is_none (sym f ∙ u)))

  told_from : (k m : ℕ) → k + m ≡ count path → Good st orb tol path k → Told st orb tol path (first_fault (fault_at st orb tol path) k m)
  unfolding first_fault
  told_from k zero e g = let q : k ≡ count path = omega arith in accepted (subst (Good st orb tol path) q g)
  told_from k (suc m) e g = told_here k (omega arith) g _ (told_from (suc k) m (omega arith))

  -- the theorem
  pub path_told : Told st orb tol path (path_fault st orb tol path)
  unfolding path_fault
  path_told = told_from 0 (count path) (omega arith) (λ j h. absurd (omega arith))

  same_place : {i j : ℕ} → (i < j → ⊥) → (j < i → ⊥) → i ≡ j
  same_place p q = le_antisymm (less (lt_of_not-le q)) (less (lt_of_not-le p))
    where
      less : {a b : ℕ} → a < suc b → a ≤ b
      less h = omega arith

  -- no two answers
  pub one_told : (f g : Option Fault) → Told st orb tol path f → Told st orb tol path g → f ≡ g
  one_told f g (accepted a) (accepted b) = refl
  one_told f g (accepted a) (point h b n) = absurd (n (a _ h).0)
  one_told f g (accepted a) (leg h b t n) = absurd (n (a _ h).1)
  one_told f g (point h b n) (accepted a) = absurd (n (a _ h).0)
  one_told f g (leg h b t n) (accepted a) = absurd (n (a _ h).1)
  one_told f g (point h b n) (point k c m) = ap (λ i. Some (Point i)) (same_place (λ l. n (c _ l).0) (λ l. m (b _ l).0))
  one_told f g (point h b n) (leg k c t m) =
      absurd (n (subst (Touches st orb tol path) (same_place (λ l. m (b _ l).1) (λ l. n (c _ l).0)) t))
  one_told f g (leg h b t n) (point k c m) =
      absurd (m (subst (Touches st orb tol path) (same_place (λ l. n (c _ l).1) (λ l. m (b _ l).0)) t))
  one_told f g (leg h b t n) (leg k c u m) = ap (λ i. Some (Leg i)) (same_place (λ l. n (c _ l).1) (λ l. m (b _ l).1))

  -- accepted exactly if all is good
  pub accepts : path_fault st orb tol path ≡ None → Good st orb tol path (count path)
  accepts e = go (subst (Told st orb tol path) e path_told)
    where
      go : Told st orb tol path None → Good st orb tol path (count path)
      go (accepted g) = g

  pub good_accepted : Good st orb tol path (count path) → path_fault st orb tol path ≡ None
  good_accepted g = one_told _ _ path_told (accepted g)

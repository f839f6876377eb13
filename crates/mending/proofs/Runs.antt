-- Why a vertex goes: one of a run equals the vertex that the run begins with, and a trailing one the first. Assumes nothing.
use Prim.Native.Nat.{ℕ, zero, suc, ◌≤◌, ◌<◌}
use mathlib.Core.Path.{◌≡◌, refl, sym, ◌∙◌}
use mathlib.Core.Bool.{Bool, true, false}
use mathlib.Core.Logic.{◌⊎◌, inl, inr}
use mathlib.Core.List.{List}
use native.Mathlib.Omega.{arith}
use native.Mathlib.Decide.{dec_lt}
use lib.Ieee.{Float}
use Rattle.plane.specs.Vector.{same_of}
use Rattle.ring.specs.Ring.{count, point_at}
use Rattle.mending.specs.Mending.{why_run, why_trailing, repeats_at, goes_at, why_of}
use Rattle.mending.specs.Restoring.{Begun}
use Rattle.mending.proofs.Equal.{same_trans}
use Rattle.mending.proofs.Trailing.{trails_at}
use Rattle.mending.proofs.Fates.{repeated, goes_first, goes_run, goes_apart}

module _ (r : List Float) where
  why_run_lem : (i : ℕ) → why_of r i ≡ why_run → repeats_at r i ≡ true
  unfolding why_of
  why_run_lem i e = go (repeats_at r i) refl
    where
      go : (b : Bool) → repeats_at r i ≡ b → b ≡ true
      go true q = refl
      go false q = absurd (let z : ◌≡◌ {A = ℕ} 1 0 = rw q at e in omega arith)

  run_why : (i : ℕ) → repeats_at r i ≡ true → why_of r i ≡ why_run
  unfolding why_of
  run_why i e = rw e

  trailing_why : (i : ℕ) → repeats_at r i ≡ false → why_of r i ≡ why_trailing
  unfolding why_of
  trailing_why i e = rw e

  why_trailing_lem : (i : ℕ) → why_of r i ≡ why_trailing → repeats_at r i ≡ false
  unfolding why_of
  why_trailing_lem i e = go (repeats_at r i) refl
    where
      go : (b : Bool) → repeats_at r i ≡ b → b ≡ false
      go true q = absurd (let z : ◌≡◌ {A = ℕ} 0 1 = rw q at e in omega arith)
      go false q = refl

  -- a trailing vertex, and each after it, equals the first
  pub trailing_equals : (i j : ℕ) → goes_at r i ≡ true → why_of r i ≡ why_trailing → i ≤ j → j < count r → same_of (point_at r 0) (point_at r j) ≡ true
  trailing_equals i j g w a b = trails_at r i j (goes_apart r i g (why_trailing_lem i w)) a b

  -- vertex i + 1 repeats vertex i, where a run begins
  begin : (i : ℕ) → repeats_at r (suc i) ≡ true → (goes_at r i ≡ false) ⊎ ((goes_at r i ≡ true) × (why_of r i ≡ why_trailing)) → Begun r (suc i)
  begin i e s =
      record { head = i; earlier = omega arith; begins = s; between = λ j a b. absurd (omega arith); equal = repeated r i e }

  run_head : (i : ℕ) → repeats_at r (suc i) ≡ true → Begun r (suc i)
  run_head zero e = begin zero e (inl (goes_first r))
  run_head (suc i) e = go (λ q. run_head i q) (repeats_at r (suc i)) refl (goes_at r (suc i)) refl
    where
      inside : repeats_at r (suc i) ≡ true → (h : Begun r (suc i)) (j : ℕ) → h.head < j → j < suc (suc i) → Dec (j < suc i) → (goes_at r j ≡ true) × (why_of r j ≡ why_run)
      inside q h j a l (yes k) = h.between j a k
      inside q h j a l (no k) =
          let z : suc i ≡ j = omega arith in
          rw (← z) (goes_run r (suc i) (λ n. omega arith) q, run_why (suc i) q)

      go : (repeats_at r (suc i) ≡ true → Begun r (suc i)) → (b : Bool) → repeats_at r (suc i) ≡ b → (g : Bool) → goes_at r (suc i) ≡ g → Begun r (suc (suc i))
      go more false q false g = begin (suc i) e (inl g)
      go more false q true g = begin (suc i) e (inr (g, trailing_why (suc i) q))
      go more true q b g =
          let h = more q in
          record {
            head = h.head;
            earlier = omega (arith, h.earlier);
            begins = h.begins;
            between = λ j a l. inside q h j a l (dec_lt j (suc i));
            equal = same_trans (point_at r h.head) (point_at r (suc i)) (point_at r (suc (suc i))) h.equal (repeated r (suc i) e);
          }

  -- a vertex that goes as one of a run
  pub run_equals : (i : ℕ) → goes_at r i ≡ true → why_of r i ≡ why_run → Begun r i
  run_equals zero g w = absurd (let z : true ≡ false = sym g ∙ goes_first r in let y : ◌≡◌ {A = ℕ} 0 1 = cc in omega arith)
  run_equals (suc i) g w = run_head i (why_run_lem (suc i) w)

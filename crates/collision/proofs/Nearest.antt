-- The theorem of the check: it answers nothing exactly if the move is shorter than the tolerance or no computed hit of either kind lies strictly
-- between the tolerance and the length less the tolerance; else it answers such a hit, no other such hit is strictly smaller, and each that is
-- scanned before it is strictly larger. Assumes nothing.
use Prim.Native.Nat.{ℕ, ◌<◌}
use mathlib.Core.Path.{◌≡◌, refl, sym, ap, ◌∙◌}
use mathlib.Core.Logic.{inl, inr, ⊎_elim}
use mathlib.Core.Bool.{Bool, true, false}
use mathlib.Core.List.{List}
use native.Mathlib.Omega.{arith}
use lib.Ieee.{Float, lt}
use Rattle.std.specs.Prelude.{Option, Some, None}
use Rattle.plane.specs.Vector.{length_of}
use Rattle.plane.specs.declared.Point.{Point}
use Rattle.laws.specs.FirstBest.{over, First, none, some}
use Rattle.laws.proofs.FirstBest.{over_first}
use Rattle.pairs.specs.Pairs.{pair}
use Rattle.pairs.specs.declared.Pair.{Pair}
use Rattle.collision.specs.Hit.{hit_with, nearer}
use Rattle.collision.specs.Check.{both_of, sweep_of, collision_of}
use Rattle.collision.specs.Nearest.{pair_no, scans, ray_at, Blocks, Told, nothing, hit}
use Rattle.collision.specs.declared.Hit.{Hit}
use Rattle.collision.proofs.Nearer.{irrefl, asym, behind, weave}
use Rattle.collision.proofs.Counting.{Carries, carries, counts, real}
use Rattle.collision.proofs.Pairs.{found, numbered}

no_bool : {A : Type 0} → true ≡ false → A
no_bool e = absurd (let z : ◌≡◌ {A = ℕ} 0 1 = cc in omega arith)

same_pair : (p : Pair) (k s o : ℕ) → p.kind ≡ k → p.stationary ≡ s → p.orbiting ≡ o → p ≡ pair k s o
same_pair p k s o a b c = rw (← a, ← b, ← c)

module _ (st orb : List Float) (move : Point) (tol : Float) where
  -- the number of a pair that blocks, and what it comes to
  pub hits : (k : ℕ) (d : Float) → Blocks st orb move tol k d
      → found st orb move tol k ≡ hit_with d (pair_no st orb k).kind (pair_no st orb k).stationary (pair_no st orb k).orbiting
  unfolding found sweep_of
  hits k d b = counts (sweep_of move tol) _ _ _ _ d b.meets.at b.above b.below

  pub carried : (k : ℕ) (h : Hit) → found st orb move tol k ≡ Some h
      → Carries (ray_at st orb move tol (pair_no st orb k)) (sweep_of move tol) (pair_no st orb k).kind (pair_no st orb k).stationary (pair_no st orb k).orbiting h
  unfolding found
  carried k h e = carries (sweep_of move tol) _ _ _ _ h e

  blocks_at : (k : ℕ) (h : Hit) → k < scans st orb → found st orb move tol k ≡ Some h → Blocks st orb move tol k h.distance
  unfolding sweep_of
  blocks_at k h l e =
      let c = carried k h e in
      record { meets = record { scanned = l; at = c.meets }; above = c.above; below = c.below }

  -- of the first n pairs the scan keeps the first of the nearest
  pub found_first : (n : ℕ) → First nearer (found st orb move tol) None n (over nearer (found st orb move tol) None n)
  unfolding found
  found_first n =
      over_first nearer (found st orb move tol) None (λ x y j. weave x y (found st orb move tol j) (λ h e. real (sweep_of move tol) _ _ _ _ h e)) irrefl asym behind n

  scanned_first : First nearer (found st orb move tol) None (scans st orb) (both_of st orb (sweep_of move tol))
  scanned_first = rw numbered (found_first (scans st orb))

  told : (r : Option Hit) → lt (length_of move) tol ≡ false → First nearer (found st orb move tol) None (scans st orb) r → Told st orb move tol r
  unfolding nearer
  told r far (none z all) =
      rw z
      (nothing
      (inr (λ k d b. no_bool (sym (ap (λ (x : Option Hit). nearer x None) (hits k d b)) ∙ all k b.meets.scanned))))
  told r far (some k l q h first least) = go (found st orb move tol k) refl
    where
      go : (x : Option Hit) → found st orb move tol k ≡ x → Told st orb move tol r
      go None e = no_bool (sym (rw e at h))
      go (Some x) e =
          let c = carried k x e in
          let b = blocks_at k x l e in
          rw (q ∙ e)
          (hit
          (λ clear. ⊎_elim (λ short. no_bool (sym short ∙ far)) (λ free. free k x.distance b) clear)
          (record {
            number = k;
            is = same_pair _ _ _ _ c.kinds c.firsts c.seconds;
            blocks = b;
            least = λ j e' b'. rw (hits j e' b', e) at (least j b'.meets.scanned);
            first = λ j e' before b'. rw (hits j e' b', e) at (first j before (rw (hits j e' b') refl));
          }))

  -- the theorem
  pub collision_told : Told st orb move tol (collision_of st orb move tol)
  unfolding collision_of
  collision_told = go (lt (length_of move) tol) refl
    where
      go : (short : Bool) → lt (length_of move) tol ≡ short → Told st orb move tol (collision_of st orb move tol)
      go true e = rw e (nothing (inl e))
      go false e = rw e (told (both_of st orb (sweep_of move tol)) e scanned_first)

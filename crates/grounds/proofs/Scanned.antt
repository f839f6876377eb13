-- The two scans are one scan over the numbered pairs, and what it knows in the end is what is said of all pairs but for the others, which are
-- counted in `Others`. Assumes nothing.
use Rattle.std.specs.Prelude.{Option}
use Prim.Native.Nat.{ℕ, zero, suc, ◌+◌, ◌*◌, ◌/◌, ◌%◌, ◌<◌}
use native.Mathlib.Omega.{arith}
use native.Mathlib.Nat.{mul_comm}
use mathlib.Core.Path.{◌≡◌, refl, sym, ap, ◌∙◌}
use mathlib.Core.Bool.{cond}
use mathlib.Core.List.{List}
use lib.Ieee.{Float}
use Rattle.std.specs.Prelude.{Option, None}
use Rattle.plane.specs.declared.Point.{Point}
use Rattle.ring.specs.Ring.{count, point_at}
use Rattle.pairs.proofs.Numbers.{first_pairs, second_pairs}
use Rattle.laws.specs.FirstBest.{over}
use Rattle.laws.specs.Turns.{turns, turn_rows, tally}
use Rattle.laws.proofs.Turns.{turns_split, turns_ext, flat_turns, rows_flat}
use Rattle.collision.specs.Hit.{nearer, kept_hit}
use Rattle.collision.specs.Ray.{edge_ray}
use Rattle.collision.specs.Check.{back_of, sweep_of}
use Rattle.collision.specs.Nearest.{scans, ray_at}
use Rattle.collision.specs.declared.Sweep.{Sweep}
use Rattle.collision.proofs.Counting.{counted_back}
use Rattle.collision.proofs.Pairs.{found}
use Rattle.grounds.specs.Classes.{too_near, in_between, too_far, hit_at}
use Rattle.grounds.specs.Scan.{no_tally, others_after, noted_of, pair_noted, scan_noted, both_noted}
use Rattle.grounds.specs.declared.Tally.{Tally}

-- the way of the rays does not matter for what is noted
noted_back : (w : Sweep) (t : Tally) (v e : ℕ) (ray : Option Float) → noted_of (back_of w) 1 t v e ray ≡ noted_of w 1 t v e ray
unfolding noted_of back_of
noted_back w t v e ray = rw (counted_back w 1 v e ray)

module _ (st orb : List Float) (move : Point) (tol : Float) where
  -- as many of each kind
  abbrev half : ℕ
  half = count st * count orb

  -- what the pair number k adds
  unfoldable pub step_of : Tally → ℕ → Tally
  step_of t k = record {
    best = kept_hit t.best (found st orb move tol k);
    others = others_after t.others t.best (found st orb move tol k);
    near = t.near + cond (hit_at st orb move tol (too_near (sweep_of move tol)) k) 1 0;
    between = t.between + cond (hit_at st orb move tol (in_between (sweep_of move tol)) k) 1 0;
    far = t.far + cond (hit_at st orb move tol (too_far (sweep_of move tol)) k) 1 0;
  }

  first_kind : (t : Tally) (k : ℕ) → k < half → flat_turns (pair_noted orb st (sweep_of move tol) 0) (count st) t k ≡ step_of t k
  unfolding step_of pair_noted noted_of found ray_at sweep_of
  first_kind t k h = rw (first_pairs (count st) (count orb) k h)

  back_tolerance : (w : Sweep) → (back_of w).tolerance ≡ w.tolerance
  unfolding back_of
  back_tolerance w = refl

  second_at : (t : Tally) (k : ℕ) → k < half
      → noted_of (sweep_of move tol) 1 t (k / count orb) (k % count orb) (edge_ray (point_at st (k / count orb)) (back_of (sweep_of move tol)).dir orb (k % count orb) tol)
      ≡ step_of t (half + k)
  unfolding step_of noted_of found ray_at
  second_at t k h = rw (second_pairs (count st) (count orb) k h)

  second_kind : (t : Tally) (k : ℕ) → k < half → flat_turns (pair_noted st orb (back_of (sweep_of move tol)) 1) (count orb) t k ≡ step_of t (half + k)
  unfolding pair_noted sweep_of
  second_kind t k h =
      noted_back (sweep_of move tol) t (k / count orb) (k % count orb) _
      ∙ (rw (back_tolerance (sweep_of move tol)) (second_at t k h))

  pub flat : both_noted st orb (sweep_of move tol) ≡ turns step_of no_tally (scans st orb)
  unfolding both_noted scan_noted
  flat =
      let e : scans st orb ≡ half + half = omega arith in
      let one : turn_rows (pair_noted orb st (sweep_of move tol) 0) (count st) no_tally (count orb) ≡ turns step_of no_tally half =
      rows_flat _ (count st) no_tally (count orb) ∙ ap (turns _ no_tally) (mul_comm (count orb) (count st)) ∙ turns_ext _ step_of no_tally half first_kind in
      rows_flat _ (count orb) _ (count st)
      ∙ turns_ext _ (λ t k. step_of t (half + k)) _ half second_kind
      ∙ ap (λ (s : Tally). turns (λ t k. step_of t (half + k)) s half) one
      ∙ sym (turns_split step_of no_tally half half)
      ∙ ap (turns step_of no_tally) (sym e)

  -- what is known after n pairs
  pub best_is : (n : ℕ) → (turns step_of no_tally n).best ≡ over nearer (found st orb move tol) None n
  unfolding turns over step_of
  best_is zero = refl
  best_is (suc n) = rw (best_is n)

  pub near_is : (n : ℕ) → (turns step_of no_tally n).near ≡ tally (hit_at st orb move tol (too_near (sweep_of move tol))) n
  unfolding turns tally step_of
  near_is zero = refl
  near_is (suc n) = rw (near_is n)

  pub between_is : (n : ℕ) → (turns step_of no_tally n).between ≡ tally (hit_at st orb move tol (in_between (sweep_of move tol))) n
  unfolding turns tally step_of
  between_is zero = refl
  between_is (suc n) = rw (between_is n)

  pub far_is : (n : ℕ) → (turns step_of no_tally n).far ≡ tally (hit_at st orb move tol (too_far (sweep_of move tol))) n
  unfolding turns tally step_of
  far_is zero = refl
  far_is (suc n) = rw (far_is n)

-- The two scans are one scan over the numbered pairs. Assumes nothing.
use Prim.Native.Nat.{ℕ, ◌+◌, ◌*◌, ◌/◌, ◌%◌, ◌<◌}
use mathlib.Core.Path.{◌≡◌, refl, sym, ap, ◌∙◌}
use mathlib.Core.List.{List}
use native.Mathlib.Omega.{arith}
use native.Mathlib.Nat.{mul_comm}
use lib.Ieee.{Float}
use Rattle.std.specs.Prelude.{Option, None}
use Rattle.plane.specs.declared.Point.{Point}
use Rattle.ring.specs.Ring.{count}
use Rattle.pairs.proofs.Numbers.{first_pairs, second_pairs}
use Rattle.laws.specs.FirstBest.{over, nest, flat_rows}
use Rattle.laws.proofs.FirstBest.{over_split, over_ext, nest_flat}
use Rattle.collision.specs.Hit.{counted_of, nearer}
use Rattle.collision.specs.Check.{hit_of, scan_of, back_of, both_of, sweep_of}
use Rattle.collision.specs.Nearest.{pair_no, scans, ray_at}
use Rattle.collision.specs.declared.Sweep.{Sweep}
use Rattle.collision.specs.declared.Hit.{Hit}
use Rattle.collision.proofs.Counting.{counted_back}

module _ (st orb : List Float) (move : Point) (tol : Float) where
  -- as many of each kind
  abbrev half : ℕ
  half = count st * count orb

  -- what the pair number k comes to
  unfoldable pub found : ℕ → Option Hit
  found k =
      let p = pair_no st orb k in
      counted_of (ray_at st orb move tol p) (sweep_of move tol) p.kind p.stationary p.orbiting

  first_kind : (k : ℕ) → k < half → flat_rows (hit_of orb st (sweep_of move tol) 0) (count st) k ≡ found k
  unfolding found hit_of ray_at sweep_of
  first_kind k h = rw (first_pairs (count st) (count orb) k h)

  back_tolerance : (w : Sweep) → (back_of w).tolerance ≡ w.tolerance
  unfolding back_of
  back_tolerance w = refl

  second_kind : (k : ℕ) → k < half → flat_rows (hit_of st orb (back_of (sweep_of move tol)) 1) (count orb) k ≡ found (half + k)
  unfolding found hit_of ray_at sweep_of
  second_kind k h =
      counted_back (sweep_of move tol) 1 (k / count orb) (k % count orb) _
      ∙ (rw (second_pairs (count st) (count orb) k h, back_tolerance))

  one_scan : nest nearer (hit_of orb st (sweep_of move tol) 0) (count st) None (count orb) ≡ over nearer found None half
  one_scan =
      nest_flat nearer (hit_of orb st (sweep_of move tol) 0) (count st) None (count orb)
      ∙ ap (over nearer _ None) (mul_comm (count orb) (count st))
      ∙ over_ext nearer _ found None half first_kind

  other_scan : (r : Option Hit)
      → nest nearer (hit_of st orb (back_of (sweep_of move tol)) 1) (count orb) r (count st) ≡ over nearer (λ (k : ℕ). found (half + k)) r half
  other_scan r =
      nest_flat nearer (hit_of st orb (back_of (sweep_of move tol)) 1) (count orb) r (count st)
      ∙ over_ext nearer _ (λ (k : ℕ). found (half + k)) r half second_kind

  pub numbered : both_of st orb (sweep_of move tol) ≡ over nearer found None (scans st orb)
  unfolding both_of scan_of
  numbered =
      let e : scans st orb ≡ half + half = omega arith in
      other_scan _ ∙ (rw one_scan (sym (over_split nearer found None half half))) ∙ ap (over nearer found None) (sym e)

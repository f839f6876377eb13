-- What the scan knows in the end is what is said of all pairs. Assumes nothing.
use Prim.Native.Nat.{ℕ}
use mathlib.Core.Path.{◌≡◌, sym, ◌∙◌}
use mathlib.Core.List.{List}
use lib.Ieee.{Float}
use Rattle.std.specs.Prelude.{Option}
use Rattle.plane.specs.declared.Point.{Point}
use Rattle.laws.specs.Turns.{turns}
use Rattle.collision.specs.Check.{sweep_of, both_of}
use Rattle.collision.specs.Nearest.{scans}
use Rattle.collision.specs.declared.Hit.{Hit}
use Rattle.collision.proofs.Pairs.{numbered}
use Rattle.grounds.specs.Classes.{too_near, in_between, too_far, how_many}
use Rattle.grounds.specs.Scan.{no_tally, both_noted}
use Rattle.grounds.specs.Explanation.{others_at, tally_of}
use Rattle.grounds.specs.declared.Tally.{Tally}
use Rattle.grounds.proofs.Scanned.{step_of, flat, best_is, near_is, between_is, far_is}
use Rattle.grounds.proofs.Others.{others_is}

by_fields : (t : Tally) {b : Option Hit} {o n m f : ℕ} → t.best ≡ b → t.others ≡ o → t.near ≡ n → t.between ≡ m → t.far ≡ f
    → t ≡ record { best = b; others = o; near = n; between = m; far = f }
by_fields t b o n m f = rw (← b, ← o, ← n, ← m, ← f)

module _ (st orb : List Float) (move : Point) (tol : Float) where
  best_both : (turns (step_of st orb move tol) no_tally (scans st orb)).best ≡ both_of st orb (sweep_of move tol)
  best_both = best_is st orb move tol (scans st orb) ∙ sym (numbered st orb move tol)

  same_fields : (t : Tally) → t ≡ turns (step_of st orb move tol) no_tally (scans st orb) → t ≡ tally_of st orb move tol
  unfolding tally_of how_many
  same_fields t h =
      let best : t.best ≡ both_of st orb (sweep_of move tol) = rw h best_both in
      let others : t.others ≡ others_at st orb move tol (both_of st orb (sweep_of move tol)) = rw (h, ← best_both) (others_is st orb move tol) in
      let near : t.near ≡ how_many st orb move tol (too_near (sweep_of move tol)) = rw h (near_is st orb move tol (scans st orb)) in
      let between : t.between ≡ how_many st orb move tol (in_between (sweep_of move tol)) = rw h (between_is st orb move tol (scans st orb)) in
      let far : t.far ≡ how_many st orb move tol (too_far (sweep_of move tol)) = rw h (far_is st orb move tol (scans st orb)) in
      by_fields t best others near between far

  pub scanned_is : both_noted st orb (sweep_of move tol) ≡ tally_of st orb move tol
  scanned_is = same_fields _ (flat st orb move tol)

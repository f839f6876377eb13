-- `clear_path::path_ground` meets its contract: the front of the array holds the stationary corners. Assumes nothing.
use Prim.Native.Nat.{ℕ, ◌/◌, ◌≤◌}
use mathlib.Core.Path.{sym, ap, ◌∙◌}
use native.Mathlib.Omega.{arith}
use lib.ListN.{length}
use mathlib.Core.Path.{subst}
use mathlib.Core.List.{List}
use lib.Seq.{length-take-le}
use Rattle.clear_calls.proofs.Fronts.{lifted_front}
use Rattle.clear_path.specs.Path.{leg_found, first_leg}
use Rattle.clear_path.specs.Lent.{LegsLent}
use Rattle.clear_path.proofs.Placed.{ring_fits}
use Rattle.clear_path.proofs.path_ground.Goals as goal
use Rattle.clear_path.proofs.path_ground.Goals.{Start}

fits : (s : Start) → length s.args.stationary.now ≤ 512
fits s = ring_fits s.args.stationary.now _ _ s.requires

pub lift-requires : goal.lift-requires
lift-requires c = fits c.before

pub slice_bounds-st-end : goal.slice_bounds-st-end
slice_bounds-st-end c = omega (arith, fits c.before.before.before)

pub slice_bounds-first_leg-end : goal.slice_bounds-first_leg-end
slice_bounds-first_leg-end c =
    sym (length-take-le _ _ (omega (arith, c.lift.auto.room, fits c.before.before.before.before)))

pub first_leg-requires : goal.first_leg-requires
first_leg-requires c =
    subst (λ (l : List ℕ). LegsLent l c.args.orbiting.now c.args.path.now)
    (sym (lifted_front c.args.stationary.now _ c.lift.ensures)) c.requires

pub returns : goal.returns
returns c =
    let path = c.args.path.now in
    c.first_leg.ensures
    ∙ ap (λ (l : List ℕ). first_leg (leg_found l c.args.orbiting.now path) 0 (length path / 2))
    (lifted_front c.args.stationary.now _ c.lift.ensures)

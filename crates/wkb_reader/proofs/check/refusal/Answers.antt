-- `wkb_reader::check::refusal` meets its contract: what the number of points requires, from the checks that pass. Assumes nothing.
use Prim.Native.Nat.{ℕ}
use native.Mathlib.Omega.{arith}
use mathlib.Core.Path.{◌≡◌}
use mathlib.Core.List.{List}
use Rattle.refusals.specs.Refusals.{none}
use Rattle.wkb_layout.specs.Faults.{wkb_check}
use Rattle.wkb_reader.proofs.Checked.{Headed, passing}
use Rattle.wkb_reader.proofs.check.refusal.Goals as goal

-- the file passes
held : (f : List ℕ) → none ≡ wkb_check f → Headed f
held f e = passing f (rw (← e))

pub points-n-requires : goal.points-n-requires
points-n-requires c = omega (arith, (held c.args.f.now c.in_ok-check.ensures).whole)

pub overflow_sub-n : goal.overflow_sub-n
overflow_sub-n c =
    let e = c.points-n.ensures.0 in
    omega (arith, (held c.args.f.now c.in_ok-check.ensures).least)

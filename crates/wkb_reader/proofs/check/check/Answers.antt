-- `wkb_reader::check::check` meets its contract: what its parts require, from the fields that pass. Assumes nothing.
use Prim.Native.Nat.{ℕ}
use native.Mathlib.Omega.{arith}
use mathlib.Core.Path.{◌≡◌}
use mathlib.Core.List.{List}
use Rattle.refusals.specs.Refusals.{none}
use Rattle.wkb_reader.specs.Parts.{head_check}
use Rattle.wkb_reader.proofs.Checked.{Headed, headed}
use Rattle.wkb_reader.proofs.check.check.Goals as goal

-- the fields pass
held : (f : List ℕ) → none ≡ head_check f → Headed f
held f e = headed f (rw (← e))

pub points-n-requires : goal.points-n-requires
points-n-requires c = omega (arith, (held c.args.f.now c.in_ok-head.ensures).whole)

pub numbers-requires : goal.numbers-requires
numbers-requires c =
    let h = held c.args.f.now c.in_ok-head.ensures in
    let e = c.points-n.ensures.0 in
    ((omega (arith, h.whole)), (omega (arith, h.most)))

pub overflow_sub-n : goal.overflow_sub-n
overflow_sub-n c =
    let e = c.points-n.ensures.0 in
    omega (arith, (held c.args.f.now c.in_ok-head.ensures).least)

pub closing-requires : goal.closing-requires
closing-requires c =
    let h = held c.args.f.now c.in_ok-head.ensures in
    let e = c.points-n.ensures.0 in
    ((omega arith), (omega (arith, h.least, h.most)), (omega (arith, h.least, h.whole)))

-- `frames::is_beside` meets its contract: `proofs/Clear.antt` has the laws. Assumes nothing.
use Rattle.frames.proofs.Clear.{beside_x, beside_y}
use Rattle.frames.proofs.is_beside.Goals as goal

pub returns-then-is_past : goal.returns-then-is_past
returns-then-is_past c =
    let m = c.margin-far.ensures in
    let i = c.is_past.ensures in
    λ t. beside_x _ _ _ _ m.1 i.1 (rw (← m.0, ← i.0) c.if-is_past.true)

pub returns : goal.returns
returns c =
    let m = c.margin-far.ensures in
    let i = c.is_past-2.ensures in
    λ t. beside_y _ _ _ _ m.1 i.1 (rw (← m.0, ← i.0) t)

-- `reason_search::put` meets its contract: four stores. Assumes nothing.
use Prim.Native.Nat.{◌*◌}
use native.Mathlib.Omega.{arith}
use lib.ListN.{length-set}
use Rattle.reason_search.proofs.Laying.{four_stores}
use Rattle.reason_search.proofs.put.Goals as goal

pub bounds-lines-j-2 : goal.bounds-lines-j-2
bounds-lines-j-2 c = simp length-set (omega arith)

pub bounds-lines-j-3 : goal.bounds-lines-j-3
bounds-lines-j-3 c = simp length-set (omega arith)

pub returns : goal.returns
returns c =
    let l = c.args.l in
    four_stores c.args.lines.now (4 * c.args.j) l.p.x l.p.y l.q.x l.q.y

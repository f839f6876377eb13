-- `reason_check::parts_edge` meets its contract: the ends of the edge, the points of its line, and the test. Assumes nothing.
use Prim.Native.Nat.{◌+◌, ◌*◌}
use native.Mathlib.Omega.{arith}
use Rattle.reason_check.proofs.Small.{small_at}
use Rattle.reason_check.proofs.Corners.{first_end, second_end, parts_at_lem}
use Rattle.reason_check.proofs.parts_edge.Goals as goal

pub parts-requires : goal.parts-requires
parts-requires c =
    let a = c.args in
    let r = c.requires.0 in (
      r.moved,
      small_at a.st.now r.ring_small a.j c.requires.1 c.spot_at-s.ensures,
      small_at a.st.now r.ring_small _ c.next.ensures.1 c.spot_at-t.ensures,
      small_at a.ls.now r.lines_small (2 * a.j) (omega (arith, c.requires.1, r.enough)) c.spot_at.ensures,
      small_at a.ls.now r.lines_small (2 * a.j + 1) (omega (arith, c.requires.1, r.enough)) c.spot_at-2.ensures,
    )

pub returns : goal.returns
returns c =
    let a = c.args in
    parts_at_lem a.st.now a.a.now a.b.now a.ls.now _
    (first_end a.st.now _ c.requires.1 c.spot_at-s.ensures)
    (second_end a.st.now _ c.next.ensures.0 c.spot_at-t.ensures)
    c.spot_at.ensures c.spot_at-2.ensures c.parts.ensures

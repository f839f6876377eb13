-- `reason_search::lay` meets its contract. The invariant: the lines of the first j edges stand, the line before is held, and the
-- edges from j on decide. Assumes nothing.
use native.Mathlib.Omega.{arith}
use mathlib.Core.Path.{refl, sym, ◌∙◌}
use Rattle.reason_check.proofs.Small.{small_at}
use Rattle.reason_check.proofs.Corners.{first_end, second_end}
use Rattle.reason_search.proofs.Below.{some_is, none_is}
use Rattle.reason_search.proofs.Firsts.{of_some, of_none}
use Rattle.reason_search.proofs.Laying.{start, turn, stop, done, room_is}
use Rattle.reason_search.proofs.lay.Goals as goal

pub loop-j-init : goal.loop-j-init
loop-j-init c =
    let p = c.requires in
    (start _ _ _ _ p.0 p.2 c.side-l.ensures, p.1, refl)

pub take-requires : goal.take-requires
take-requires c = (
  c.loop-j.invariant.1,
  c.requires.2,
  small_at c.args.st.now c.requires.0.ring_small _ c.loop-j-test.true c.spot_at-s.ensures,
  small_at c.args.st.now c.requires.0.ring_small _ c.next.ensures.1 c.spot_at-t.ensures,
  c.loop-j.invariant.0.held,
)

pub shape_of-flags-in-None : goal.shape_of-flags-in-None
shape_of-flags-in-None c = c.take.auto.flags ∙ c.loop-j.invariant.2

pub returns-in-None : goal.returns-in-None
returns-in-None c =
    let st = c.args.st.now in
    let e = stop st _ _ _ c.loop-j.invariant.0 c.loop-j-test.true
    (first_end st _ c.loop-j-test.true c.spot_at-s.ensures)
    (second_end st _ c.next.ensures.0 c.spot_at-t.ensures)
    refl refl (of_none _ _ _ _ _ c.in-None.ensures.value) in
    record { value = some_is _ _ c.loop-j-test.true e; lines_after = room_is _ _ _ _ c.loop-j.invariant.0 e }

pub put-requires : goal.put-requires
put-requires c =
    omega (arith, c.loop-j-test.true, c.requires.0.enough, c.loop-j.invariant.0.same)

pub loop-j-preserved : goal.loop-j-preserved
loop-j-preserved c =
    let st = c.args.st.now in
    let k = of_some _ _ _ _ c.in-Some.ensures.value in (
      turn st _ _ _ c.loop-j.invariant.0 c.loop-j-test.true
          (first_end st _ c.loop-j-test.true c.spot_at-s.ensures)
          (second_end st _ c.next.ensures.0 c.spot_at-t.ensures)
          k.0 refl c.requires.0
          (small_at st c.requires.0.ring_small _ c.loop-j-test.true c.spot_at-s.ensures)
          (small_at st c.requires.0.ring_small _ c.next.ensures.1 c.spot_at-t.ensures)
          (sym k.1) c.put.ensures,
      c.take.ensures.ready,
      c.take.auto.flags ∙ c.loop-j.invariant.2,
    )

pub shape_of-flags : goal.shape_of-flags
shape_of-flags c = c.loop-j.invariant.2

pub returns : goal.returns
returns c =
    let v = c.loop-j.invariant.0 in
    let e = done _ _ _ _ v c.loop-j-test.false in
    record { value = none_is _ _ (omega (arith, e)); lines_after = room_is _ _ _ _ v e }

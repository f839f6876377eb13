-- `grounds::scan_by` meets its contract: `proofs/Passed.antt` has the laws. The invariant: the first v vertices are noted, and the next one against its first e edges. Assumes nothing.
use native.Mathlib.Omega.{arith}
use mathlib.Core.Path.{refl}
use Rattle.grounds.proofs.Noted.{kept_new, kept_best, fields}
use Rattle.grounds.proofs.Passed.{from_none, next_pair, next_vertex, all_pairs, small}
use Rattle.grounds.proofs.scan_by.Goals as goal
use Rattle.grounds.proofs.scan_by.Goals.{then-is_nearer, else-is_nearer}

pub loop-v-init : goal.loop-v-init
loop-v-init c = from_none _ _ _ _ _

pub loop-met-init : goal.loop-met-init
loop-met-init c = (omega arith, c.loop-v.invariant)

pub next_hit-requires : goal.next_hit-requires
next_hit-requires c = record { from_bound = c.loop-met.invariant.0; ready = c.requires.ready }

pub others_after-others-requires : goal.others_after-others-requires
others_after-others-requires c = let p = c.requires.vertices_bound in let i = c.loop-met.invariant in (small _ _ _ _ _ _ _ i.1 p.2 (omega (arith, c.loop-v-test.true, p.0)) p.1 (omega (arith, i.0, p.1))).others_below

pub one_more-near-requires : goal.one_more-near-requires
one_more-near-requires c = let p = c.requires.vertices_bound in let i = c.loop-met.invariant in (small _ _ _ _ _ _ _ i.1 p.2 (omega (arith, c.loop-v-test.true, p.0)) p.1 (omega (arith, i.0, p.1))).near_below

pub one_more-between-requires : goal.one_more-between-requires
one_more-between-requires c = let p = c.requires.vertices_bound in let i = c.loop-met.invariant in (small _ _ _ _ _ _ _ i.1 p.2 (omega (arith, c.loop-v-test.true, p.0)) p.1 (omega (arith, i.0, p.1))).between_below

pub one_more-far-requires : goal.one_more-far-requires
one_more-far-requires c = let p = c.requires.vertices_bound in let i = c.loop-met.invariant in (small _ _ _ _ _ _ _ i.1 p.2 (omega (arith, c.loop-v-test.true, p.0)) p.1 (omega (arith, i.0, p.1))).far_below

pub loop-met-smaller : goal.loop-met-smaller
loop-met-smaller c = let h = rw c.in-Some.is at c.next_hit.ensures in omega (arith, h.not_before, h.below)

pub loop-met-preserved : goal.loop-met-preserved
loop-met-preserved c =
    let i = c.loop-met.invariant in
    let h = rw c.in-Some.is at c.next_hit.ensures in
    elim c.if-is_nearer.branch [
      | then-is_nearer w ↦ (
        omega (arith, h.below),
        rw w.best-is (next_pair _ _ _ _ _ _ _ i.1 c.point_at-origin.ensures c.in-Some.is c.next_hit.ensures
            (fields _ _ _ _ _ _ c.pair-new.ensures (kept_new _ _ c.is_nearer.ensures w.if-is_nearer.true) c.others_after-others.ensures c.one_more-near.ensures c.one_more-between.ensures c.in_between.ensures
            c.one_more-far.ensures c.too_far.ensures)),
      )
      | else-is_nearer w ↦ (
        omega (arith, h.below),
        rw w.best-is (next_pair _ _ _ _ _ _ _ i.1 c.point_at-origin.ensures c.in-Some.is c.next_hit.ensures
            (fields _ _ _ _ _ _ c.pair-new.ensures (kept_best _ _ c.is_nearer.ensures w.if-is_nearer.false) c.others_after-others.ensures c.one_more-near.ensures c.one_more-between.ensures c.in_between.ensures
            c.one_more-far.ensures c.too_far.ensures)),
      )
    ]

pub loop-v-preserved : goal.loop-v-preserved
loop-v-preserved c =
    let i = c.loop-met.invariant in
    next_vertex _ _ _ _ _ _ _ i.1 i.0 c.point_at-origin.ensures c.in_default.is c.next_hit.ensures

pub returns : goal.returns
returns c = all_pairs _ _ _ _ _ _ _ (omega (arith, c.loop-v.auto.v-end, c.loop-v-test.false)) refl c.loop-v.invariant

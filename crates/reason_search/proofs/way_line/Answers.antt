-- `reason_search::way_line` meets its contract: a corner's way, an edge at the start, or an edge at the end. Assumes nothing.
use Prim.Native.Nat.{◌*◌, ◌-◌, ◌/◌}
use native.Mathlib.Omega.{arith}
use mathlib.Core.Path.{refl}
use lib.ListN.{length}
use Rattle.reason_check.proofs.Small.{small_at}
use Rattle.reason_search.proofs.WayLines.{way_is, start_is, end_is}
use Rattle.reason_search.proofs.way_line.Goals as goal

pub spot_at-requires : goal.spot_at-requires
spot_at-requires c = omega (arith, c.if-c-n.true)

pub spot_at-requires-then-c-n : goal.spot_at-requires-then-c-n
spot_at-requires-then-c-n c = omega (arith, c.if-c-n.true, c.requires.0.same)

pub returns-then-c-n : goal.returns-then-c-n
returns-then-c-n c =
    let w = c.requires.0 in
    way_is _ _ _ _ c.if-c-n.true c.spot_at.ensures c.spot_at-then-c-n.ensures c.either_way.ensures
    (small_at c.args.a.now w.starts_small (c.args.c / 2) (omega (arith, c.if-c-n.true)) c.spot_at.ensures)
    (small_at c.args.b.now w.ends_small (c.args.c / 2) (omega (arith, c.if-c-n.true, w.same)) c.spot_at-then-c-n.ensures)

pub overflow_sub-e : goal.overflow_sub-e
overflow_sub-e c = omega (arith, c.if-c-n.false)

pub next-k-requires : goal.next-k-requires
next-k-requires c = omega (arith, c.if-c-n.false, c.requires.1)

pub spot_at-requires-then-e-lt2 : goal.spot_at-requires-then-e-lt2
spot_at-requires-then-e-lt2 c = omega (arith, c.if-c-n.false, c.requires.1)

pub returns-then-e-lt2 : goal.returns-then-e-lt2
returns-then-e-lt2 c =
    let w = c.requires.0 in
    let e = c.args.c - 2 * (length c.args.a.now / 2) in
    start_is _ _ _ _ c.if-c-n.false refl c.next-k.ensures.0 c.if-e-lt2.true c.spot_at-then-e-lt2.ensures c.spot_at-then-e-lt2-2.ensures
    c.either_way-then-e-lt2.ensures
    (small_at c.args.a.now w.starts_small (e / 4) (omega (arith, c.if-c-n.false, c.requires.1)) c.spot_at-then-e-lt2.ensures)
    (small_at c.args.a.now w.starts_small _ c.next-k.ensures.1 c.spot_at-then-e-lt2-2.ensures)

pub spot_at-requires-2 : goal.spot_at-requires-2
spot_at-requires-2 c =
    omega (arith, c.if-c-n.false, c.requires.1, c.requires.0.same)

pub spot_at-requires-3 : goal.spot_at-requires-3
spot_at-requires-3 c =
    omega (arith, c.next-k.ensures.1, c.requires.0.same)

pub returns : goal.returns
returns c =
    let w = c.requires.0 in
    let e = c.args.c - 2 * (length c.args.a.now / 2) in
    end_is _ _ _ _ c.if-c-n.false refl c.next-k.ensures.0 c.if-e-lt2.false c.spot_at-2.ensures c.spot_at-3.ensures
    c.either_way-2.ensures
    (small_at c.args.b.now w.ends_small (e / 4) (omega (arith, c.if-c-n.false, c.requires.1, w.same)) c.spot_at-2.ensures)
    (small_at c.args.b.now w.ends_small _ (omega (arith, c.next-k.ensures.1, w.same)) c.spot_at-3.ensures)

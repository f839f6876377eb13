-- `simplify::simplify` meets its contract: the whole list, or what stays of it. Assumes nothing.
use native.Mathlib.Omega.{arith}
use Rattle.simplify.proofs.Whole.{few, whole_fits, copied, kept_is, lost, enough, enough_fits}
use Rattle.simplify.proofs.simplify.Goals as goal

pub copy-requires : goal.copy-requires
copy-requires c =
    (omega arith, whole_fits _ _ _ c.requires.list_len (few _ _ c.if-n-lt3.true) c.requires.tolerance_in_bounds)

pub returns-then-n-lt3 : goal.returns-then-n-lt3
returns-then-n-lt3 c =
    let a = c.args in
    let e = few a.list.now a.tolerance c.if-n-lt3.true in
    record { value = rw e; room_after = copied _ _ _ e c.copy.ensures }

pub copy-requires-then-kept-lt3 : goal.copy-requires-then-kept-lt3
copy-requires-then-kept-lt3 c =
    (omega arith, whole_fits _ _ _ c.requires.list_len (lost _ _ c.staying-kept.ensures c.if-n-lt3.false c.if-kept-lt3.true) c.requires.tolerance_in_bounds)

pub returns-then-kept-lt3 : goal.returns-then-kept-lt3
returns-then-kept-lt3 c =
    let a = c.args in
    let e = lost a.list.now a.tolerance c.staying-kept.ensures c.if-n-lt3.false c.if-kept-lt3.true in
    record { value = rw e; room_after = copied _ _ _ e c.copy-then-kept-lt3.ensures }

pub gather-requires : goal.gather-requires
gather-requires c =
    enough_fits _ _ c.staying-kept.ensures _ c.if-n-lt3.false c.if-kept-lt3.false c.requires.tolerance_in_bounds

pub returns : goal.returns
returns c =
    let a = c.args in
    let s = c.staying-kept.ensures in
    let e = enough a.list.now a.tolerance s c.if-n-lt3.false c.if-kept-lt3.false in
    record { value = rw e (kept_is a.list.now a.tolerance s); room_after = rw e c.gather.ensures }

-- `reason_search::search` meets its contract: the box, the lines, and then their balance. Assumes nothing.
use Prim.Native.Nat.{◌/◌}
use mathlib.Core.Path.{refl}
use lib.ListN.{length}
use Rattle.reason_search.proofs.Below.{of_some, of_none}
use Rattle.reason_search.proofs.Flags.{unmarked}
use Rattle.reason_search.proofs.Found.{stopped, all_clear, all_enclosed}
use Rattle.reason_search.proofs.search.Goals as goal

pub box_of-x-requires : goal.box_of-x-requires
box_of-x-requires c = let p = c.requires in (p.moved, p.some)

pub lay-requires : goal.lay-requires
lay-requires c =
    let p = c.requires in
    (p, unmarked p, c.box_of-x.ensures)

pub returns-in-Some : goal.returns-in-Some
returns-in-Some c =
    let is = c.in-Some.ensures.lines_after in
    let at = of_some (length c.args.st.now / 2) _ c.in-Some.ensures.value in
    record { result_value = stopped _ _ _ _ is at.0 at.1; lines_after = is }

pub returns-then-balanced : goal.returns-then-balanced
returns-then-balanced c =
    let is = c.in_default.ensures.lines_after in
    let all = of_none (length c.args.st.now / 2) _ c.in_default.ensures.value in
    record { result_value = all_clear _ _ _ _ is refl all c.lowest.ensures c.balanced.ensures c.if-balanced.true; lines_after = is }

pub returns-else-balanced : goal.returns-else-balanced
returns-else-balanced c =
    let is = c.in_default.ensures.lines_after in
    let all = of_none (length c.args.st.now / 2) _ c.in_default.ensures.value in
    record { result_value = all_enclosed _ _ _ _ is refl all c.lowest.ensures c.balanced.ensures c.if-balanced.false; lines_after = is }

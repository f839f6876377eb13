-- `clear_aside::put_both` meets its contract: one room after the other. Assumes nothing.
use borrow.Author.Rules.{rules}
use Rattle.clear_aside.proofs.Held.{end_lent, start_leaves, start_stays, both_hold}
use Rattle.clear_aside.proofs.put_both.Goals as goal

pub put_aside-requires-then-put_aside : goal.put_aside-requires-then-put_aside
put_aside-requires-then-put_aside c = search (rules, end_lent)

pub returns-then-put_aside : goal.returns-then-put_aside
returns-then-put_aside c = record {
  value = start_stays _ _ _ _ _ c.put_aside.ensures.value c.if-put_aside.true c.put_aside-then-put_aside.ensures.value;
  both_hold = both_hold _ _ _ _ _ c.put_aside.ensures.value c.if-put_aside.true c.put_aside-then-put_aside.ensures.value c.requires.disc_moved.0 _ _
      c.put_aside.ensures.room_after c.put_aside-then-put_aside.ensures.room_after;
}

pub returns-else-put_aside : goal.returns-else-put_aside
returns-else-put_aside c = record { value = start_leaves _ _ _ _ _ c.put_aside.ensures.value c.if-put_aside.false; both_hold = λ h. record { starts = cc; ends = cc } }

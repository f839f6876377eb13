-- `put_aside::towards` meets its contract: one comparison after the other. Assumes nothing.
use borrow.Author.Tests.{lt-ltb, le-ltb}
use Rattle.put_aside.specs.Aside.{towards}
use Rattle.put_aside.proofs.towards.Goals as goal

pub returns-then-m-k : goal.returns-then-m-k
unfolding towards
returns-then-m-k c = rw (lt-ltb _ _ c.if-m-k.true) c.across_step.ensures

pub returns-then-k-m : goal.returns-then-k-m
unfolding towards
returns-then-k-m c = rw (le-ltb _ _ c.if-m-k.false, lt-ltb _ _ c.if-k-m.true) c.across_step-then-k-m.ensures

pub returns : goal.returns
unfolding towards
returns c = rw (le-ltb _ _ c.if-m-k.false, le-ltb _ _ c.if-k-m.false) c.step_by.ensures

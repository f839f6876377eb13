-- `pass::pass_at` meets its contract: `proofs/Cases.antt` has its three cases. Assumes nothing.
use Rattle.pass.proofs.Cases.{loose, stuck, slides}
use Rattle.pass.proofs.pass_at.Goals as goal

pub returns-then-has_contact : goal.returns-then-has_contact
returns-then-has_contact c =
    stuck _ _ _ _ (rw c.has_contact.ensures at c.if-has_contact.true) c.preferred-ccw.ensures c.choose.ensures c.in-None.is c.unstick.ensures

pub returns-else-has_contact : goal.returns-else-has_contact
returns-else-has_contact c = loose _ _ _ _ (rw c.has_contact.ensures at c.if-has_contact.false) c.regain.ensures

pub returns-in-Some : goal.returns-in-Some
returns-in-Some c =
    slides _ _ _ _ c.preferred-ccw.ensures c.choose.ensures c.in-Some.is c.slide.ensures

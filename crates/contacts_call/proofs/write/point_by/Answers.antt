-- `contacts_call::write::point_by` meets its contract: each kind has its own. Assumes nothing.
use mathlib.Core.Path.{sym}
use Rattle.contacts.specs.Touching.{point_by}
use Rattle.contacts.proofs.ByKind.{of_0, of_1, of_2}
use Rattle.contacts_call.proofs.write.point_by.Goals as goal

pub returns-in-0 : goal.returns-in-0
unfolding point_by
returns-in-0 c = sym (of_0 _ _ _ _ c.in-0.is)

pub returns-in-1 : goal.returns-in-1
unfolding point_by
returns-in-1 c = sym (of_1 _ _ _ _ c.in-1.is)

pub returns-in_default : goal.returns-in_default
unfolding point_by
returns-in_default c =
    let m = c.in_default.in_default-own.rest in
    sym (of_2 _ _ _ _ m.0.1 m.1)

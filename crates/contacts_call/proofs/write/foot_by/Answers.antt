-- `contacts_call::write::foot_by` meets its contract: the stationary vertex of the kind 1, and else the orbiting one. Assumes nothing.
use mathlib.Core.Path.{sym, ◌∙◌}
use Rattle.contacts.proofs.ByKind.{of_1, but_1}
use Rattle.contacts_call.specs.Which.{foot_by}
use Rattle.contacts_call.proofs.write.foot_by.Goals as goal

pub returns-in-1 : goal.returns-in-1
unfolding foot_by
returns-in-1 c = c.foot_of.ensures ∙ sym (of_1 _ _ _ _ c.in-1.is)

pub returns-in_default : goal.returns-in_default
unfolding foot_by
returns-in_default c = c.foot_of-in_default.ensures ∙ sym (but_1 _ _ _ c.in_default.in_default-own.rest.1)

-- `contacts_call::write::contact_foot` meets its contract: the edges, the kind's own foot, and its code. Assumes nothing.
use Rattle.contacts_call.specs.Which.{contact_foot}
use Rattle.contacts_call.proofs.write.contact_foot.Goals as goal

pub returns : goal.returns
unfolding contact_foot
returns c = rw (c.foot_code.ensures, c.foot_by.ensures, c.edges_of.ensures)

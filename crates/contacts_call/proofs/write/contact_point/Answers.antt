-- `contacts_call::write::contact_point` meets its contract: the edges, and then the kind's own. Assumes nothing.
use Rattle.contacts.specs.Touching.{contact_point}
use Rattle.contacts_call.proofs.write.contact_point.Goals as goal

pub returns : goal.returns
unfolding contact_point
returns c = rw (c.point_by.ensures, c.edges_of.ensures)

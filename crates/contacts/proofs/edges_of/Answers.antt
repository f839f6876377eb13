-- `contacts::edges_of` meets its contract: the four ends. Assumes nothing.
use Rattle.contacts.specs.Touching.{edges_of}
use Rattle.contacts.proofs.edges_of.Goals as goal

pub returns : goal.returns
unfolding edges_of
returns c =
    rw (c.edge_end-2.ensures, c.point_at-2.ensures, c.edge_end.ensures, c.point_at.ensures)

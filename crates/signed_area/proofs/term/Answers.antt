-- `signed_area::term` meets its contract: the two vertices, and then the operations of the definition. Assumes nothing.
use Rattle.signed_area.specs.Area.{term_of}
use Rattle.signed_area.proofs.term.Goals as goal

pub returns : goal.returns
unfolding term_of
returns c =
    rw (c.point_at-q.ensures, c.next.ensures.0, c.point_at-p.ensures)

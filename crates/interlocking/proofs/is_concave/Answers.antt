-- `interlocking::is_concave` meets its contract: the three vertices, then their turn. Assumes nothing.
use Rattle.interlocking.specs.Interlocking.{concave_of}
use Rattle.interlocking.proofs.is_concave.Goals as goal

pub returns : goal.returns
unfolding concave_of
returns c =
    rw (c.turn.ensures, c.point_at-c.ensures, c.next.ensures.0, c.point_at-b.ensures, c.point_at-a.ensures, c.previous.ensures.0)

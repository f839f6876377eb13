-- `path_check::calls::check_path` meets its contract: what passes the tests are polygons. Assumes nothing.
use Rattle.path_check.proofs.Placed.{polygons, lent_sides}
use Rattle.path_check.proofs.calls.check_path.Goals as goal

pub path_fault-requires : goal.path_fault-requires
path_fault-requires c =
    let p = polygons _ _ _ _ c.in_ok-checking.ensures in
    record { sides = lent_sides _ _ p.0 p.1; orbiting_len = (p.1.even, p.1.most) }

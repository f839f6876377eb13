-- `simplify::calls::simplify_polygon` meets its contract: the list is even, and its answer fits. Assumes nothing.
use mathlib.Core.Path.{ap, ◌∙◌}
use lib.ListN.{length}
use Rattle.refusals.specs.Screens.{wrong_room}
use Rattle.simplify.proofs.Screened.{even, fits}
use Rattle.simplify.proofs.calls.simplify_polygon.Goals as goal

pub simplify-requires : goal.simplify-requires
simplify-requires c =
    let a = c.args in
    record { list_len = even a.list.now a.tolerance (length a.room.now) c.in_ok-list.ensures; tolerance_in_bounds = fits a.list.now a.tolerance (length a.room.now) (c.in_ok-room.ensures ∙ ap (λ n. wrong_room n (length a.room.now)) c.points.ensures) }

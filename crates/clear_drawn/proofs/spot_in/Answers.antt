-- `clear_drawn::spot_in` meets its contract: the numbers of the point are as they stand in the path. Assumes nothing.
use Prim.Native.Nat.{◌+◌, ◌*◌}
use mathlib.Core.Path.{◌∙◌}
use lib.ListN.{get_or}
use lib.IntN.{ℤ, pos}
use Rattle.shifted.specs.Shifted.{spot_of}
use Rattle.clear_calls.proofs.Passed.{as_lent}
use Rattle.clear_drawn.proofs.spot_in.Goals as goal

pub returns : goal.returns
returns c =
    let s = c.args in
    let path = s.path.now in
    c.spot_of.ensures
    ∙ as_lent {dx = get_or path (2 * s.i) (pos 0)} {dy = get_or path (2 * s.i + 1) (pos 0)} (λ (x y : ℤ). spot_of x y)
    (record { sfits = c.spot_of-arg-1.given }) (record { sfits = c.spot_of-arg-2-1.given })

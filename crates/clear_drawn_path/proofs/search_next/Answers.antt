-- `clear_drawn_path::search_next` meets its contract: the leg to the next point. Assumes nothing.
use Prim.Native.Nat.{ℕ}
use native.Mathlib.Omega.{arith}
use mathlib.Core.Path.{ap, ◌∙◌}
use Rattle.clear_drawn.specs.Legs.{leg_least}
use Rattle.clear_drawn_path.proofs.Drawn.{leg_lent}
use Rattle.clear_drawn_path.proofs.search_next.Goals as goal

pub search_leg-requires : goal.search_leg-requires
search_leg-requires c =
    (leg_lent c.requires.0 _ _ c.requires.1 c.next.ensures.1, omega (arith, c.requires.0.ring_most))

pub returns : goal.returns
returns c =
    let s = c.args in
    c.search_leg.ensures.result_value ∙ ap (λ (k : ℕ). leg_least s.st.now s.disc.now s.path.now s.i k) c.next.ensures.0

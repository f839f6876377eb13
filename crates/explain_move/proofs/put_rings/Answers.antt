-- `explain_move::put_rings` meets its contract: the two parts of the list are the two rings. Assumes nothing.
use Rattle.std.proofs.Common.{◌≡◌, ℕ, ◌+◌, ◌*◌, ◌-◌, List, take, drop, ap, arith}
use Rattle.print.proofs.Puts.{reads}
use Rattle.pair_input.specs.Input.{first_part}
use Rattle.explain_move.specs.Said.{explained_text}
use Rattle.explain_move.proofs.put_rings.Goals as goal

pub returns : goal.returns
returns c =
    let a = c.args in
    let xs = a.xs.now in
    let e : (2 * a.n + 2 * a.m) - 2 * a.n ≡ 2 * a.m = omega arith in
    let said : ℕ → List ℕ = λ k. explained_text (first_part xs a.n) (take k (drop (2 * a.n) xs)) a.translation a.tolerance in
    reads (ap said e) c.put_pair.ensures

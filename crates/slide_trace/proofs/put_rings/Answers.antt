-- `slide_trace::put_rings` meets its contract: the two parts of the list are the two rings. Assumes nothing.
use Rattle.std.proofs.Common.{◌≡◌, ℕ, ◌+◌, ◌*◌, ◌-◌, take, drop, ap, arith}
use Rattle.print.proofs.Puts.{reads}
use Rattle.pair_input.specs.Input.{first_part}
use Rattle.slide_trace.specs.Said.{trace_text}
use Rattle.slide_trace.proofs.put_rings.Goals as goal

pub returns : goal.returns
returns c =
    let a = c.args in
    let e : (2 * a.n + 2 * a.m) - 2 * a.n ≡ 2 * a.m = omega arith in
    reads (ap (λ (k : ℕ). trace_text (first_part a.xs.now a.n) (take k (drop (2 * a.n) a.xs.now)) a.settings) e) c.put_trace.ensures

-- `clear_calls::judge` meets its contract: by what is found, and where it is clear by the room. Assumes nothing.
use borrow.Author.Rules.{rules}
use mathlib.Core.Path.{sym, ap, ◌∙◌}
use lib.IntN.{ℤ}
use Rattle.std.proofs.lemmas.Result.{err_from_is_err_and}
use Rattle.ring.specs.Room.{laid}
use Rattle.reason_check.specs.Told.{ground}
use Rattle.clear_calls.specs.Calls.{found_of, reason_of}
use Rattle.clear_calls.proofs.Passed.{as_lent, still_lent}
use Rattle.clear_calls.proofs.Written.{all_low, lowered, handed_other, handed_clear, handed_short}
use Rattle.clear_calls.proofs.judge.Goals as goal

pub lower-requires-clause-by_index : goal.lower-requires-clause-by_index
lower-requires-clause-by_index c =
    let st = c.args.stationary.now in
    let orb = c.args.orbiting.now in
    let is_clear = sym (ap ground c.in-Clear.is) ∙ c.search.ensures.result_value in
    all_low st orb _ _ _ c.search.ensures.lines_after is_clear (still_lent st orb c.ranges.dx c.ranges.dy c.requires) (search rules)

pub returns-in_ok-fit-in-Clear : goal.returns-in_ok-fit-in-Clear
returns-in_ok-fit-in-Clear c =
    let st = c.args.stationary.now in
    let orb = c.args.orbiting.now in
    let held = c.args.reason.now in
    let told = sym (ap ground c.in-Clear.is) ∙ c.search.ensures.result_value in
    let found = told ∙ as_lent (λ (x y : ℤ). found_of st orb x y) c.ranges.dx c.ranges.dy in
    let out = lowered st orb _ _ _ c.search.ensures.lines_after told held c.lower.ensures
    ∙ as_lent (λ (x y : ℤ). laid (reason_of st orb x y) held) c.ranges.dx c.ranges.dy in
    handed_clear _ _ (reason_of st orb c.args.dx c.args.dy) held found c.in_ok-fit-in-Clear.ensures out

pub returns-in_err-fit-in-Clear : goal.returns-in_err-fit-in-Clear
returns-in_err-fit-in-Clear c =
    let told = sym (ap ground c.in-Clear.is) ∙ c.search.ensures.result_value in
    let found = told ∙ as_lent (λ (x y : ℤ). found_of c.args.stationary.now c.args.orbiting.now x y) c.ranges.dx c.ranges.dy in
    let p = err_from_is_err_and c.from_residual.result c.from_residual.ensures.1 in
    rw (p.1, p.2) (handed_short _ _ _ _ found _ c.in_err-fit-in-Clear.ensures)

pub returns-in_default : goal.returns-in_default
returns-in_default c =
    let found = c.search.ensures.result_value
    ∙ as_lent (λ (x y : ℤ). found_of c.args.stationary.now c.args.orbiting.now x y) c.ranges.dx c.ranges.dy in
    handed_other _ _ _ _ c.search.result c.in_default.not-Clear found

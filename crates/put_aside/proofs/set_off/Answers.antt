-- `put_aside::set_off` meets its contract: case by case. Assumes nothing.
use mathlib.Core.Path.{◌∙◌}
use Rattle.put_aside.specs.Aside.{set_off}
use Rattle.put_aside.proofs.Steps.{set_last}
use Rattle.put_aside.proofs.set_off.Goals as goal

pub returns-in-3 : goal.returns-in-3
unfolding set_off
returns-in-3 c = rw c.in-3.is c.step_by.ensures

pub returns-in-4 : goal.returns-in-4
unfolding set_off
returns-in-4 c = rw c.in-4.is c.step_by-in-4.ensures

pub returns-in-5 : goal.returns-in-5
unfolding set_off
returns-in-5 c = rw c.in-5.is c.step_by-in-5.ensures

pub returns-in-6 : goal.returns-in-6
unfolding set_off
returns-in-6 c = rw c.in-6.is c.step_by-in-6.ensures

pub returns-in-7 : goal.returns-in-7
unfolding set_off
returns-in-7 c = rw c.in-7.is c.step_by-in-7.ensures

pub returns-in-8 : goal.returns-in-8
unfolding set_off
returns-in-8 c = rw c.in-8.is c.step_by-in-8.ensures

pub returns-in-9 : goal.returns-in-9
unfolding set_off
returns-in-9 c = rw c.in-9.is c.step_by-in-9.ensures

pub returns-in_default : goal.returns-in_default
returns-in_default c =
    let r = c.in_default.in_default-own.rest in
    c.step_by-in_default.ensures
    ∙ set_last _ _ r.0.0.0.0.0.0.1 r.0.0.0.0.0.1 r.0.0.0.0.1 r.0.0.0.1 r.0.0.1 r.0.1 r.1

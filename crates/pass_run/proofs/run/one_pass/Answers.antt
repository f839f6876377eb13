-- `pass_run::run::one_pass` meets its contract: `proofs/Onward.antt` has its four cases. Assumes nothing.
use borrow.Author.Rules.{rules}
use native.Mathlib.Omega.{arith}
use mathlib.Core.Path.{sym, ap, ◌∙◌}
use lib.Seq.{length-take-le}
use Rattle.pass_run.proofs.Onward.{after_stop, after_stay, after_full, after_store}
use Rattle.pass_run.specs.Run.{Afterwards}
use Rattle.pass_run.proofs.run.one_pass.Goals as goal

pub overflow_mul-len : goal.overflow_mul-len
overflow_mul-len c = search rules

pub slice_bounds-pass-end-2 : goal.slice_bounds-pass-end-2
slice_bounds-pass-end-2 c = sym (length-take-le _ _ c.requires.stored_in_bounds)

pub pass-requires : goal.pass-requires
pass-requires c = record { orbiting_len = c.requires.orbiting_len; orbiting_len_bound = c.requires.orbiting_len_bound; sides = c.requires.sides; directed = c.requires.directed }

pub returns-then-room-len-lt2 : goal.returns-then-room-len-lt2
returns-then-room-len-lt2 c =
    let h = after_full _ _ _ c.pass.ensures c.in-Store.is c.if-room-len-lt2.true in
    (sym (ap (λ (d : Afterwards). d.answer) h), sym (ap (λ (d : Afterwards). d.room) h), tt)

pub returns-in-Stop : goal.returns-in-Stop
returns-in-Stop c =
    let h = after_stop _ _ _ c.pass.ensures c.in-Stop.is in
    (sym (ap (λ (d : Afterwards). d.answer) h), sym (ap (λ (d : Afterwards). d.room) h), tt)

pub returns-in-Stay : goal.returns-in-Stay
returns-in-Stay c =
    let h = after_stay _ _ _ c.pass.ensures c.in-Stay.is in
    (sym (ap (λ (d : Afterwards). d.answer) h), sym (ap (λ (d : Afterwards). d.room) h), omega (arith, c.requires.stored_in_bounds))

pub returns-else-room-len-lt2 : goal.returns-else-room-len-lt2
returns-else-room-len-lt2 c =
    let h = after_store _ _ _ c.pass.ensures c.in-Store.is c.if-room-len-lt2.false in
    (sym (ap (λ (d : Afterwards). d.answer) h), c.put.ensures ∙ sym (ap (λ (d : Afterwards). d.room) h), omega arith)

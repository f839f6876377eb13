-- `reading::pushed` meets its contract: the four ends of a step. Assumes nothing.
use Rattle.reading.proofs.Step.{push_none, push_second, push_past, push_first}
use Rattle.reading.proofs.pushed.Goals as goal

pub returns-then-u-v : goal.returns-then-u-v
returns-then-u-v c =
    let a = c.args in
    push_none a.s a.u a.v c.if-u-v.true

pub returns-then-u-v-2 : goal.returns-then-u-v-2
returns-then-u-v-2 c =
    let a = c.args in
    push_second a.s a.u a.v c.if-u-v.false c.if-u-v-2.true

pub returns-then-t-s : goal.returns-then-t-s
returns-then-t-s c =
    let a = c.args in
    push_past a.s a.u a.v c.if-u-v.false c.if-u-v-2.false c.if-t-s.true

pub returns : goal.returns
returns c =
    let a = c.args in
    push_first a.s a.u a.v c.if-u-v.false c.if-u-v-2.false c.if-t-s.false

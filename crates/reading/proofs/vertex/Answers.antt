-- `reading::vertex` meets its contract: onward or back, and round the end. Assumes nothing.
use Rattle.reading.proofs.Places.{onward_low, onward_high, back_low, back_high}
use Rattle.reading.proofs.vertex.Goals as goal

pub returns-then-v-n : goal.returns-then-v-n
returns-then-v-n c =
    onward_low c.args.n c.args.c c.args.i c.requires.1 c.requires.2 c.if-c-n.true c.if-v-n.true

pub returns-else-v-n : goal.returns-else-v-n
returns-else-v-n c =
    onward_high c.args.n c.args.c c.args.i c.requires.1 c.requires.2 c.if-c-n.true c.if-v-n.false

pub returns-then-v-n-2 : goal.returns-then-v-n-2
returns-then-v-n-2 c =
    back_low c.args.n c.args.c c.args.i c.requires.1 c.requires.2 c.if-c-n.false c.if-v-n-2.true

pub returns-else-v-n-2 : goal.returns-else-v-n-2
returns-else-v-n-2 c =
    back_high c.args.n c.args.c c.args.i c.requires.1 c.requires.2 c.if-c-n.false c.if-v-n-2.false

-- `discs::turned_by` meets its contract: one quarter after the other. Assumes nothing.
use mathlib.Core.Path.{◌≡◌}
use native.Mathlib.Omega.{arith}
use Rattle.discs.specs.Disc.{turned_by}
use Rattle.discs.proofs.Turned.{turn_narrow}
use Rattle.discs.proofs.turned_by.Goals as goal

pub returns-then-q-eq0 : goal.returns-then-q-eq0
unfolding turned_by
returns-then-q-eq0 c = rw c.if-q-eq0.true

pub quarter_turn-once-requires : goal.quarter_turn-once-requires
quarter_turn-once-requires c = c.requires.1

pub returns-then-q-eq1 : goal.returns-then-q-eq1
unfolding turned_by
returns-then-q-eq1 c = rw (c.if-q-eq1.true, c.quarter_turn-once.ensures)

pub quarter_turn-twice-requires : goal.quarter_turn-twice-requires
quarter_turn-twice-requires c = turn_narrow _ c.quarter_turn-once.ensures c.requires.1

pub returns-then-q-eq2 : goal.returns-then-q-eq2
unfolding turned_by
returns-then-q-eq2 c =
    rw (c.if-q-eq2.true, c.quarter_turn-twice.ensures, c.quarter_turn-once.ensures)

pub quarter_turn-requires : goal.quarter_turn-requires
quarter_turn-requires c =
    turn_narrow _ c.quarter_turn-twice.ensures (turn_narrow _ c.quarter_turn-once.ensures c.requires.1)

pub returns : goal.returns
unfolding turned_by
returns c =
    let q : c.args.q ≡ 3 = omega (arith, c.if-q-eq2.false, c.if-q-eq1.false, c.if-q-eq0.false, c.requires.0) in
    rw (q, c.quarter_turn.ensures, c.quarter_turn-twice.ensures, c.quarter_turn-once.ensures)

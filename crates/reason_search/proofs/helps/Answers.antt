-- `reason_search::helps` meets its contract: the flag, and then the edge. Assumes nothing.
use Rattle.reason_search.proofs.Flags.{helps_is, helps_not}
use Rattle.reason_search.proofs.helps.Goals as goal

pub edge_right-requires : goal.edge_right-requires
edge_right-requires c =
    (c.way_line-l.ensures.1, c.way_line-l.ensures.2, c.requires.1, c.requires.2)

pub returns-then-flags-c-eq1 : goal.returns-then-flags-c-eq1
returns-then-flags-c-eq1 c =
    helps_is c.args.a.now c.args.b.now _ _ _ (c.requires.0.noted c.args.c c.requires.3) c.if-flags-c-eq1.true
    c.way_line-l.ensures.0 c.edge_right.ensures

pub returns-else-flags-c-eq1 : goal.returns-else-flags-c-eq1
returns-else-flags-c-eq1 c =
    helps_not c.args.a.now c.args.b.now _ _ _ (c.requires.0.noted c.args.c c.requires.3) c.if-flags-c-eq1.false

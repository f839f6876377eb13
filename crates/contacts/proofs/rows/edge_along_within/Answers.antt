-- `contacts::rows::edge_along_within` meets its contract: `proofs/Skipped.antt` has the row passed over. Assumes nothing.
use Rattle.contacts.proofs.Skipped.{no_along}
use Rattle.contacts.proofs.rows.edge_along_within.Goals as goal

pub returns-then-is_apart : goal.returns-then-is_apart
returns-then-is_apart c = no_along _ _ _ _ _ c.requires.from_bound c.requires.around _ _ c.with_edge.ensures.0 c.is_apart.ensures c.if-is_apart.true

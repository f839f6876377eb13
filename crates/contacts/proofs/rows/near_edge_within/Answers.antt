-- `contacts::rows::near_edge_within` meets its contract: `proofs/Skipped.antt` has the row passed over. Assumes nothing.
use Rattle.contacts.proofs.Skipped.{no_near}
use Rattle.contacts.proofs.rows.near_edge_within.Goals as goal

pub returns-then-is_apart : goal.returns-then-is_apart
returns-then-is_apart c = no_near _ _ _ _ _ c.requires.from_bound c.requires.around _ c.frame_at.ensures c.is_apart.ensures c.if-is_apart.true

-- `contacts::rows::is_on` meets its contract. Assumes nothing.
use mathlib.Core.Path.{sym}
use Rattle.contacts.proofs.rows.is_on.Goals as goal

pub returns-then-is_beside : goal.returns-then-is_beside
returns-then-is_beside c = sym (c.is_beside.ensures c.if-is_beside.true)

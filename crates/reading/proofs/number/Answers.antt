-- `reading::number` meets its contract: from the last vertex back, or from the first onward. Assumes nothing.
use borrow.Author.Rules.{rules}
use Rattle.reading.proofs.number.Goals as goal

pub returns-then-back : goal.returns-then-back
returns-then-back c = rw c.if-back.true (search rules)

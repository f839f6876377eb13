-- `lines::put_number` meets its contract: three texts, one after the other. Assumes nothing.
use Rattle.print.proofs.Puts.{then}
use Rattle.lines.proofs.put_number.Goals as goal

-- LEFT slice-aggregate-put-text : tie.Need-slice-aggregate-put-text
-- slice-aggregate-put-text c = search rules

-- LEFT slice-aggregate-put-text-2 : tie.Need-slice-aggregate-put-text-2
-- slice-aggregate-put-text-2 c = search rules

pub returns : goal.returns
returns c =
    then c.put_text-at.ensures (then c.put_decimal-end.ensures.0 c.put_text.ensures)

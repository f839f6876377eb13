-- `number_bytes::bits_of` meets its contract: what equals itself is no NaN. Assumes nothing.
use Rattle.number_bytes.proofs.Nan.{equals_itself, differs_from_itself}
use Rattle.number_bytes.proofs.bits_of.Goals as goal

pub float_to_bits-result : goal.float_to_bits-result
float_to_bits-result c = equals_itself _ c.if-x.true

pub returns-else-x : goal.returns-else-x
returns-else-x c = differs_from_itself _ c.if-x.false

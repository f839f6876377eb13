-- `number_bytes::float_of` meets its contract: a pattern above that of an infinity is a NaN. Assumes nothing.
use Rattle.number_bytes.proofs.Nan.{a_nan, no_nan}
use Rattle.number_bytes.proofs.float_of.Goals as goal

pub float_from_bits-result : goal.float_from_bits-result
float_from_bits-result c = no_nan _ c.if-bits-gt9218868437227405312.false

pub returns-then-bits-gt9218868437227405312 : goal.returns-then-bits-gt9218868437227405312
returns-then-bits-gt9218868437227405312 c = a_nan _ c.if-bits-gt9218868437227405312.true

-- `explain_move::put_input` meets its contract. Assumes nothing.
use Rattle.std.proofs.Common.{arith}
use Rattle.print.proofs.Puts.{reads}
use Rattle.explain_move.proofs.Inputs.{too_short, input_said}
use Rattle.explain_move.proofs.put_input.Goals as goal

pub returns-then-input-lt-WORDS_BYTES : goal.returns-then-input-lt-WORDS_BYTES
returns-then-input-lt-WORDS_BYTES c = reads (too_short c.args.input.now c.if-input-lt-WORDS_BYTES.true) c.put_number.ensures

pub returns : goal.returns
returns c =
    reads (input_said c.args.input.now (omega (arith, c.if-input-lt-WORDS_BYTES.false)) c.move_in.ensures c.tolerance_in.ensures) c.put_book.ensures

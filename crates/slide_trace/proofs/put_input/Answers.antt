-- `slide_trace::put_input` meets its contract. Assumes nothing.
use Rattle.print.proofs.Puts.{reads}
use Rattle.slide_trace.proofs.Inputs.{too_short, input_said}
use Rattle.slide_trace.proofs.put_input.Goals as goal

pub returns-then-input-lt-SETTINGS_BYTES : goal.returns-then-input-lt-SETTINGS_BYTES
returns-then-input-lt-SETTINGS_BYTES c = reads (too_short c.args.input.now c.if-input-lt-SETTINGS_BYTES.true) c.put_refusal.ensures

pub returns : goal.returns
returns c = reads (input_said c.args.input.now c.settings.ensures) c.put_book.ensures

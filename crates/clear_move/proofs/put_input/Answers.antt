-- `clear_move::put_input` meets its contract: the move, and the book after it. Assumes nothing.
use Rattle.std.proofs.Common.{ap, ◌∙◌, w32, SFits, rules, arith}
use mir.ValLaws.{to_z-of_z}
use Rattle.lines.specs.Lines.{refusal_line}
use Rattle.print.proofs.Puts.{reads}
use Rattle.clear_move.proofs.Inputs.{too_short, input_said}
use Rattle.clear_move.proofs.put_input.Goals as goal

pub returns-then-input-lt-MOVE_BYTES : goal.returns-then-input-lt-MOVE_BYTES
returns-then-input-lt-MOVE_BYTES c =
    reads (too_short c.args.input.now c.if-input-lt-MOVE_BYTES.true) c.put_refusal.ensures

pub returns : goal.returns
returns c =
    let f : SFits w32 c.whole_word.result = search rules in
    let g : SFits w32 c.whole_word-2.result = search rules in
    let u = to_z-of_z w32 _ f ∙ c.whole_word.ensures in
    let v = to_z-of_z w32 _ g ∙ c.whole_word-2.ensures in
    reads (input_said c.args.input.now (omega (arith, c.if-input-lt-MOVE_BYTES.false)) u v) c.put_book.ensures

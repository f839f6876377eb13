-- The numbers before at are those of the first i rings, which follow what the room held.
use Rattle.std.proofs.Common.{◌≡◌, true, ◌+◌, ◌*◌, ◌≤◌, length, take, drop}
use Rattle.print.specs.Text.{Put}
use Rattle.refusals.specs.Rings.{total, sized_all}
use Rattle.ring_printer.specs.Said.{ring_texts}
use Rattle.ring_printer.proofs.put_rings.Given as goal

abbrev pub invariant-loop-i : goal.invariant-loop-i
invariant-loop-i l =
    (length l.out ≡ length l.initial.out) × (l.next ≤ 100 + 9000 * l.i) × (l.at ≡ 2 * total (take l.i l.counts))
    × (sized_all (drop l.i l.counts) ≡ true) × Put l.initial.out l.from (ring_texts l.counts l.parts l.xs l.i) l.out l.next

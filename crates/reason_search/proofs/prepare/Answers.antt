-- `reason_search::prepare` meets its contract: the flags stand, or are noted now. Assumes nothing.
use native.Mathlib.Omega.{arith}
use Rattle.reason_search.proofs.Flags.{already, now_noted}
use Rattle.reason_search.proofs.prepare.Goals as goal

pub bounds-flags-1536 : goal.bounds-flags-1536
bounds-flags-1536 c = omega (arith, c.requires.room)

pub returns-then-flags : goal.returns-then-flags
returns-then-flags c =
    let p = c.requires in
    record { ready = p; prepared = already p c.if-flags.true }

pub note-requires : goal.note-requires
note-requires c =
    let p = c.requires in
    (p.moved, omega (arith, p.most, p.room))

pub bounds-flags-1536-2 : goal.bounds-flags-1536-2
bounds-flags-1536-2 c =
    omega (arith, c.note.auto.flags, c.requires.room)

pub returns : goal.returns
returns c =
    let p = c.requires in
    record { ready = (now_noted c.note.new.flags p c.note.auto.flags c.note.ensures).0; prepared = (now_noted c.note.new.flags p c.note.auto.flags c.note.ensures).1 }

-- `book_writer::store::put_entries` meets its contract. The loop's invariant: with the entries from i on stored at their place, the room is what was
-- asked for, and the bytes before them are those of the rings passed. Assumes nothing.
use Prim.Native.Nat.{ℕ, ◌+◌, ◌*◌}
use mathlib.Core.Path.{◌≡◌, refl, sym, ap, ◌∙◌}
use mathlib.Core.List.{List}
use native.Mathlib.Omega.{arith}
use lib.ListN.{length, get_or, drop}
use lib.Seq.{sets, length-sets}
use Rattle.number_bytes.specs.Bytes.{bytes_of}
use Rattle.refusals.specs.Rings.{total}
use Rattle.book_layout.specs.Layout.{field_bytes, vertex_bytes, entry_bytes, entries}
use Rattle.refusals.proofs.Counts.{total_on}
use Rattle.book_writer.proofs.Storing.{entries_start, entries_on, entries_end}
use Rattle.book_writer.proofs.store.put_entries.Goals as goal
use Rattle.book_writer.proofs.store.put_entries.Goals.{In-loop-i}
use Rattle.book_writer.proofs.store.put_entries.Lts.View.{up-In-loop-i}

-- the count of this turn is a part of the total
share : (c : In-loop-i)
    → total (drop c.loop-i.i c.args.counts.now)
    ≡ get_or c.args.counts.now c.loop-i.i 0 + total (drop (c.loop-i.i + 1) c.args.counts.now)
share c = total_on c.args.counts.now c.loop-i.i c.loop-i-test.true

pub loop-i-init : goal.loop-i-init
loop-i-init c =
    let a = c.args in
    (refl, (omega arith), entries_start a.room.now a.counts.now a.parts.now a.from)

pub overflow_mul-before : goal.overflow_mul-before
overflow_mul-before c = omega (arith, share (up-In-loop-i _ _ _ _ _ _ c.before.before.before.before.before.before.before.before.before.before.before.before.before.before.before))

pub overflow_add-before : goal.overflow_add-before
overflow_add-before c = omega (arith, share (up-In-loop-i _ _ _ _ _ _ c.before.before.before.before.before.before.before.before.before.before.before.before.before.before.before))

pub loop-i-preserved : goal.loop-i-preserved
loop-i-preserved c =
    let ns = c.args.counts.now in
    let ps = c.args.parts.now in
    let i = c.loop-i.i in
    let n = get_or ns i 0 in
    let p = get_or ps i 0 in
    let room = c.loop-i.room in
    let a = c.args.from + entry_bytes * i in
    let b = c.loop-i.before in
    let r1 = sets room a (bytes_of field_bytes b) in
    let r2 = sets r1 (a + field_bytes) (bytes_of field_bytes n) in
    let e : c.put.new.room ≡ r1 = c.put.ensures in
    let f : c.put-in-loop-i.new.room ≡ r2 = c.put-in-loop-i.ensures ∙ ap (λ (r : List ℕ). sets r (a + field_bytes) (bytes_of field_bytes n)) e in
    let g : c.put-in-loop-i-2.new.room ≡ sets r2 (a + 2 * field_bytes) (bytes_of field_bytes p) =
    c.put-in-loop-i-2.ensures ∙ ap (λ (r : List ℕ). sets r (a + 2 * field_bytes) (bytes_of field_bytes p)) f in (
      ap length g
          ∙ length-sets r2 (a + 2 * field_bytes) (bytes_of field_bytes p)
          ∙ length-sets r1 (a + field_bytes) (bytes_of field_bytes n)
          ∙ length-sets room a (bytes_of field_bytes b)
          ∙ c.loop-i.invariant.0,
      (omega (arith, share (up-In-loop-i _ _ _ _ _ _ c.before.before.before.before.before.before.before.before.before.before.before.before.before.before.before))),
      c.loop-i.invariant.2
          ∙ entries_on room ns ps c.args.from b i c.requires.counts_bound.1 c.loop-i-test.true
          ∙ ap (λ (r : List ℕ). sets r (c.args.from + entry_bytes * (i + 1)) (entries (b + vertex_bytes * n) (drop (i + 1) ns) (drop (i + 1) ps))) (sym g),
    )

pub returns : goal.returns
returns c =
    sym
    (c.loop-i.invariant.2
    ∙ entries_end c.loop-i.room c.args.counts.now c.args.parts.now c.args.from c.loop-i.before c.loop-i.i c.requires.counts_bound.1 c.loop-i-test.false)

-- `book_writer::store::put_book` meets its contract: four runs of stores, one after the other. Assumes nothing.
use Prim.Native.Nat.{ℕ, ◌+◌, ◌*◌, ◌≤◌}
use mathlib.Core.Path.{◌≡◌, ap, ◌∙◌}
use mathlib.Core.List.{List}
use native.Mathlib.Omega.{arith}
use lib.ListN.{length}
use lib.Ieee.{Float}
use lib.Seq.{sets, length-sets}
use Rattle.number_bytes.specs.Bytes.{bytes_of}
use Rattle.refusals.specs.Rings.{vertices_most, total}
use Rattle.book_layout.specs.Layout.{field_bytes, vertex_bytes, entry_bytes, entries}
use Rattle.refusals.proofs.Counts.{total_bounds}
use Rattle.book_writer.proofs.Storing.{stored}
use Rattle.book_writer.proofs.Stored.{four_runs}
use Rattle.book_writer.proofs.store.put_book.Goals as goal
use Rattle.book_writer.proofs.store.put_book.Goals.{After-put, After-put_entries, After-put_rings, After-sum_of-from, Start}
use Rattle.book_writer.proofs.store.put_book.Lts.View.{up-After-put, up-After-put_entries, up-After-put_rings, up-After-sum_of-from}

-- what is lent, the sum, and that it is small
module _ (c : After-sum_of-from) where
  abbrev s : Start
  s = c.before.before.before.before.before.before

  abbrev xs : List Float
  xs = s.args.xs.now

  abbrev ns : List ℕ
  ns = s.args.counts.now

  abbrev ps : List ℕ
  ps = s.args.parts.now

  abbrev room : List ℕ
  room = s.args.room.now

  sum : c.sum_of-from.result ≡ total ns
  sum = c.sum_of-from.ensures.value

  small : total ns ≤ vertices_most * length ns
  small = (total_bounds ns s.requires.held.sized).1

-- the room after each run
first_run : (c : After-put_rings) → c.put_rings.new.room ≡ sets (room (up-After-sum_of-from _ _ _ _ c.before.before.before)) 0 (stored (ns (up-After-sum_of-from _ _ _ _ c.before.before.before)) (xs (up-After-sum_of-from _ _ _ _ c.before.before.before)))
first_run c = c.put_rings.ensures

first_length : (c : After-put_rings) → length c.put_rings.new.room ≡ length (room (up-After-sum_of-from _ _ _ _ c.before.before.before))
first_length c = ap length (first_run c) ∙ length-sets (room (up-After-sum_of-from _ _ _ _ c.before.before.before)) 0 (stored (ns (up-After-sum_of-from _ _ _ _ c.before.before.before)) (xs (up-After-sum_of-from _ _ _ _ c.before.before.before)))

second_run : (c : After-put_entries) → c.put_entries.new.room ≡ sets c.put_rings.new.room (vertex_bytes * total (ns (up-After-sum_of-from _ _ _ _ c.before.before.before.before.before.before.before))) (entries 0 (ns (up-After-sum_of-from _ _ _ _ c.before.before.before.before.before.before.before)) (ps (up-After-sum_of-from _ _ _ _ c.before.before.before.before.before.before.before)))
second_run c =
    c.put_entries.ensures ∙ ap (λ (j : ℕ). sets c.put_rings.new.room (vertex_bytes * j) (entries 0 (ns (up-After-sum_of-from _ _ _ _ c.before.before.before.before.before.before.before)) (ps (up-After-sum_of-from _ _ _ _ c.before.before.before.before.before.before.before)))) (sum (up-After-sum_of-from _ _ _ _ c.before.before.before.before.before.before.before))

second_length : (c : After-put_entries) → length c.put_entries.new.room ≡ length (room (up-After-sum_of-from _ _ _ _ c.before.before.before.before.before.before.before))
second_length c =
    ap length (second_run c) ∙ length-sets c.put_rings.new.room (vertex_bytes * total (ns (up-After-sum_of-from _ _ _ _ c.before.before.before.before.before.before.before))) (entries 0 (ns (up-After-sum_of-from _ _ _ _ c.before.before.before.before.before.before.before)) (ps (up-After-sum_of-from _ _ _ _ c.before.before.before.before.before.before.before))) ∙ first_length (up-After-put_rings _ _ _ _ c.before.before.before.before.before)

third_run : (c : After-put) → c.put.new.room ≡ sets c.put_entries.new.room (vertex_bytes * total (ns (up-After-sum_of-from _ _ _ _ c.before.before.before.before.before.before.before.before.before.before.before)) + entry_bytes * length (ns (up-After-sum_of-from _ _ _ _ c.before.before.before.before.before.before.before.before.before.before.before))) (bytes_of field_bytes (length (ns (up-After-sum_of-from _ _ _ _ c.before.before.before.before.before.before.before.before.before.before.before))))
third_run c =
    let n = length (ns (up-After-sum_of-from _ _ _ _ c.before.before.before.before.before.before.before.before.before.before.before)) in
    c.put.ensures ∙ ap (λ (j : ℕ). sets c.put_entries.new.room (vertex_bytes * j + entry_bytes * n) (bytes_of field_bytes n)) (sum (up-After-sum_of-from _ _ _ _ c.before.before.before.before.before.before.before.before.before.before.before))

pub sum_of-from-requires : goal.sum_of-from-requires
sum_of-from-requires c = c.requires.held.few

pub overflow_mul-from : goal.overflow_mul-from
overflow_mul-from c = omega (arith, sum c, small c)

pub overflow_add-tail : goal.overflow_add-tail
overflow_add-tail c = omega (arith, sum c, small c)

pub put_rings-requires : goal.put_rings-requires
put_rings-requires c =
    let h = c.requires.held in
    record { counts_value = (h.sized, h.whole, h.bounded); xs_in_bounds = (omega (arith, h.whole)) }

pub put_entries-requires : goal.put_entries-requires
put_entries-requires c =
    let here = up-After-sum_of-from _ _ _ _ c.before.before.before.before.before.before in
    record { counts_len_bound = ((s here).requires.held.few, (omega (arith, first_length (up-After-put_rings _ _ _ _ c.before.before.before.before), sum here, (s here).requires.counts_in_bounds))); counts_bound = ((omega (arith, small here, (s here).requires.held.few)), (s here).requires.held.many) }

pub put-requires : goal.put-requires
put-requires c =
    let here = up-After-sum_of-from _ _ _ _ c.before.before.before.before.before.before.before.before.before.before in
    omega (arith, second_length (up-After-put_entries _ _ _ _ c.before.before.before.before), sum here, (s here).requires.counts_in_bounds)

pub overflow_add-tail-2 : goal.overflow_add-tail-2
overflow_add-tail-2 c =
    let here = up-After-sum_of-from _ _ _ _ c.before.before.before.before.before.before.before.before.before.before.before.before.before.before in
    omega (arith, sum here, small here, (s here).requires.held.few)

pub put-requires-2 : goal.put-requires-2
put-requires-2 c =
    let here = up-After-sum_of-from _ _ _ _ c.before.before.before.before.before.before.before.before.before.before.before.before.before.before in
    let n = length (ns here) in
    omega (arith, ap length (third_run (up-After-put _ _ _ _ c.before.before.before.before)) ∙ length-sets c.put_entries.new.room (vertex_bytes * total (ns here) + entry_bytes * n) (bytes_of field_bytes n) ∙ second_length (up-After-put_entries _ _ _ _ c.before.before.before.before.before.before.before.before), sum here, (s here).requires.counts_in_bounds)

pub overflow_add-result : goal.overflow_add-result
overflow_add-result c =
    let here = up-After-sum_of-from _ _ _ _ c.before.before.before.before.before.before.before.before.before.before.before.before.before.before.before.before.before in
    omega (arith, sum here, small here, (s here).requires.held.few)

pub returns : goal.returns
returns c =
    let here = up-After-sum_of-from _ _ _ _ c.before.before.before.before.before.before.before.before.before.before.before.before.before.before.before.before.before in
    let f = vertex_bytes * total (ns here) in
    let n = length (ns here) in record {
      value = (omega (arith, sum here));
      room_after = c.put-2.ensures
          ∙ ap (λ (j : ℕ). sets c.put.new.room (vertex_bytes * j + entry_bytes * n + field_bytes) (bytes_of field_bytes (vertex_bytes * j))) (sum here)
          ∙ ap (λ (r : List ℕ). sets r (f + entry_bytes * n + field_bytes) (bytes_of field_bytes f)) (third_run (up-After-put _ _ _ _ c.before.before.before.before.before.before.before) ∙ ap (λ (r : List ℕ). sets r (f + entry_bytes * n) (bytes_of field_bytes n)) (second_run (up-After-put_entries _ _ _ _ c.before.before.before.before.before.before.before.before.before.before.before) ∙ ap (λ (r : List ℕ). sets r f (entries 0 (ns here) (ps here))) (first_run (up-After-put_rings _ _ _ _ c.before.before.before.before.before.before.before.before.before.before.before.before.before.before.before))))
          ∙ four_runs (xs here) (ns here) (ps here) (room here) (s here).requires.held.sized (s here).requires.held.whole (s here).requires.held.many (s here).requires.counts_in_bounds;
    }

-- `book_writer::store::put_rings` meets its contract. The loop's invariant: with the rings from i on stored at their place, the room is what was asked
-- for; the coordinates from at on are those of the rings left. Assumes nothing.
use Prim.Native.Nat.{ℕ, ◌+◌, ◌*◌, ◌≤◌}
use mathlib.Core.Path.{◌≡◌, refl, sym, ap, ◌∙◌}
use mathlib.Core.Bool.{true}
use mathlib.Core.List.{List}
use native.Mathlib.Omega.{arith}
use lib.ListN.{length, get_or, take, drop}
use lib.Seq.{sets, length-sets}
use lib.Ieee.{Float}
use Rattle.reading.specs.Reading.{flat, least_reading}
use Rattle.reading.specs.Lent.{ring_of}
use Rattle.refusals.specs.Rings.{vertices_least, vertices_most, total, sized_all}
use Rattle.book_layout.specs.Layout.{coordinate_bytes, coord_bytes}
use Rattle.refusals.proofs.Counts.{total_on, sized_here}
use Rattle.book_writer.proofs.Storing.{stored, rings_on, rings_end}
use Rattle.book_writer.proofs.Part.{part_is, part_length, part_lent}
use Rattle.book_writer.proofs.store.put_rings.Goals as goal
use Rattle.book_writer.proofs.store.put_rings.Goals.{At-loop-n, In-loop-n}
use Rattle.book_writer.proofs.store.put_rings.Lts.View.{up-At-loop-n, up-In-loop-n}

-- the ring of this turn
module _ (c : In-loop-n) where
  abbrev l : At-loop-n
  l = up-At-loop-n _ _ _ _ _ _ c.before.before

  abbrev xs : List Float
  xs = l.args.xs.now

  abbrev ns : List ℕ
  ns = l.args.counts.now

  abbrev n : ℕ
  n = get_or ns l.loop-n.n-index 0

  sized : (vertices_least ≤ n) × (n ≤ vertices_most) × (sized_all (drop (l.loop-n.n-index + 1) ns) ≡ true)
  sized = sized_here ns l.loop-n.n-index c.loop-n-test.true l.loop-n.invariant.2

  left : l.loop-n.at + 2 * n + 2 * total (drop (l.loop-n.n-index + 1) ns) ≡ length xs
  left = omega (arith, total_on ns l.loop-n.n-index c.loop-n-test.true, l.loop-n.invariant.1)

  inside : (n ≤ vertices_most) × (l.loop-n.at + 2 * n ≤ length xs)
  inside = (sized.1, (omega (arith, left)))

pub loop-n-init : goal.loop-n-init
loop-n-init c =
    let h = c.requires.counts_value in
    (refl, (omega (arith, h.1)), h.0, refl)

pub overflow_mul-end : goal.overflow_mul-end
overflow_mul-end c = omega (arith, inside (up-In-loop-n _ _ _ _ _ _ c.before.before))

pub overflow_add-end : goal.overflow_add-end
overflow_add-end c = omega (arith, inside (up-In-loop-n _ _ _ _ _ _ c.before.before))

pub offset_bounds-xs-at : goal.offset_bounds-xs-at
offset_bounds-xs-at c = omega (arith, inside (up-In-loop-n _ _ _ _ _ _ c.before.before))

pub slice_bounds-put_least-count : goal.slice_bounds-put_least-count
slice_bounds-put_least-count c = omega (arith, inside (up-In-loop-n _ _ _ _ _ _ c.before.before))

pub slice_bounds-put_least-start : goal.slice_bounds-put_least-start
slice_bounds-put_least-start c = omega (arith, inside (up-In-loop-n _ _ _ _ _ _ c.before.before))

pub slice_bounds-put_least-end : goal.slice_bounds-put_least-end
slice_bounds-put_least-end c = omega (arith, inside (up-In-loop-n _ _ _ _ _ _ c.before.before))

pub overflow_mul-at : goal.overflow_mul-at
overflow_mul-at c = omega (arith, inside (up-In-loop-n _ _ _ _ _ _ c.before.before.before.before))

pub put_least-requires : goal.put_least-requires
put_least-requires c =
    let here = up-In-loop-n _ _ _ _ _ _ c.before.before.before.before in
    let t = c.requires.counts_value.2 in
    let z = part_length (xs here) (l here).loop-n.at (n here) t (inside here).1 in record { lent = part_lent (xs here) (l here).loop-n.at (n here) t (inside here).1 (inside here).0; ring_nonzero = ((omega (arith, (sized here).0)), (omega (arith, (inside here).1, c.requires.xs_in_bounds, (l here).loop-n.invariant.0))) }

pub loop-n-preserved : goal.loop-n-preserved
loop-n-preserved c =
    let here = up-In-loop-n _ _ _ _ _ _ c.before.before.before.before.before.before.before in
    let at = (l here).loop-n.at in
    let i = (l here).loop-n.n-index in
    let room = (l here).loop-n.room in
    let u = coord_bytes (flat (least_reading (ring_of (take (2 * n here) (drop at (xs here)))))) in
    let e : c.put_least.new.room ≡ sets room (coordinate_bytes * at) u =
    c.put_least.ensures
    ∙ ap (λ (p : List Float). sets room (coordinate_bytes * at) (coord_bytes (flat (least_reading (ring_of p))))) (part_is (xs here) at (n here) (l here).requires.counts_value.2 (inside here).1) in (
      ap length e ∙ length-sets room (coordinate_bytes * at) u ∙ (l here).loop-n.invariant.0,
      left here,
      (sized here).2,
      (l here).loop-n.invariant.3
          ∙ rings_on room (ns here) (xs here) at i c.loop-n-test.true (omega (arith, (sized here).0)) (inside here).1
          ∙ ap (λ (r : List ℕ). sets r (coordinate_bytes * (at + 2 * n here)) (stored (drop (i + 1) (ns here)) (drop (at + 2 * n here) (xs here)))) (sym e),
    )

pub returns : goal.returns
returns c =
    let a = c.args in
    sym (c.loop-n.invariant.3 ∙ rings_end c.loop-n.room a.counts.now a.xs.now c.loop-n.at c.loop-n.n-index c.loop-n-test.false)

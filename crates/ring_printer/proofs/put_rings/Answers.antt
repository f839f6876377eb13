-- `ring_printer::put_rings` meets its contract: the ring of each turn lies after the numbers of the rings before it. Assumes nothing.
use Rattle.std.proofs.Common.{◌≡◌, ℕ, ◌+◌, ◌*◌, ◌≤◌, ◌<◌, List, length, get_or, take, drop, refl, ap, subst, ◌∙◌, arith}
use Rattle.print.specs.Text.{Put}
use Rattle.refusals.specs.Rings.{total}
use Rattle.refusals.proofs.Counts.{total_on, sized_here}
use Rattle.ring_printer.specs.Said.{ring_texts}
use Rattle.ring_printer.proofs.Rings.{total_parts, no_ring, ring_more, part_is, part_long}
use Rattle.ring_printer.proofs.put_rings.Goals as goal

-- where the ring of this turn ends, and that it does so inside the list
next_at : (ns : List ℕ) (i at : ℕ) → i < length ns → at ≡ 2 * total (take i ns) → at + 2 * get_or ns i 0 ≡ 2 * total (take (i + 1) ns)
next_at ns i at h e = omega (arith, total_parts i ns, total_parts (i + 1) ns, total_on ns i h, e)

inside : (ns : List ℕ) (i at most : ℕ) → i < length ns → at ≡ 2 * total (take i ns) → 2 * total ns ≤ most → at + 2 * get_or ns i 0 ≤ most
inside ns i at most h e w = omega (arith, next_at ns i at h e, total_parts (i + 1) ns)

pub loop-i-init : goal.loop-i-init
loop-i-init c =
    let a = c.args in
    let z : 0 ≡ 2 * total (take 0 a.counts.now) = omega (arith, total_parts 0 a.counts.now) in
    (refl, omega arith, z, c.requires.counts_len_bound.1, no_ring a.counts.now a.parts.now a.xs.now a.out.now a.from)

pub overflow_add-end : goal.overflow_add-end
overflow_add-end c =
    omega (arith, inside c.args.counts.now c.loop-i.i c.loop-i.at (length c.args.xs.now) c.loop-i-test.true c.loop-i.invariant.2 c.requires.counts_len_bound.2)

pub offset_bounds-xs-at : goal.offset_bounds-xs-at
offset_bounds-xs-at c =
    omega (arith, inside c.args.counts.now c.loop-i.i c.loop-i.at (length c.args.xs.now) c.loop-i-test.true c.loop-i.invariant.2 c.requires.counts_len_bound.2)

pub slice_bounds-put_ring-end : goal.slice_bounds-put_ring-end
slice_bounds-put_ring-end c =
    omega (arith, inside c.args.counts.now c.loop-i.i c.loop-i.at (length c.args.xs.now) c.loop-i-test.true c.loop-i.invariant.2 c.requires.counts_len_bound.2)

pub put_ring-next-requires : goal.put_ring-next-requires
put_ring-next-requires c =
    let ns = c.args.counts.now in
    let i = c.loop-i.i in (
      part_long c.args.xs.now c.loop-i.at (get_or ns i 0) (inside ns i c.loop-i.at (length c.args.xs.now) c.loop-i-test.true c.loop-i.invariant.2 c.requires.counts_len_bound.2),
      (sized_here ns i c.loop-i-test.true c.loop-i.invariant.3).1,
      omega arith,
    )

pub loop-i-preserved : goal.loop-i-preserved
loop-i-preserved c =
    let a = c.args in
    let ns = a.counts.now in
    let xs = a.xs.now in
    let i = c.loop-i.i in
    let at = c.loop-i.at in
    let p = c.put_ring-next in (
      p.auto.out ∙ c.loop-i.invariant.0,
      omega (arith, p.ensures.1),
      next_at ns i at c.loop-i-test.true c.loop-i.invariant.2,
      (sized_here ns i c.loop-i-test.true c.loop-i.invariant.3).2,
      ring_more ns a.parts.now xs _ i (get_or ns i 0) c.loop-i.invariant.4 p.ensures.0 refl
          (part_is xs at (get_or ns i 0) ∙ ap (λ (j : ℕ). take (2 * get_or ns i 0) (drop j xs)) c.loop-i.invariant.2),
    )

pub returns : goal.returns
returns c =
    let a = c.args in
    let q : c.loop-i.i ≡ length a.counts.now = omega (arith, c.loop-i.auto.i-end, c.loop-i-test.false) in
    subst (λ (k : ℕ). Put a.out.now a.from (ring_texts a.counts.now a.parts.now a.xs.now k) c.loop-i.out c.loop-i.next) q c.loop-i.invariant.4

-- `contacts::next_edges` meets its contract: `proofs/Regions.antt` has its cases. Assumes nothing.
use native.Mathlib.Omega.{arith}
use Rattle.pairs.proofs.Numbers.{most}
use Rattle.contacts.proofs.Regions.{rows_in, none_past, last_hit, last_none}
use Rattle.contacts.proofs.next_edges.Goals as goal

-- LEFT mul-t18 : tie.Need-overflow-mul-t18
-- mul-t18 c = omega (arith, most _ _ c.before.before.before.before.before.requires.0)

-- LEFT add-t19 : tie.Need-overflow-add-t19
-- add-t19 c = omega (arith, most _ _ c.before.before.before.before.before.requires.0, c.if2.true)

pub overflow_mul-m : goal.overflow_mul-m
overflow_mul-m c = omega (arith, most _ _ c.requires.sides)

pub overflow_mul-m-2 : goal.overflow_mul-m-2
overflow_mul-m-2 c = omega (arith, most _ _ c.requires.sides)

pub overflow_mul-j : goal.overflow_mul-j
overflow_mul-j c = omega (arith, most _ _ c.requires.sides)

pub overflow_sub-j : goal.overflow_sub-j
overflow_sub-j c = omega (arith, c.requires.orbiting_bound.0)

pub nonzero_div-j : goal.nonzero_div-j
nonzero_div-j c = omega (arith, c.requires.sides.orbiting_some)

pub nonzero_rem-j : goal.nonzero_rem-j
nonzero_rem-j c = omega (arith, c.requires.sides.orbiting_some)

pub scan_edges-k-requires : goal.scan_edges-k-requires
scan_edges-k-requires c = record { s_bound = rows_in _ _ c.requires.sides _ (omega (arith, c.if-from-m.true, c.requires.orbiting_bound.0)); stationary_bound = (c.requires.sides.stationary_most, c.requires.sides.orbiting_most); around = c.requires.framed.1 }

pub returns-then-k-m : goal.returns-then-k-m
returns-then-k-m c =
    last_hit _ _ _ c.requires.sides _ _ c.requires.orbiting_bound.0 c.scan_edges-k.ensures c.if-k-m.true

pub returns-else-k-m : goal.returns-else-k-m
returns-else-k-m c =
    last_none _ _ _ c.requires.sides _ _ c.requires.orbiting_bound.0 c.scan_edges-k.ensures c.if-k-m.false

pub returns-else-from-m : goal.returns-else-from-m
returns-else-from-m c = none_past _ _ _ c.requires.sides _ c.if-from-m.false

-- `contacts::next_later` meets its contract: `proofs/Regions.antt` has its cases. Assumes nothing.
use native.Mathlib.Omega.{arith}
use mathlib.Core.Path.{sym, ap, ◌∙◌}
use Rattle.pairs.proofs.Numbers.{most}
use Rattle.contacts.specs.Contacts.{first_contact}
use Rattle.contacts.proofs.Regions.{rows_in, later_hit, later_end}
use Rattle.contacts.proofs.next_later.Goals as goal

-- LEFT add-t16 : tie.Need-overflow-add-t16
-- add-t16 c = omega (arith, most _ _ c.before.before.before.before.before.requires.0, c.if2.true)

pub overflow_mul-m : goal.overflow_mul-m
overflow_mul-m c = omega (arith, most _ _ c.requires.sides)

pub overflow_mul-m-2 : goal.overflow_mul-m-2
overflow_mul-m-2 c = omega (arith, most _ _ c.requires.sides)

pub overflow_sub-j : goal.overflow_sub-j
overflow_sub-j c = omega (arith, c.requires.orbiting_bound.0)

pub nonzero_div-j : goal.nonzero_div-j
nonzero_div-j c = omega (arith, c.requires.sides.orbiting_some)

pub nonzero_rem-j : goal.nonzero_rem-j
nonzero_rem-j c = omega (arith, c.requires.sides.orbiting_some)

pub scan_vertices-k-requires : goal.scan_vertices-k-requires
scan_vertices-k-requires c = record { v_bound = rows_in _ _ c.requires.sides _ (omega (arith, c.if-from-m.true, c.requires.orbiting_bound.0)); points_bound = (c.requires.sides.stationary_most, c.requires.sides.orbiting_most); around = c.requires.framed.1 }

pub returns-then-k-m : goal.returns-then-k-m
returns-then-k-m c =
    later_hit _ _ _ c.requires.sides _ _ c.requires.orbiting_bound.0 c.scan_vertices-k.ensures c.if-k-m.true

pub overflow_mul-m-then-from-m : goal.overflow_mul-m-then-from-m
overflow_mul-m-then-from-m c = omega (arith, most _ _ c.requires.sides)

pub next_edges-requires : goal.next_edges-requires
next_edges-requires c = record { sides = c.requires.sides; orbiting_bound = (omega arith, omega arith); framed = c.requires.framed }

pub returns-then-from-m : goal.returns-then-from-m
returns-then-from-m c =
    c.next_edges.ensures ∙ sym (ap first_contact (later_end _ _ _ c.requires.sides _ _ c.requires.orbiting_bound.0 c.scan_vertices-k.ensures c.if-k-m.false))

pub next_edges-requires-2 : goal.next_edges-requires-2
next_edges-requires-2 c = record { sides = c.requires.sides; orbiting_bound = (c.if-from-m.false, c.requires.orbiting_bound.1); framed = c.requires.framed }

pub returns : goal.returns
returns c = c.next_edges-2.ensures

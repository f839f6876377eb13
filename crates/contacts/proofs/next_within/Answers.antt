-- `contacts::next_within` meets its contract: `proofs/Regions.antt` has its cases. Assumes nothing.
use native.Mathlib.Omega.{arith}
use mathlib.Core.Path.{sym, ap, ◌∙◌}
use Rattle.pairs.proofs.Numbers.{most}
use Rattle.contacts.specs.Contacts.{first_contact}
use Rattle.contacts.proofs.Regions.{columns_in, first_hit, first_end}
use Rattle.contacts.proofs.next_within.Goals as goal

pub overflow_mul-m : goal.overflow_mul-m
overflow_mul-m c = omega (arith, most _ _ c.requires.sides)

pub nonzero_div-from : goal.nonzero_div-from
nonzero_div-from c = omega (arith, c.requires.sides.stationary_some)

pub nonzero_rem-from : goal.nonzero_rem-from
nonzero_rem-from c = omega (arith, c.requires.sides.stationary_some)

pub scan_vertices-k-requires : goal.scan_vertices-k-requires
scan_vertices-k-requires c = record { v_bound = columns_in _ _ c.requires.sides _ c.if-from-m.true; points_bound = (c.requires.sides.orbiting_most, c.requires.sides.stationary_most); around = c.requires.framed.0 }

pub returns-then-k-m : goal.returns-then-k-m
returns-then-k-m c =
    first_hit _ _ _ c.requires.sides _ _ c.if-from-m.true c.scan_vertices-k.ensures c.if-k-m.true

pub next_later-requires : goal.next_later-requires
next_later-requires c = record { sides = c.requires.sides; orbiting_bound = (omega arith, omega arith); framed = c.requires.framed }

pub returns-then-from-m : goal.returns-then-from-m
returns-then-from-m c =
    c.next_later.ensures ∙ sym (ap first_contact (first_end _ _ _ c.requires.sides _ _ c.if-from-m.true c.scan_vertices-k.ensures c.if-k-m.false))

pub next_later-requires-2 : goal.next_later-requires-2
next_later-requires-2 c = record { sides = c.requires.sides; orbiting_bound = (c.if-from-m.false, c.requires.from_bound); framed = c.requires.framed }

pub returns : goal.returns
returns c = c.next_later-2.ensures

-- `choose::climb` meets its contract: `proofs/Climbing.antt` has the invariant; the measure is what is left of the pairs. Assumes nothing.
use native.Mathlib.Omega.{arith}
use mathlib.Core.Path.{refl}
use lib.Ieee.{add, mul, of_bits}
use Rattle.square_root.specs.Root.{sqrt_of}
use Rattle.plane.specs.Vector.{length_of, dot_of}
use Rattle.pairs.proofs.Numbers.{most}
use Rattle.contacts.proofs.Following.{next_at, next_none}
use Rattle.selection.specs.Select.{unscored}
use Rattle.choose.specs.Choose.{unset}
use Rattle.choose.proofs.Climbing.{at_first, up, top}
use Rattle.choose.proofs.climb.Goals as goal

pub loop-j-init : goal.loop-j-init
unfolding unset unscored length_of dot_of sqrt_of add mul of_bits
loop-j-init c = at_first _ _ _ _ _ _ (rw (c.start.ensures, c.over.ensures) refl)

pub next_within-requires : goal.next_within-requires
next_within-requires c = record { sides = c.requires.sides; from_bound = c.loop-j.invariant.most; framed = c.frames_of-frames.ensures }

pub returns : goal.returns
returns c =
    top _ _ _ _ _ _ c.loop-j.invariant (next_none _ _ _ _ c.next_within.ensures c.in_default.is)

pub weigh_contact-best-requires : goal.weigh_contact-best-requires
weigh_contact-best-requires c = record { sides = c.requires.sides; k_bound = (next_at _ _ _ c.next_within.ensures c.in-Some.is).below; directed = c.requires.directed; orbiting_value = c.requires.orbiting_value }

pub overflow_add-k : goal.overflow_add-k
overflow_add-k c =
    omega (arith, (next_at _ _ _ c.next_within.ensures c.in-Some.is).below, most _ _ c.requires.sides)

pub loop-j-smaller : goal.loop-j-smaller
loop-j-smaller c =
    let f = next_at _ _ _ c.next_within.ensures c.in-Some.is in
    omega (arith, f.below, f.least)

pub loop-j-preserved : goal.loop-j-preserved
loop-j-preserved c =
    up _ _ _ _ _ _ c.loop-j.invariant (next_at _ _ _ c.next_within.ensures c.in-Some.is) c.weigh_contact-best.ensures

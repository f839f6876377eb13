-- `square_root::sqrt` meets its contract. `proofs/Compare.antt` and `proofs/Above.antt` say what each test tells of x.
-- Assumes nothing.
use mathlib.Core.Path.{sym, ap, ◌∙◌, subst}
use native.Mathlib.Omega.{arith}
use lib.Dec.{T}
use lib.Ieee.{binary64, fits}
use lib.Ieee.Bits.{of_bits-to_bits}
use lib.Ieee.Positive.{above}
use Rattle.square_root.specs.Root.{sqrt_of}
use Rattle.square_root.proofs.Patterns.{no_nan}
use Rattle.square_root.proofs.Compare.{above_zero, above_no_nan, root_of_infinity, root_of_zero, root_of_none}
use Rattle.square_root.proofs.Above.{above_pos, above_top}
use Rattle.square_root.proofs.Order.{root_is}
use Rattle.square_root.proofs.sqrt.Goals as goal
use Rattle.square_root.proofs.sqrt.Goals.{Start, Then-x}

-- what owning an `f64` tells: the format holds it
held : (c : Start) → T (fits binary64 c.args.x)
held c = subst T (sym c.well_formed.0.1) tt

over : (c : Then-x) → T (above c.args.x)
over c = above_zero _ c.if-x.true

pub float_to_bits-b : goal.float_to_bits-b
float_to_bits-b c = above_no_nan _ (over c)

pub pattern-requires : goal.pattern-requires
pattern-requires c = (above_pos _ (held c.before.before) (over c.before), omega arith)

pub float_from_bits-result : goal.float_from_bits-result
float_from_bits-result c = no_nan _ c.pattern.ensures.1

pub returns-then-b-lt9218868437227405312 : goal.returns-then-b-lt9218868437227405312
returns-then-b-lt9218868437227405312 c =
    root_is _ (held c.before.before.before) _ (c.pattern.ensures.0 ∙ ap (sqrt_of binary64) (of_bits-to_bits binary64 c.args.x (held c.before.before.before)))

pub returns-else-b-lt9218868437227405312 : goal.returns-else-b-lt9218868437227405312
returns-else-b-lt9218868437227405312 c =
    root_is _ (held c.before.before) _ (root_of_infinity _ (above_top _ (held c.before.before) (over c.before) (omega arith)))

pub returns-then-x-2 : goal.returns-then-x-2
returns-then-x-2 c = root_is _ (held c.before.before) _ (root_of_zero _ c.if-x-2.true)

pub returns-else-x-2 : goal.returns-else-x-2
returns-else-x-2 c = root_is _ (held c.before.before) _ (root_of_none _ c.if-x.false c.if-x-2.false)

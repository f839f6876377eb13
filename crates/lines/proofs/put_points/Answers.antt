-- `lines::put_points` meets its contract. The loop's invariant: the lines of the first i points follow what the room held. Assumes nothing.
use Prim.Native.Nat.{ℕ}
use mathlib.Core.Path.{◌≡◌, refl, ap, subst, ◌∙◌}
use native.Mathlib.Omega.{arith}
use lib.Ieee.{binary64, to_bits}
use Rattle.plane.specs.declared.Point.{Point}
use Rattle.print.specs.Text.{Put}
use Rattle.lines.specs.Lines.{point_lines}
use Rattle.lines.proofs.Points.{no_point, point_more}
use Rattle.lines.proofs.put_points.Goals as goal

pub loop-i-init : goal.loop-i-init
loop-i-init c = (refl, (omega arith), no_point c.args.xs.now c.args.out.now c.args.at)

pub loop-i-preserved : goal.loop-i-preserved
loop-i-preserved c =
    let xs = c.args.xs.now in
    let e = c.point_at-p.ensures in (
      c.put_pair-next.auto.room ∙ c.loop-i.invariant.0,
      (omega (arith, c.put_pair-next.ensures.1)),
      point_more xs c.loop-i.i c.bits_of.result c.bits_of-in-loop-i.result c.loop-i.invariant.2 c.put_pair-next.ensures.0
          (c.bits_of.ensures ∙ ap (λ (p : Point). to_bits binary64 p.x) e) (c.bits_of-in-loop-i.ensures ∙ ap (λ (p : Point). to_bits binary64 p.y) e),
    )

pub returns : goal.returns
returns c =
    let a = c.args in
    let q : c.loop-i.i ≡ a.n = omega (arith, c.loop-i.auto.i-end, c.loop-i-test.false) in record { put = subst (λ (k : ℕ). Put a.out.now a.at (point_lines a.xs.now k) c.loop-i.out c.loop-i.next) q c.loop-i.invariant.2; value = (omega (arith, c.loop-i.invariant.1)) }

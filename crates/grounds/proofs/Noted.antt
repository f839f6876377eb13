-- What is noted of a hit, field by field, with the new hit where it is nearer. Assumes nothing.
use Rattle.std.specs.Prelude.{Some}
use Prim.Native.Nat.{ℕ, ◌+◌}
use mathlib.Core.Path.{◌≡◌}
use mathlib.Core.Bool.{Bool, true, false, cond}
use lib.Ieee.{Float}
use Rattle.std.specs.Prelude.{Option, Some}
use Rattle.laws.specs.FirstBest.{better}
use Rattle.collision.specs.Hit.{nearer}
use Rattle.collision.specs.Parts.{pair_by}
use Rattle.collision.specs.declared.Sweep.{Sweep}
use Rattle.collision.specs.declared.Hit.{Hit}
use Rattle.grounds.specs.Classes.{too_near, in_between, too_far, hit_is}
use Rattle.grounds.specs.Scan.{others_after, noted_of}
use Rattle.grounds.specs.declared.Tally.{Tally}

-- the new one, where it is nearer, and else what was found before
pub kept_new : (best new : Option Hit) {t : Bool} → t ≡ nearer new best → t ≡ true → new ≡ better nearer best new
unfolding better
kept_new best new h k = rw (← h, k)

pub kept_best : (best new : Option Hit) {t : Bool} → t ≡ nearer new best → t ≡ false → best ≡ better nearer best new
unfolding better
kept_best best new h k = rw (← h, k)

pub fields : (w : Sweep) (kind : ℕ) (t : Tally) (v e : ℕ) (d : Float) {new kept : Option Hit} {others near between far : ℕ} {p q : Bool} → new ≡ pair_by (Some d) w kind v e
    → kept ≡ better nearer t.best new → others ≡ others_after t.others t.best new → near ≡ t.near + cond (too_near w d) 1 0
    → between ≡ t.between + cond p 1 0 → p ≡ in_between w d → far ≡ t.far + cond q 1 0 → q ≡ too_far w d
    → record { best = kept; others = others; near = near; between = between; far = far } ≡ noted_of w kind t v e (Some d)
unfolding noted_of hit_is
fields w kind t v e d n k o near b p f q = rw (k, o, near, b, p, f, q, n)

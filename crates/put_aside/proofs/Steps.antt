-- Steps: the last of those that set off, and that none is wider than it is told. Assumes nothing.
use Prim.Native.Nat.{ℕ, ◌≤◌}
use native.Mathlib.Nat.{le_trans}
use native.Mathlib.Omega.{arith}
use mathlib.Core.Path.{◌≡◌}
use mathlib.Core.Bool.{Bool, true, false, cond}
use lib.Dec.{eqb, ltb}
use borrow.Author.Tests.{ne_eqb}
use Rattle.shifted.specs.declared.Spot.{Spot}
use Rattle.put_aside.specs.Middle.{across_of}
use Rattle.put_aside.specs.Aside.{step_by, still, if_less, across_step, towards, set_off, gone, step_of, corner_by, Ruled}
use Rattle.put_aside.specs.declared.Step.{Step}
use Rattle.put_aside.specs.declared.Rule.{Rule}

pub set_last : (way w : ℕ) → (way ≡ 3 → ⊥) → (way ≡ 4 → ⊥) → (way ≡ 5 → ⊥) → (way ≡ 6 → ⊥) → (way ≡ 7 → ⊥) → (way ≡ 8 → ⊥)
    → (way ≡ 9 → ⊥) → step_by w 0 0 w ≡ set_off way w
unfolding set_off
set_last way w a b c d e f g =
    rw (ne_eqb way 3 a, ne_eqb way 4 b, ne_eqb way 5 c, ne_eqb way 6 d, ne_eqb way 7 e, ne_eqb way 8 f, ne_eqb way 9 g)

-- ---- none is wider than w

pub record Narrow (w : ℕ) (s : Step) : Type 0 where
  pub east_most : s.east ≤ w
  pub west_most : s.west ≤ w
  pub north_most : s.north ≤ w
  pub south_most : s.south ≤ w

pick : {w : ℕ} (t : Bool) {a b : Step} → Narrow w a → Narrow w b → Narrow w (cond t a b)
pick true h k = h
pick false h k = k

if_less_most : (a b w : ℕ) → if_less a b w ≤ w
if_less_most a b w = go (ltb a b)
  where
    go : (t : Bool) → cond t w 0 ≤ w
    go true = omega arith
    go false = omega arith

across_narrow : (w : ℕ) (from to : Spot) → Narrow w (across_step w from to)
across_narrow w from to =
    record {
      east_most = if_less_most to.y from.y w;
      west_most = if_less_most from.y to.y w;
      north_most = if_less_most from.x to.x w;
      south_most = if_less_most to.x from.x w;
    }

by : (w e w' n s : ℕ) → e ≤ w → w' ≤ w → n ≤ w → s ≤ w → Narrow w (step_by e w' n s)
by w e w' n s a b c d = record { east_most = a; west_most = b; north_most = c; south_most = d }

still_narrow : (w : ℕ) → Narrow w still
still_narrow w = by w 0 0 0 0 (omega arith) (omega arith) (omega arith) (omega arith)

towards_narrow : (w : ℕ) (from to : Spot) (m k : ℕ) → Narrow w (towards w from to m k)
unfolding towards
towards_narrow w from to m k = pick (ltb m k) (across_narrow w to from) (pick (ltb k m) (across_narrow w from to) (still_narrow w))

set_narrow : (way w : ℕ) → Narrow w (set_off way w)
unfolding set_off
set_narrow way w =
    let z : 0 ≤ w = omega arith in
    let o : w ≤ w = omega arith in
    pick (eqb way 3) (by w _ _ _ _ o z z z)
    (pick (eqb way 4) (by w _ _ _ _ z z o z)
    (pick (eqb way 5) (by w _ _ _ _ z o z z)
    (pick (eqb way 6) (by w _ _ _ _ z z z o)
    (pick (eqb way 7) (by w _ _ _ _ o z o z)
    (pick (eqb way 8) (by w _ _ _ _ z o o z)
    (pick (eqb way 9) (by w _ _ _ _ z o z o) (by w _ _ _ _ o z z o)))))))

pub step_narrow : (r : Rule) (v : Spot) → Narrow r.w (step_of r v)
unfolding step_of
step_narrow r v =
    pick (eqb r.way 0) (still_narrow r.w)
    (pick (eqb r.way 2) (towards_narrow r.w r.from r.to r.across (across_of r.from r.to v))
    (set_narrow r.way r.w))

-- ---- a corner by its step

module _ (r : Rule) (v : Spot) {s : Step} (e : s ≡ step_of r v) where
  pub step_fits : Ruled r → (s.east ≤ 2) × (s.north ≤ 2)
  step_fits h = let n = step_narrow r v in rw e (le_trans n.east_most h.narrow, le_trans n.north_most h.narrow)

  pub stepped : {a b : ℕ} → (r.way ≡ 1 → ⊥) → a ≡ gone v.x s.east s.west → b ≡ gone v.y s.north s.south
      → ◌≡◌ {A = Spot} (record { x = a; y = b }) (corner_by r v)
  unfolding corner_by
  stepped h f g = rw (f, g, ne_eqb r.way 1 h, e)

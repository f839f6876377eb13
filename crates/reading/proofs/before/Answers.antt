-- `reading::before` meets its contract. The loop's invariant: what is left of the two readings, from coordinate j on, decides.
-- Assumes nothing.
use Prim.Native.Nat.{ℕ, ◌<◌}
use mathlib.Core.Path.{◌≡◌, refl, sym, ◌∙◌}
use mathlib.Core.List.{List}
use native.Mathlib.Omega.{arith}
use lib.Ieee.{Float}
use lib.ListN.{length, get_or}
use Rattle.reading.specs.Reading.{ord, flat, choice}
use Rattle.reading.specs.Lent.{ring_of}
use Rattle.reading.proofs.Places.{length_choice, left_lower, left_higher, left_equal, left_none}
use Rattle.reading.proofs.before.Goals as goal
use Rattle.reading.proofs.before.Goals.{After-key_at-v, At-loop-j, Start}
use Rattle.reading.proofs.before.Lts.View.{up-After-key_at-v, up-At-loop-j}

-- the two readings, whose coordinates j the keys are of
module _ (c : After-key_at-v) where
  abbrev l : At-loop-j
  l = up-At-loop-j _ _ _ _ _ _ c.before.before.before.before

  abbrev s : Start
  s = l.before.before.before.before

  abbrev xs : List Float
  xs = s.args.ring.now

  abbrev p : List ℕ
  p = flat (choice (ring_of xs) s.args.a)

  abbrev q : List ℕ
  q = flat (choice (ring_of xs) s.args.b)

  in_first : l.loop-j.j < length p
  in_first = omega (arith, length_choice xs s.requires.lent.0.even s.args.a, c.loop-j-test.true)

  in_second : l.loop-j.j < length q
  in_second = omega (arith, length_choice xs s.requires.lent.0.even s.args.b, c.loop-j-test.true)

pub loop-j-init : goal.loop-j-init
loop-j-init c = refl

pub returns-then-u-v : goal.returns-then-u-v
returns-then-u-v c =
    let here = up-After-key_at-v _ _ _ _ _ _ c.before.before in
    let u = c.key_at-u.ensures in
    let v = c.key_at-v.ensures in
    sym ((l here).loop-j.invariant ∙ left_lower (p here) (q here) (l here).loop-j.j (in_first here) (in_second here) (omega (arith, c.if-u-v.true)))

pub returns-then-v-u : goal.returns-then-v-u
returns-then-v-u c =
    let here = up-After-key_at-v _ _ _ _ _ _ c.before.before.before in
    let u = c.key_at-u.ensures in
    let v = c.key_at-v.ensures in
    sym ((l here).loop-j.invariant ∙ left_higher (p here) (q here) (l here).loop-j.j (in_first here) (in_second here) (omega (arith, c.if-v-u.true)))

pub loop-j-preserved : goal.loop-j-preserved
loop-j-preserved c =
    let here = up-After-key_at-v _ _ _ _ _ _ c.before.before.before in
    let u = c.key_at-u.ensures in
    let v = c.key_at-v.ensures in
    let j = (l here).loop-j.j in
    let e : ord (get_or (p here) j 0) ≡ ord (get_or (q here) j 0) = omega (arith, c.if-v-u.false, c.if-u-v.false) in
    (l here).loop-j.invariant ∙ left_equal (p here) (q here) j (in_first here) (in_second here) e

pub returns : goal.returns
returns c =
    let xs = c.args.ring.now in
    let p = flat (choice (ring_of xs) c.args.a) in
    let q = flat (choice (ring_of xs) c.args.b) in
    let np : length p ≡ length xs = length_choice xs c.requires.lent.0.even c.args.a in
    let nq : length q ≡ length xs = length_choice xs c.requires.lent.0.even c.args.b in
    sym (c.loop-j.invariant ∙ left_none p q c.loop-j.j (omega arith) (omega arith))

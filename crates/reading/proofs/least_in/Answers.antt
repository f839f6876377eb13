-- `reading::least_in` meets its contract: of what is settled onward and back the lesser is the first of all. Assumes nothing.
use Prim.Native.Nat.{ℕ, ◌+◌, ◌-◌, ◌*◌, ◌/◌, ◌%◌, ◌≤◌, ◌<◌}
use mathlib.Core.Path.{◌≡◌, sym, ◌∙◌}
use mathlib.Core.Bool.{true, false}
use mathlib.Core.List.{List}
use native.Mathlib.Omega.{arith}
use mir.Syntax.{w64}
use mir.Val.{Fits}
use lib.Ieee.{Float}
use lib.ListN.{length}
use Rattle.reading.specs.Reading.{Vertex}
use Rattle.reading.specs.Lent.{ring_of}
use Rattle.reading.specs.Starts.{along, Settled}
use Rattle.reading.proofs.Places.{length_ringOf}
use Rattle.reading.proofs.Ways.{on_low, back_low, number_within, all_back, all_on}
use Rattle.reading.proofs.least_in.Goals as goal
use Rattle.reading.proofs.least_in.Goals.{After-settle-back, Start}
use Rattle.reading.proofs.least_in.Lts.View.{up-After-settle-back}

-- both directions are settled
module _ (c : After-settle-back) where
  abbrev s : Start
  s = c.before.before.before.before.before.before.before.before.before

  abbrev xs : List Float
  xs = s.args.ring.now

  abbrev r : List Vertex
  r = ring_of xs

  abbrev n : ℕ
  n = length xs / 2

  abbrev i : ℕ
  i = c.settle-onward.result.first

  abbrev j : ℕ
  j = c.settle-onward.result.second

  abbrev p : ℕ
  p = c.settle-back.result.first

  abbrev q : ℕ
  q = c.settle-back.result.second

  vertices_of : length xs ≡ 2 * length r
  vertices_of = length_ringOf xs s.requires.lent.even

  some : 0 < length r
  some = omega (arith, vertices_of, s.requires.ring_nonzero.0)

  half : n ≡ length r
  half = omega (arith, vertices_of)

  onward : Settled (along r false) (length r) i j
  onward = c.settle-onward.ensures

  back : Settled (along r true) (length r) p q
  back = c.settle-back.ensures

  p_low : p ≤ n - 1
  p_low = omega (arith, back_low r some n i j p q half onward back)

  i_low : i < length xs
  i_low = omega (arith, half, vertices_of, on_low r some n i j p q half onward back)

  b_low : n + (n - 1 - p) % (q - p) < length xs
  b_low = omega (arith, half, vertices_of, number_within r some n i j p q half onward back)

  b_fits : Fits w64 (n + (n - 1 - p) % (q - p))
  b_fits = omega (arith, b_low, s.requires.lent.most)

pub overflow_sub-b-2 : goal.overflow_sub-b-2
overflow_sub-b-2 c = p_low (up-After-settle-back _ _ _ _ c.before.before)

pub overflow_add-b : goal.overflow_add-b
overflow_add-b c = b_fits (up-After-settle-back _ _ _ _ c.before.before.before)

pub before-requires : goal.before-requires
before-requires c =
    let here = up-After-settle-back _ _ _ _ c.before.before.before in
    record { lent = ((s here).requires.lent, c.fill.ensures); a_in_bounds = (b_low here, i_low here) }

pub returns-then-before : goal.returns-then-before
returns-then-before c =
    let here = up-After-settle-back _ _ _ _ c.before.before.before.before.before in
    let e = sym c.before-2.ensures ∙ c.if-before.true in
    (all_back (r here) (some here) (n here) (i here) (j here) (p here) (q here) (half here) (onward here) (back here) e, b_low here)

pub returns-else-before : goal.returns-else-before
returns-else-before c =
    let here = up-After-settle-back _ _ _ _ c.before.before.before.before.before in
    let e = sym c.before-2.ensures ∙ c.if-before.false in
    (all_on (r here) (some here) (n here) (i here) (j here) (p here) (q here) (half here) (onward here) (back here) e, i_low here)

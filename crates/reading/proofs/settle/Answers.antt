-- `reading::settle` meets its contract. The loop's invariant is `Open` (Pushing.antt): what two starts that push each other on
-- keep. Each turn moves one of them on or reads one coordinate more, so that what is left of three rounds falls. Assumes nothing.
use Prim.Native.Nat.{ℕ, ◌+◌, ◌*◌, ◌-◌, ◌/◌, ◌≤◌, ◌<◌}
use mathlib.Core.Path.{◌≡◌, sym, ap, subst, ◌∙◌}
use mathlib.Core.Bool.{Bool}
use mathlib.Core.List.{List}
use native.Mathlib.Omega.{arith}
use mir.Syntax.{w64}
use mir.Val.{Fits}
use lib.Ieee.{Float}
use lib.ListN.{length}
use Rattle.reading.specs.declared.Starts.{Starts}
use Rattle.reading.specs.Reading.{Vertex}
use Rattle.reading.specs.Lent.{ring_of}
use Rattle.reading.specs.Starts.{number_of, along, Settled}
use Rattle.reading.proofs.Places.{length_ringOf}
use Rattle.reading.proofs.Pushing.{open_start, settled_same, settled_past}
use Rattle.reading.proofs.Step.{Stepped, step}
use Rattle.reading.proofs.Ways.{round, read_at, start_low}
use Rattle.reading.proofs.settle.Goals as goal
use Rattle.reading.proofs.settle.Goals.{After-pushed-s, At-loop-s, Else-s-ring, Start}
use Rattle.reading.proofs.settle.Lts.View.{up-At-loop-s, up-Else-s-ring}

-- at the loop's test: the ring, its direction and the two starts
module _ (l : At-loop-s) where
  abbrev st : Start
  st = l.before.before.before.before

  abbrev xs : List Float
  xs = st.args.ring.now

  abbrev r : List Vertex
  r = ring_of xs

  abbrev b : Bool
  b = st.args.back

  abbrev s : Starts
  s = l.loop-s.s

  vertices_of : length xs ≡ 2 * length r
  vertices_of = length_ringOf xs st.requires.lent.0.even

  half : length xs / 2 ≡ length r
  half = omega (arith, vertices_of)

  some : 0 < length r
  some = omega (arith, vertices_of, st.requires.ring_nonzero)

  same_end : s.alike ≡ length xs → Settled (along r b) (length r) s.first s.second
  same_end e =
      settled_same (along r b) (length r) (round r b) s.first s.second s.alike l.loop-s.invariant some
      (omega (arith, e, vertices_of))

  past_end : length xs / 2 ≤ s.second → Settled (along r b) (length r) s.first (s.first + length r)
  past_end h =
      settled_past (along r b) (length r) (round r b) s.first s.second s.alike l.loop-s.invariant some
      (omega (arith, h, half))

-- ---- a turn
module _ (e : Else-s-ring) where
  abbrev l : At-loop-s
  l = up-At-loop-s _ _ _ _ _ _ e.before.before.before.before.before

  first_low : (s l).first < length (r l)
  first_low = omega (arith, half l, e.loop-s-test.true, l.loop-s.invariant.order)

  second_low : (s l).second < length (r l)
  second_low = omega (arith, half l, e.loop-s-test.true)

  short : (s l).alike < length (xs l)
  short = omega (arith, vertices_of l, l.loop-s.invariant.short, e.if-s-ring.false)

  most : length (xs l) ≤ 512
  most = (st l).requires.lent.0.most

  by_half : (u : ℕ) → number_of (length (xs l) / 2) (b l) u ≡ number_of (length (r l)) (b l) u
  by_half u = ap (λ (n : ℕ). number_of n (b l) u) (half l)

-- what the turn comes to
module _ (c : After-pushed-s) where
  abbrev e : Else-s-ring
  e = up-Else-s-ring _ _ _ _ _ _ c.before.before.before.before.before.before

  abbrev g : ℕ → ℕ
  g = along (r (l e)) (b (l e))

  abbrev t : Starts
  t = s (l e)

  alike_low : t.alike < 2 * length (r (l e))
  alike_low = omega (arith, short e, vertices_of (l e))

  first_key : c.key_at-u.result ≡ g (2 * t.first + t.alike)
  first_key =
      read_at (r (l e)) (b (l e)) c.number.result t.first t.alike c.key_at-u.result (first_low e) alike_low
      (c.number.ensures.0 ∙ by_half e t.first) c.key_at-u.ensures

  second_key : c.key_at-v.result ≡ g (2 * t.second + t.alike)
  second_key =
      read_at (r (l e)) (b (l e)) c.number-in-loop-s.result t.second t.alike c.key_at-v.result (second_low e) alike_low
      (c.number-in-loop-s.ensures.0 ∙ by_half e t.second) c.key_at-v.ensures

  stepped : Stepped g (length (r (l e))) t c.pushed-s.result
  stepped =
      subst (Stepped g (length (r (l e))) t) (sym c.pushed-s.ensures)
      (step g (length (r (l e))) (round (r (l e)) (b (l e))) t (l e).loop-s.invariant (second_low e) alike_low
      c.key_at-u.result c.key_at-v.result first_key second_key)

  in_reach : 2 * t.first + 2 * t.second + t.alike < 3 * length (xs (l e))
  in_reach = omega (arith, first_low e, second_low e, short e, vertices_of (l e))

-- a number that grows from below m leaves less of m
left_falls : (m a b : ℕ) → a < b → a < m → m - b < m - a
left_falls m a b h k = omega arith

-- ---- past the last start
sum_fits : (a b : ℕ) → a < 256 → b ≤ 256 → Fits w64 (a + b)
sum_fits a b h l = omega arith

pub loop-s-init : goal.loop-s-init
loop-s-init c =
    let a = c.args in
    open_start (along (ring_of a.ring.now) a.back) (length (ring_of a.ring.now))

pub returns-then-s-ring : goal.returns-then-s-ring
returns-then-s-ring c = same_end (up-At-loop-s _ _ _ _ _ _ c.before.before.before.before.before) c.if-s-ring.true

pub key_at-u-requires : goal.key_at-u-requires
key_at-u-requires c =
    let here = up-Else-s-ring _ _ _ _ _ _ c.before.before in
    record { lent = (st (l here)).requires.lent; c_in_bounds = ((omega (arith, c.number.ensures.1, vertices_of (l here))), short here) }

pub key_at-v-requires : goal.key_at-v-requires
key_at-v-requires c =
    let here = up-Else-s-ring _ _ _ _ _ _ c.before.before.before.before in
    record { lent = (st (l here)).requires.lent; c_in_bounds = ((omega (arith, c.number-in-loop-s.ensures.1, vertices_of (l here))), short here) }

pub pushed-s-requires : goal.pushed-s-requires
pushed-s-requires c =
    let here = up-Else-s-ring _ _ _ _ _ _ c.before.before.before.before.before in
    let h = vertices_of (l here) in
    ((omega (arith, first_low here, most here)), (omega (arith, second_low here, most here)), (omega (arith, short here, most here)))

pub loop-s-smaller : goal.loop-s-smaller
loop-s-smaller c = left_falls _ _ _ (stepped c).on (in_reach c)

pub loop-s-preserved : goal.loop-s-preserved
loop-s-preserved c = (stepped c).still

pub overflow_add-result : goal.overflow_add-result
overflow_add-result c =
    let here = up-At-loop-s _ _ _ _ _ _ c.before.before.before.before in
    let h = half here in
    let m = (st here).requires.lent.0.most in
    let i = start_low (r here) (some here) (s here).first ((s here).first + length (r here)) (b here) (past_end here c.loop-s-test.false) in
    sum_fits (s here).first (length (xs here) / 2) (omega arith) (omega arith)

pub returns : goal.returns
returns c =
    let here = up-At-loop-s _ _ _ _ _ _ c.before.before.before.before in
    subst (λ (n : ℕ). Settled (along (r here) (b here)) (length (r here)) (s here).first ((s here).first + n)) (sym (half here))
    (past_end here c.loop-s-test.false)

-- What the calls tell of the plane, in the coordinates as they are lent: those in whole numbers, and with them those in floats.
-- Assumes nothing.
use Prim.Native.Nat.{ℕ, ◌+◌, ◌*◌, ◌<◌}
use native.Mathlib.Omega.{arith}
use native.Mathlib.Nat.{mod-lt}
use mathlib.Core.Path.{◌≡◌, refl, sym, subst}
use mathlib.Core.Logic.Iff
use mathlib.Core.Logic.{◌↔◌}
use mathlib.Core.Bool.{Bool, true, false, cond}
use mathlib.Core.List.{List, [], ◌∷◌}
use lib.Dec.{lit<}
use lib.IntN.{ℤ}
use lib.Ieee.{Float}
use Rattle.plane.specs.declared.Point.{Point}
use Rattle.refusals.specs.Answers.{Outcome, answers, refuses, outcome}
use Rattle.refusals.specs.Refusals.{passed}
use Rattle.refusals.specs.Refusals.{Told}
use Rattle.ring.specs.Ring.{next_of}
use Rattle.segments.specs.Calls.{intersect_call}
use Rattle.simple_polygon.specs.Calls.{is_simple_call}
use Rattle.shifted.specs.Shifted.{spot_of, spot_in}
use Rattle.whole_rules.specs.Segments.{whole_intersect}
use Rattle.whole_rules.specs.Simple.{whole_simple}
use Rattle.whole_engine.specs.Rows.{all_in_bounds, wrong_whole, of_whole_ring}
use Rattle.whole_engine.specs.Calls.{whole_intersect_call, whole_simple_call, vertices_in}
use Rattle.whole_engine.specs.Drawn.{DrawnPoint, Drawn}
use Rattle.whole_engine.proofs.Agrees.{intersect_agrees, simple_agrees}
use Rattle.whole_engine.proofs.Passed.{all_within, ring_within}
use Rattle.whole_engine.proofs.Within.{within_at}
use Rattle.whole_plane.specs.Plane.{whole_point, Common, point_of}
use Rattle.whole_plane.specs.Rings.{SimpleRing, point_in}
use Rattle.whole_plane.proofs.Shift.{StandsAt, stands_at, shift_exactly}
use Rattle.whole_plane.proofs.Meeting.{intersect_exactly}
use Rattle.whole_plane.proofs.Simple.{simple_exactly}

-- where a call answers w, its tests pass and w is its value
answered : {A : Type 0} (r : Told) (v w : A) → outcome r v ≡ answers w → (passed r ≡ true) × (v ≡ w)
answered {A} r v w = go (passed r)
  where
    go : (p : Bool) → cond p (answers v) (refuses r) ≡ answers w → (p ≡ true) × (v ≡ w)
    go true h = (refl, cc)
    go false h = (cc, cc)

module _ (x1 y1 x2 y2 x3 y3 x4 y4 : ℤ) where
  abbrev lent : List ℤ
  lent = x1 ∷ y1 ∷ x2 ∷ y2 ∷ x3 ∷ y3 ∷ x4 ∷ y4 ∷ []

  -- within a million, and a point in common
  abbrev Met : Type 0
  Met = (all_in_bounds lent ≡ true) × Common (whole_point x1 y1) (whole_point x2 y2) (whole_point x3 y3) (whole_point x4 y4)

  rule : all_in_bounds lent ≡ true → whole_intersect (spot_of x1 y1) (spot_of x2 y2) (spot_of x3 y3) (spot_of x4 y4) ≡ true
      ↔ Common (whole_point x1 y1) (whole_point x2 y2) (whole_point x3 y3) (whole_point x4 y4)
  rule w =
      Iff.trans (intersect_exactly (spot_of x1 y1) (spot_of x2 y2) (spot_of x3 y3) (spot_of x4 y4))
      (shift_exactly _ _ _ _ _ _ _ _
      (stands_at x1 y1 (within_at lent 0 w (lit< tt)) (within_at lent 1 w (lit< tt)))
      (stands_at x2 y2 (within_at lent 2 w (lit< tt)) (within_at lent 3 w (lit< tt)))
      (stands_at x3 y3 (within_at lent 4 w (lit< tt)) (within_at lent 5 w (lit< tt)))
      (stands_at x4 y4 (within_at lent 6 w (lit< tt)) (within_at lent 7 w (lit< tt))))

  -- the call answers 1 exactly if each coordinate is within a million and the closed segments have a point in common
  pub intersect_call_exactly : whole_intersect_call x1 y1 x2 y2 x3 y3 x4 y4 ≡ answers true
      ↔ (all_in_bounds (x1 ∷ y1 ∷ x2 ∷ y2 ∷ x3 ∷ y3 ∷ x4 ∷ y4 ∷ []) ≡ true)
      × Common (whole_point x1 y1) (whole_point x2 y2) (whole_point x3 y3) (whole_point x4 y4)
  intersect_call_exactly = (to, from)
    where
      to : whole_intersect_call x1 y1 x2 y2 x3 y3 x4 y4 ≡ answers true → Met
      to h =
          let a = answered (wrong_whole lent) _ true h in
          let w = all_within lent a.0 in
          (w, (rule w).0 a.1)

      from : Met → whole_intersect_call x1 y1 x2 y2 x3 y3 x4 y4 ≡ answers true
      from (w, c) = rw (w, (rule w).1 c)

  -- and so does the call in floats, of floats that are these integers
  pub float_intersect_exactly : (a b c d : Point) → DrawnPoint a x1 y1 → DrawnPoint b x2 y2 → DrawnPoint c x3 y3 → DrawnPoint d x4 y4
      → intersect_call a b c d ≡ answers true
      ↔ (all_in_bounds (x1 ∷ y1 ∷ x2 ∷ y2 ∷ x3 ∷ y3 ∷ x4 ∷ y4 ∷ []) ≡ true)
      × Common (whole_point x1 y1) (whole_point x2 y2) (whole_point x3 y3) (whole_point x4 y4)
  float_intersect_exactly a b c d A B C D =
      subst (λ (o : Outcome Bool). o ≡ answers true ↔ Met) (sym (intersect_agrees a b c d x1 y1 x2 y2 x3 y3 x4 y4 A B C D))
      intersect_call_exactly

-- ---- rings

module _ (zs : List ℤ) where
  abbrev next : ℕ → ℕ
  next i = next_of i (vertices_in zs)

  stands_in : all_in_bounds zs ≡ true → (i : ℕ) → i < vertices_in zs → StandsAt (point_in zs i) (spot_in zs i)
  stands_in w i h = stands_at _ _ (within_at zs (2 * i) w (omega arith)) (within_at zs (2 * i + 1) w (omega arith))

  edges : all_in_bounds zs ≡ true → (i j : ℕ) → i < vertices_in zs → j < vertices_in zs
      → Common (point_of (spot_in zs i)) (point_of (spot_in zs (next i))) (point_of (spot_in zs j)) (point_of (spot_in zs (next j)))
      ↔ Common (point_in zs i) (point_in zs (next i)) (point_in zs j) (point_in zs (next j))
  edges w i j h k =
      shift_exactly _ _ _ _ _ _ _ _ (stands_in w i h) (stands_in w (next i) (mod-lt (i + 1) (omega arith))) (stands_in w j k)
      (stands_in w (next j) (mod-lt (j + 1) (omega arith)))

  ring_rule : all_in_bounds zs ≡ true → whole_simple (spot_in zs) (vertices_in zs) ≡ true ↔ SimpleRing (point_in zs) (vertices_in zs)
  ring_rule w =
      Iff.trans (simple_exactly (spot_in zs) (vertices_in zs)) (
        λ s. record { three = s.three; clear = λ i j h k r c. s.clear i j h k r ((edges w i j h k).1 c) },
        λ s. record { three = s.three; clear = λ i j h k r c. s.clear i j h k r ((edges w i j h k).0 c) },
      )

  -- the call answers 1 exactly if the list is not refused, there are three vertices or more, and no two edges that
  -- are not neighbours have a point in common
  pub simple_call_exactly : whole_simple_call zs ≡ answers true ↔ (passed (of_whole_ring zs) ≡ true) × SimpleRing (point_in zs) (vertices_in zs)
  simple_call_exactly = (to, from)
    where
      to : whole_simple_call zs ≡ answers true → (passed (of_whole_ring zs) ≡ true) × SimpleRing (point_in zs) (vertices_in zs)
      to h =
          let a = answered (of_whole_ring zs) _ true h in
          (a.0, (ring_rule (ring_within zs a.0).1).0 a.1)

      from : (passed (of_whole_ring zs) ≡ true) × SimpleRing (point_in zs) (vertices_in zs) → whole_simple_call zs ≡ answers true
      from (p, s) = rw (p, (ring_rule (ring_within zs p).1).1 s)

  -- and so does the call in floats, of floats that are these integers
  pub float_simple_exactly : (r : List Float) → Drawn r zs
      → is_simple_call r ≡ answers true ↔ (passed (of_whole_ring zs) ≡ true) × SimpleRing (point_in zs) (vertices_in zs)
  float_simple_exactly r D =
      subst (λ (o : Outcome Bool). o ≡ answers true ↔ (passed (of_whole_ring zs) ≡ true) × SimpleRing (point_in zs) (vertices_in zs))
      (sym (simple_agrees r zs D)) simple_call_exactly

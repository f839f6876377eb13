-- What bounds a trace: where its room was not full its reason is one of 1 to 5; it stores at most a point for each pass
-- it begins; and a room that has a point for each pass that it may begin is never full. So a work room of 20,002 numbers
-- always suffices. Assumes nothing.
use Prim.Native.Nat.{ℕ, zero, suc, ◌+◌, ◌*◌, ◌-◌, ◌/◌, ◌%◌, ◌≤◌}
use native.Mathlib.Omega.{arith}
use mathlib.Core.Path.{◌≡◌, refl, sym, ◌∙◌}
use mathlib.Core.Bool.{Bool, true, false, cond, true≢false}
use mathlib.Core.List.{List, ◌++◌}
use lib.ListN.{length, length-append}
use lib.Dec.{ltb, leb, eqb}
use lib.Ieee.{Float}
use borrow.Author.Tests.{le-ltb}
use Rattle.refusals.specs.Refusals.{passed, unless, first}
use Rattle.refusals.specs.Bounds.{coordinates as bounded-by, settings_ok, work_ok}
use Rattle.refusals.specs.Lists.{Extent, list_fault, polygon_extent}
use Rattle.refusals.specs.Screens.{wrong_number, wrong_settings, wrong_work}
use Rattle.refusals.specs.Rows.{of_two_polygons, of_trace}
use Rattle.refusals.specs.Refusals.{Told}
use Rattle.refusals.specs.declared.Settings.{Settings}
use Rattle.ring.specs.Ring.{count}
use Rattle.start_position.specs.Start.{start_of}
use Rattle.centroid.specs.Centroid.{centroid_of}
use Rattle.winding.specs.Winding.{ccw_of}
use Rattle.pass.specs.Pass.{Scene, scene, pass_of}
use Rattle.pass.specs.declared.Pose.{Pose}
use Rattle.pass.specs.declared.Step.{Step}
use Rattle.pass.specs.declared.Step.TheVariants.{Stop, Stay, Store}
use Rattle.pass.proofs.Reasons.{pass_reason}
use Rattle.simplify.specs.Simplify.{simplified}
use Rattle.nfp_sliding.specs.Path.{Trace, ended, coordinates_of, follow, trace_of, at_start, margins_of, trace_from, traced_of}
use Rattle.nfp_sliding.specs.Calls.{Answer, traces, denied, overfull, too_short, refusal_of, brief, came_to, trace_call}
use Rattle.nfp_sliding.proofs.Traced.{lent_ready}

-- what a trace t of at most k more passes keeps, so many having been begun with so many numbers stored
pub record Bounded (room k passes stored : ℕ) (t : Trace) : Type 0 where
  pub reasoned : t.full ≡ false → (1 ≤ t.reason) × (t.reason ≤ 5)
  pub most : t.passes ≤ passes + k
  pub points : length t.path + 2 * passes ≤ stored + 2 * t.passes
  pub holds : stored + 2 * k ≤ room → t.full ≡ false

module _ (s : Scene) (room : ℕ) where
  abbrev Claim : ℕ → Type 0
  Claim k = (passes : ℕ) (pose : Pose) (path : List Float) → Bounded room k passes (length path) (trace_of s room k passes pose path)

  -- a pass more, that stores a point at most
  one_more : (k passes stored after : ℕ) (t : Trace) → after ≤ stored + 2 → Bounded room k (passes + 1) after t
      → Bounded room (suc k) passes stored t
  one_more k passes stored after t l b =
      record {
        reasoned = b.reasoned;
        most = omega (arith, b.most);
        points = omega (arith, b.points);
        holds = λ h. b.holds (omega arith);
      }

  pub bounded : (k : ℕ) → Claim k
  unfolding trace_of
  bounded zero passes pose path =
      record { reasoned = λ e. (omega arith, omega arith); most = omega arith; points = omega arith; holds = λ h. refl }
  bounded (suc k) passes pose path = by (bounded k) (pass_of s path pose) refl
    where
      full : Claim k → (pose : Pose) (b : Bool) → ltb (room - length path) 2 ≡ b
          → Bounded room (suc k) passes (length path)
          (cond b (ended true 0 (passes + 1) path) (trace_of s room k (passes + 1) pose (path ++ coordinates_of pose.position)))
      full ih pose true e =
          record {
            reasoned = λ f. absurd (true≢false f);
            most = omega arith;
            points = omega arith;
            holds = λ h. sym e ∙ le-ltb (room - length path) 2 (omega arith);
          }
      full ih pose false e =
          let longer = path ++ coordinates_of pose.position in
          let n : length longer ≡ length path + 2 = length-append path (coordinates_of pose.position) in
          one_more k passes (length path) (length longer) _ (omega (arith, n)) (ih (passes + 1) pose longer)

      by : Claim k → (step : Step) → pass_of s path pose ≡ step
          → Bounded room (suc k) passes (length path) (follow step room passes path (trace_of s room k (passes + 1)))
      by ih (Stop reason) e =
          let r = pass_reason s path pose reason e in
          record { reasoned = λ f. (r.0, omega (arith, r.1)); most = omega arith; points = omega arith; holds = λ h. refl }
      by ih (Stay pose') e = one_more k passes (length path) (length path) _ (omega arith) (ih (passes + 1) pose' path)
      by ih (Store pose') e = full ih pose' (ltb (room - length path) 2) refl

-- ---- tests in a row

-- a test that does not give refusal 5
abbrev NotFive : Told → Type 0
NotFive r = r.number ≡ 5 → ⊥

either_not : (a b : Told) → NotFive a → NotFive b → NotFive (first a b)
either_not a b h k = by (passed a)
  where
    by : (t : Bool) → NotFive (cond t b a)
    by true = k
    by false = h

test_not : (ok : Bool) (num at : ℕ) → (num ≡ 5 → ⊥) → NotFive (unless ok num at)
test_not true num at h e = omega (arith, e)
test_not false num at h e = h e

fault_not : (e : Extent) (at : ℕ) → NotFive (list_fault e at)
fault_not e at =
    either_not (unless (eqb (e.size % e.width) 0) 1 at) _ (test_not (eqb (e.size % e.width) 0) 1 at (λ h. omega (arith, h)))
    (either_not (unless (leb e.least (e.size / e.width)) 8 at) _ (test_not (leb e.least (e.size / e.width)) 8 at (λ h. omega (arith, h)))
    (test_not (leb (e.size / e.width) e.most) 9 at (λ h. omega (arith, h))))

-- ---- the trace of two polygons

module _ (st orb : List Float) (s : Settings) (work : ℕ) where
  from_start : Bounded work s.max_iterations 0 2 (traced_of st orb s work)
  unfolding traced_of trace_from
  from_start =
      let start = start_of (ccw_of st) (ccw_of orb) in
      bounded (scene (ccw_of st) (ccw_of orb) (margins_of s) (centroid_of (ccw_of st)) start) work s.max_iterations 0 (at_start start) (coordinates_of start)

  pub trace_reason : (traced_of st orb s work).full ≡ false
      → (1 ≤ (traced_of st orb s work).reason) × ((traced_of st orb s work).reason ≤ 5)
  trace_reason e = from_start.reasoned e

  pub trace_passes : (traced_of st orb s work).passes ≤ s.max_iterations
  trace_passes = omega (arith, from_start.most)

  pub trace_points : count (traced_of st orb s work).path ≤ (traced_of st orb s work).passes + 1
  trace_points = omega (arith, from_start.points)

  pub never_full : s.max_iterations ≤ 10000 → 20002 ≤ work → (traced_of st orb s work).full ≡ false
  never_full l w = from_start.holds (omega arith)

  -- ---- what the call answers

  -- a stop reason is one of 1 to 5, no more passes are begun than the limit says, and the points are at most one more
  abbrev Ends : Answer → Type 0
  Ends (traces points stored passes stop) = ((1 ≤ stop) × (stop ≤ 5)) × (passes ≤ s.max_iterations) × (stored ≤ passes + 1)
  Ends (too_short passes stop) = ((1 ≤ stop) × (stop ≤ 5)) × (passes ≤ s.max_iterations)
  Ends (overfull passes) = passes ≤ s.max_iterations
  Ends (denied r) = Unit

  pub came_to_ends : (tol : Float) → Ends (came_to (traced_of st orb s work) tol)
  unfolding came_to
  came_to_ends tol = by (traced_of st orb s work).full (brief (traced_of st orb s work)) refl
    where
      t : Trace
      t = traced_of st orb s work

      by : (full short : Bool) → t.full ≡ full
          → Ends (cond full (overfull t.passes) (cond short (too_short t.passes t.reason)
          (traces (count (simplified t.path tol)) (count t.path) t.passes t.reason)))
      by true short e = trace_passes
      by false true e = (trace_reason e, trace_passes)
      by false false e = (trace_reason e, trace_passes, trace_points)

  pub call_ends : (result : ℕ) → Ends (trace_call st orb s work result)
  unfolding trace_call
  call_ends result = by (passed (of_trace st orb s work result))
    where
      by : (b : Bool) → Ends (cond b (came_to (traced_of st orb s work) s.contact_tolerance) (denied (of_trace st orb s work result)))
      by true = came_to_ends s.contact_tolerance
      by false = tt

  -- the tests of what is lent do not give it
  lent_number : (result : ℕ) → NotFive (of_trace st orb s work result)
  unfolding of_trace of_two_polygons
  lent_number result =
      either_not (of_two_polygons st orb) _
      (either_not (first (list_fault (polygon_extent st) 0) (list_fault (polygon_extent orb) 1)) _
      (either_not (list_fault (polygon_extent st) 0) _ (fault_not (polygon_extent st) 0) (fault_not (polygon_extent orb) 1))
      (either_not (wrong_number st) _ (test_not (bounded-by st) 2 0 (λ h. omega (arith, h))) (test_not (bounded-by orb) 2 0 (λ h. omega (arith, h)))))
      (either_not (wrong_settings s) _ (test_not (settings_ok s) 3 0 (λ h. omega (arith, h)))
      (either_not (wrong_work work) _ (test_not (work_ok work) 4 0 (λ h. omega (arith, h))) (test_not (leb work result) 4 0 (λ h. omega (arith, h)))))

  -- with room for 10,001 points the call never answers refusal 5, that the path does not fit
  pub never_five : (result : ℕ) → 20002 ≤ work → (refusal_of (trace_call st orb s work result)).number ≡ 5 → ⊥
  unfolding trace_call came_to refusal_of
  never_five result w = by (passed (of_trace st orb s work result)) refl
    where
      t : Trace
      t = traced_of st orb s work

      fits : (full short : Bool) (tol : Float) → t.full ≡ full → t.full ≡ false
          → (refusal_of
          (cond full (overfull t.passes) (cond short (too_short t.passes t.reason)
          (traces (count (simplified t.path tol)) (count t.path) t.passes t.reason)))).number ≡ 5 → ⊥
      fits true short tol e f h = true≢false (sym e ∙ f)
      fits false true tol e f h = omega (arith, h)
      fits false false tol e f h = omega (arith, h)

      by : (b : Bool) → passed (of_trace st orb s work result) ≡ b
          → (refusal_of (cond b (came_to t s.contact_tolerance) (denied (of_trace st orb s work result)))).number ≡ 5 → ⊥
      by true e h =
          fits t.full (brief t) s.contact_tolerance refl
          (never_full (lent_ready st orb s work result e).0.limit w) h
      by false e h = lent_number result h

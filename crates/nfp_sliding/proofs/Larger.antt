-- A bigger buffer does not change a path: where a call succeeds, or answers refusal 6, so does every call of the same polygons with larger
-- rooms and, unless its passes were used up, with a higher limit, and it stores the same points. By induction on the passes: a pass reads
-- the path and not the room, and a room that had space for a point still has. Assumes nothing.
use Prim.Native.Nat.{ℕ, zero, suc, ◌+◌, ◌*◌, ◌-◌, ◌≤◌, ◌<◌}
use native.Mathlib.Omega.{arith}
use native.Mathlib.Nat.{not-suc-le-zero}
use mathlib.Core.Path.{◌≡◌, refl, sym}
use mathlib.Core.Bool.{Bool, true, false, ◌&&◌, cond, true≢false}
use mathlib.Core.List.{List, [], ◌++◌}
use lib.ListN.{length}
use lib.Dec.{ltb, leb}
use lib.Ieee.{Float}
use borrow.Author.Tests.{ltb-true, ltb-false, le-ltb, le-leb, leb-true}
use Rattle.laws.proofs.Both.{both}
use Rattle.refusals.specs.Refusals.{passed, first}
use Rattle.refusals.specs.Bounds.{tolerance_ok, smallest_ok, settings_ok}
use Rattle.refusals.specs.Screens.{wrong_settings, wrong_work, wrong_result}
use Rattle.refusals.specs.Rows.{of_two_polygons, of_trace}
use Rattle.refusals.specs.declared.Settings.{Settings}
use Rattle.refusals.proofs.Sized.{row_parts, holds}
use Rattle.ring.specs.Ring.{count}
use Rattle.ring.specs.Room.{laid}
use Rattle.winding.specs.Winding.{ccw_of}
use Rattle.start_position.specs.Start.{start_of}
use Rattle.centroid.specs.Centroid.{centroid_of}
use Rattle.simplify.specs.Simplify.{simplified}
use Rattle.simplify.proofs.Whole.{not_longer, simplified_even}
use Rattle.pass.specs.Stop.{passes_used}
use Rattle.pass.specs.Pass.{Scene, scene, pass_of}
use Rattle.pass.specs.declared.Pose.{Pose}
use Rattle.pass.specs.declared.Step.{Step}
use Rattle.pass.specs.declared.Step.TheVariants.{Stop, Stay, Store}
use Rattle.nfp_sliding.specs.Path.{Trace, ended, coordinates_of, follow, trace_of, at_start, margins_of, trace_from, traced_of}
use Rattle.nfp_sliding.specs.Calls.{Answer, traces, denied, overfull, too_short, brief, came_to, result_after, trace_call, trace_work, trace_result}
use Rattle.nfp_sliding.specs.Larger.{Complete, UsedUp, limited_to, Larger, Counts, Unchanged}
use Rattle.nfp_sliding.proofs.Traced.{from_fits, from_whole, lent_ready}

-- ---- the trace

module _ (s : Scene) (room room' : ℕ) (longer : room ≤ room') where
  -- at k passes more in the one room, and k' in the other: the trace that does not fill the room is the same there
  abbrev Claim : ℕ → Type 0
  Claim k =
      (k' passes : ℕ) (pose : Pose) (path : List Float) → k ≤ k' → (trace_of s room k passes pose path).full ≡ false
      → ((trace_of s room k passes pose path).reason ≡ passes_used → k' ≡ k)
      → trace_of s room' k' passes pose path ≡ trace_of s room k passes pose path

  pub grown_trace : (k : ℕ) → Claim k
  unfolding trace_of
  grown_trace zero k' passes pose path l f u = let e : k' ≡ 0 = u refl in rw e refl
  grown_trace (suc k) zero passes pose path l f u = absurd (not-suc-le-zero l)
  grown_trace (suc k) (suc k') passes pose path l f u = by (grown_trace k) (pass_of s path pose) f u
    where
      at : ℕ → ℕ → Step → Trace
      at size n step = follow step size passes path (trace_of s size n (passes + 1))

      stored : Claim k → (q : Pose) (b : Bool) → ltb (room - length path) 2 ≡ b
          → (cond b (ended true 0 (passes + 1) path) (trace_of s room k (passes + 1) q (path ++ coordinates_of q.position))).full ≡ false
          → ((cond b (ended true 0 (passes + 1) path) (trace_of s room k (passes + 1) q (path ++ coordinates_of q.position))).reason
          ≡ passes_used
          → suc k' ≡ suc k)
          → at room' k' (Store q)
          ≡ cond b (ended true 0 (passes + 1) path) (trace_of s room k (passes + 1) q (path ++ coordinates_of q.position))
      stored ih q true b g v = absurd (true≢false g)
      stored ih q false b g v =
          let h : 2 ≤ room - length path = ltb-false _ _ b in
          rw (le-ltb (room' - length path) 2 (omega arith))
          (ih k' (passes + 1) q (path ++ coordinates_of q.position) (omega arith) g (λ e. omega (arith, v e)))

      by : Claim k → (step : Step) → (at room k step).full ≡ false → ((at room k step).reason ≡ passes_used → suc k' ≡ suc k)
          → at room' k' step ≡ at room k step
      by ih (Stop reason) g v = refl
      by ih (Stay q) g v = ih k' (passes + 1) q path (omega arith) g (λ e. omega (arith, v e))
      by ih (Store q) g v = stored ih q (ltb (room - length path) 2) refl g v

-- ---- the call

module _ (st orb : List Float) (s : Settings) (work : ℕ) where
  abbrev it : Trace
  it = traced_of st orb s work

  abbrev tol : Float
  tol = s.contact_tolerance

  grown_traced : (limit' work' : ℕ) → work ≤ work' → s.max_iterations ≤ limit' → it.full ≡ false
      → (it.reason ≡ passes_used → limit' ≡ s.max_iterations)
      → traced_of st orb (limited_to s limit') work' ≡ it
  unfolding traced_of trace_from
  grown_traced limit' work' w l f u =
      let start = start_of (ccw_of st) (ccw_of orb) in
      grown_trace (scene (ccw_of st) (ccw_of orb) (margins_of s) (centroid_of (ccw_of st)) start) work work' w s.max_iterations limit' 0
      (at_start start)
      (coordinates_of start) l f u

  -- what a complete answer tells of the trace
  pub record Ended (result : ℕ) : Type 0 where
    pub taken : passed (of_trace st orb s work result) ≡ true
    pub answered : trace_call st orb s work result ≡ came_to it tol
    pub left_room : it.full ≡ false
    pub used : it.reason ≡ passes_used → UsedUp (trace_call st orb s work result)

  complete : (result : ℕ) → Complete (trace_call st orb s work result) → Ended result
  unfolding trace_call came_to
  complete result c = by (passed (of_trace st orb s work result)) refl c
    where
      came : Bool → Bool → Answer
      came full short =
          cond full (overfull it.passes)
          (cond short (too_short it.passes it.reason)
          (traces (count (simplified it.path tol)) (count it.path) it.passes it.reason))

      ends : (full short : Bool) → Complete (came full short) → (full ≡ false) × (it.reason ≡ passes_used → UsedUp (came full short))
      ends true short d = absurd d
      ends false true d = (refl, λ e. e)
      ends false false d = (refl, λ e. e)

      by : (b : Bool) → passed (of_trace st orb s work result) ≡ b
          → Complete (cond b (came it.full (brief it)) (denied (of_trace st orb s work result))) → Ended result
      by true e d =
          let z = ends it.full (brief it) d in
          record { taken = e; answered = rw e refl; left_room = z.0; used = rw e z.1 }
      by false e d = absurd d

  -- what is lent passes with the other limit and the other rooms
  same_row : (result limit' work' result' : ℕ) → passed (of_trace st orb s work result) ≡ true → limit' ≤ 10000
      → passed (wrong_work work') ≡ true
      → passed (wrong_result work' result') ≡ true → passed (of_trace st orb (limited_to s limit') work' result') ≡ true
  unfolding of_trace settings_ok
  same_row result limit' work' result' h b w r =
      let rooms = first (wrong_work work) (wrong_result work result) in
      let a = row_parts (of_two_polygons st orb) (first (wrong_settings s) rooms) h in
      let c = row_parts (wrong_settings s) rooms a.1 in
      let p = both (tolerance_ok tol) (smallest_ok s.min_translation && leb s.max_iterations 10000)
      (holds (settings_ok s) 3 0 refl c.0) in
      let q = both (smallest_ok s.min_translation) (leb s.max_iterations 10000) p.1 in
      rw (a.0, p.0, q.0, le-leb limit' 10000 b, w) r

-- ---- the rooms

module _ (t : Trace) (tol : Float) where
  -- the points of the result: none where the path has under three
  abbrev outline_of : List Float
  outline_of = cond (brief t) [] (simplified t.path tol)

  outline_laid : (held : List Float) → t.full ≡ false → result_after t tol held ≡ laid outline_of held
  unfolding result_after
  outline_laid held f = rw f (by (brief t))
    where
      by : (b : Bool) → cond b held (laid (simplified t.path tol) held) ≡ laid (cond b [] (simplified t.path tol)) held
      by true = refl
      by false = refl

  outline_short : length outline_of ≤ length t.path
  outline_short = by (brief t)
    where
      by : (b : Bool) → length (cond b [] (simplified t.path tol)) ≤ length t.path
      by true = omega arith
      by false = not_longer t.path tol

  outline_counts : t.full ≡ false → length t.path ≡ 2 * count t.path → Counts (came_to t tol) t.path outline_of
  unfolding came_to
  outline_counts f w = rw f (by (brief t) refl)
    where
      by : (b : Bool) → brief t ≡ b
          → Counts (cond b (too_short t.passes t.reason) (traces (count (simplified t.path tol)) (count t.path) t.passes
          t.reason))
          t.path (cond b [] (simplified t.path tol))
      by true e = (let l : count t.path < 3 = ltb-true _ _ e in omega (arith, w), refl)
      by false e = (w, (omega (arith, simplified_even t.path tol (omega (arith, w)))))

-- A call that succeeds, or gives refusal 6, answers the same and stores the same points in larger rooms and under a larger limit.
pub larger : (st orb : List Float) (s : Settings) (work result : List Float) (limit' : ℕ) (work' result' : List Float)
    → Complete (trace_call st orb s (length work) (length result))
    → Larger (trace_call st orb s (length work) (length result)) s.max_iterations (length work) limit' (length work') (length result')
    → Unchanged st orb s (limited_to s limit') work result work' result'
unfolding trace_call trace_work trace_result traced_of
larger st orb s work result limit' work' result' c g =
    let t = traced_of st orb s (length work) in
    let tol = s.contact_tolerance in
    let e = complete st orb s (length work) (length result) c in
    let ready = lent_ready st orb s (length work) (length result) e.taken in
    let row = same_row st orb s (length work) (length result) limit' (length work') (length result') e.taken g.bounded g.whole
    g.enough in
    let enough : length work' ≤ length result' = leb-true _ _ (holds (leb (length work') (length result')) 4 0 refl g.enough) in
    let same : traced_of st orb (limited_to s limit') (length work') ≡ t =
    grown_traced st orb s (length work) limit' (length work') g.longer g.higher e.left_room (λ u. g.unless_used (e.used u)) in
    let fits : length t.path ≤ length work = from_fits (ccw_of st) (ccw_of orb) s work ready.0.room in
    let whole : length t.path ≡ 2 * count t.path = from_whole (ccw_of st) (ccw_of orb) s work ready.0.room in
    record {
      path = t.path;
      outline = outline_of t tol;
      answer = rw (row, same) (sym e.answered);
      counts = rw e.answered (outline_counts t tol e.left_room whole);
      path_fits = (fits, (omega (arith, g.longer)));
      outline_fits = ((omega (arith, outline_short t tol, ready.1)), (omega (arith, outline_short t tol, g.longer, enough)));
      stored = rw e.taken refl;
      stored' = rw (row, same) refl;
      written = rw e.taken (outline_laid t tol result e.left_room);
      written' = rw (row, same) (outline_laid t tol result' e.left_room);
    }

-- From the start to the end of a trace: the room with the start in it, the polygons made counter-clockwise, the path at the front of the room. Assumes nothing.
use Prim.Native.Nat.{ℕ, ◌*◌, ◌%◌, ◌≤◌}
use native.Mathlib.Omega.{arith}
use mathlib.Core.Path.{◌≡◌, refl, ap, ◌∙◌}
use mathlib.Core.Bool.{true, ◌&&◌}
use mathlib.Core.List.{List, []}
use lib.ListN.{length, take, length-append, length-drop}
use lib.Seq.{take_at}
use lib.Dec.{leb}
use lib.Ieee.{Float}
use borrow.Author.Tests.{leb-true}
use Rattle.laws.proofs.Both.{both}
use Rattle.plane.specs.declared.Point.{Point}
use Rattle.std.specs.Prelude.{Result, Err}
use Rattle.refusals.specs.Refusals.{none, passed, first}
use Rattle.refusals.specs.Answers.{tells}
use Rattle.refusals.specs.Screens.{wrong_settings, wrong_work, wrong_result}
use Rattle.refusals.specs.Rows.{of_two_polygons, of_trace}
use Rattle.refusals.specs.Bounds.{tolerance_ok, smallest_ok, settings_ok, work_ok}
use Rattle.refusals.specs.declared.Refusal.{Refusal}
use Rattle.refusals.proofs.Tests.{refused}
use Rattle.refusals.specs.declared.Settings.{Settings}
use Rattle.refusals.proofs.Sized.{row_parts, holds, two_polygons}
use Rattle.ring.specs.Ring.{count}
use Rattle.ring.specs.Room.{laid, put_at}
use Rattle.pairs.specs.Pairs.{Sides}
use Rattle.winding.specs.Winding.{ccw_of}
use Rattle.winding.proofs.Order.{ccw_length, ccw_front}
use Rattle.start_position.specs.Start.{start_of}
use Rattle.centroid.specs.Centroid.{centroid_of}
use Rattle.pass.specs.Pass.{scene}
use Rattle.pass_run.specs.declared.run.End.{End}
use Rattle.pass_run.specs.Run.{Done, run_of, state}
use Rattle.nfp_sliding.specs.Path.{Trace, ended, end_of, coordinates_of, at_start, margins_of, TraceReady, trace_from, traced_of}
use Rattle.nfp_sliding.specs.Calls.{traced, came_to, result_after, trace_call, trace_work, trace_result}
use Rattle.nfp_sliding.specs.declared.answer.Trace as answer
use Rattle.nfp_sliding.specs.declared.answer.Untraced.{Untraced}
use Rattle.nfp_sliding.specs.declared.answer.Untraced.TheVariants.{Refused}
use Rattle.nfp_sliding.proofs.Same.{Same, put_path, same_run}

pub sides : {st orb : List Float} {s : Settings} {n : ℕ} → TraceReady st orb s n → Sides (count st) (count orb)
sides r =
    record {
      stationary_some = omega (arith, r.st_least);
      stationary_most = omega (arith, r.st_most);
      orbiting_some = omega (arith, r.orb_least);
      orbiting_most = omega (arith, r.orb_most);
    }

put_start : (held : List Float) (p : Point) → 2 ≤ length held → put_at held 0 p ≡ laid (coordinates_of p) held
put_start held p l = put_path [] held 0 p refl l

module _ (st orb : List Float) (s : Settings) (held : List Float) (l : 2 ≤ length held) where
  abbrev from : Point → Point → List Float → Done
  from middle start room = run_of (scene st orb (margins_of s) middle start) s.max_iterations 0 (state (at_start start) 1) room

  from_start : Same held (from (centroid_of st) (start_of st orb) (laid (coordinates_of (start_of st orb)) held)) (trace_from st orb s (length held))
  unfolding trace_from
  from_start = same_run (scene st orb (margins_of s) (centroid_of st) (start_of st orb)) held s.max_iterations 0 1 (at_start (start_of st orb)) (coordinates_of (start_of st orb)) l refl

  -- what the run from the start leaves
  pub followed : {start middle : Point} {room out : List Float} {r : End} → start ≡ start_of st orb → middle ≡ centroid_of st → room ≡ put_at held 0 start
      → r ≡ (from middle start room).end → out ≡ (from middle start room).room
      → (r ≡ end_of (trace_from st orb s (length held))) × (out ≡ laid (trace_from st orb s (length held)).path held)
  followed {start} a b d e f =
      let p = d ∙ put_start held start l in
      (rw (e, p, b, a) from_start.end, rw (f, p, b, a) from_start.left)

  pub from_fits : length (trace_from st orb s (length held)).path ≤ length held
  from_fits = from_start.fits

  pub from_whole : length (trace_from st orb s (length held)).path ≡ 2 * count (trace_from st orb s (length held)).path
  from_whole = from_start.whole

-- a polygon made counter-clockwise is one
pub ready : {st orb : List Float} {s : Settings} {n : ℕ} → TraceReady st orb s n → TraceReady (ccw_of st) (ccw_of orb) s n
ready {st} {orb} r =
    let a = ccw_length st r.st_even in
    let b = ccw_length orb r.orb_even in
    record {
      st_even = rw a r.st_even;
      st_least = rw a r.st_least;
      st_most = rw a r.st_most;
      orb_even = rw b r.orb_even;
      orb_least = rw b r.orb_least;
      orb_most = rw b r.orb_most;
      limit = r.limit;
      room = r.room;
    }

pub front : (ring held : List Float) {room : List Float} → length ring % 2 ≡ 0 → room ≡ laid (ccw_of ring) held → take (length ring) room ≡ ccw_of ring
front ring held even e = rw e (ccw_front ring held even)

-- the path that the work room holds is the trace's
module _ (st orb : List Float) (s : Settings) (held : List Float) (l : 2 ≤ length held) where
  abbrev it : Trace
  it = traced_of st orb s (length held)

  module _ {e : End} {out : List Float} (q : e ≡ end_of it) (w : out ≡ laid it.path held) where
    pub stored_fit : 2 * e.stored ≤ length out
    unfolding traced_of
    stored_fit =
        let n : length out ≡ length held = rw w (simp (length-append, length-drop) (omega (arith, from_fits (ccw_of st) (ccw_of orb) s held l))) in
        rw (q, n) (omega (arith, from_fits (ccw_of st) (ccw_of orb) s held l, from_whole (ccw_of st) (ccw_of orb) s held l))

    pub same_trace : ended e.full e.reason e.passes (take (2 * e.stored) out) ≡ it
    unfolding traced_of
    same_trace =
        rw (q, w) (ap (λ (p : List Float). ended it.full it.reason it.passes p) (take_at it.path _ (2 * count it.path) (from_whole (ccw_of st) (ccw_of orb) s held l)))

within : (s : Settings) → settings_ok s ≡ true → s.max_iterations ≤ 10000
unfolding settings_ok
within s h =
    leb-true
    _
    _
    (both (smallest_ok s.min_translation) _ (both (tolerance_ok s.contact_tolerance) (smallest_ok s.min_translation && leb s.max_iterations 10000) h).1).1

-- what the tests leave of what is lent
pub lent_ready : (st orb : List Float) (s : Settings) (work result : ℕ) → passed (of_trace st orb s work result) ≡ true
    → TraceReady st orb s work × (work ≤ result)
unfolding of_trace
lent_ready st orb s work result g =
    let rooms = first (wrong_work work) (wrong_result work result) in
    let a = row_parts (of_two_polygons st orb) (first (wrong_settings s) rooms) g in
    let b = row_parts (wrong_settings s) rooms a.1 in
    let d = row_parts (wrong_work work) (wrong_result work result) b.1 in
    let z = two_polygons st orb a.0 in (
      record {
        st_even = z.0.even;
        st_least = z.0.least;
        st_most = z.0.most;
        orb_even = z.1.even;
        orb_least = z.1.least;
        orb_most = z.1.most;
        limit = within s (holds (settings_ok s) 3 0 refl b.0);
        room = leb-true _ _ (both _ _ (holds (work_ok work) 4 0 refl d.0)).0;
      },
      leb-true _ _ (holds (leb work result) 4 0 refl d.1),
    )

-- what the call answers and leaves where no test refuses, and where one does
module _ (st orb : List Float) (s : Settings) (work result : List Float) where
  pub goes : {x : End} (r : Result answer.Trace Untraced) {w o : List Float} → none ≡ of_trace st orb s (length work) (length result) → x ≡ end_of (traced_of st orb s (length work))
      → w ≡ laid (traced_of st orb s (length work)).path work
      → traced r ≡ came_to (ended x.full x.reason x.passes (take (2 * x.stored) w)) s.contact_tolerance
      → o ≡ result_after (ended x.full x.reason x.passes (take (2 * x.stored) w)) s.contact_tolerance result
      → (traced r ≡ trace_call st orb s (length work) (length result)) × (w ≡ trace_work st orb s work (length result)) × (o ≡ trace_result st orb s (length work) result)
  unfolding trace_call trace_work trace_result
  goes r e q a b d =
      let l = (lent_ready st orb s (length work) (length result) (rw (← e))).0.room in
      let z = same_trace st orb s work l q a in
      (rw (← e, b, z) refl, rw (← e, a) refl, rw (← e, d, z) refl)

  pub stops : (r : Refusal) → tells r ≡ of_trace st orb s (length work) (length result)
      → (traced (Err (Refused r)) ≡ trace_call st orb s (length work) (length result)) × (work ≡ trace_work st orb s work (length result)) × (result ≡ trace_result st orb s (length work) result)
  unfolding trace_call trace_work trace_result
  stops r e = (rw (← e, refused r) refl, rw (← e, refused r) refl, rw (← e, refused r) refl)

-- The trace, said of the path as a list. Definitions only.
use Rattle.std.specs.Prelude.{ℕ, zero, suc, ◌+◌, ◌-◌, ◌%◌, ◌≤◌, ◌≡◌, Bool, true, false, cond, List, [], ◌∷◌, ◌++◌, None, length, ltb, Float}
use Rattle.plane.specs.declared.Point.{Point}
use Rattle.refusals.specs.declared.Settings.{Settings}
use Rattle.ring.specs.Ring.{count}
use Rattle.winding.specs.Winding.{ccw_of}
use Rattle.start_position.specs.Start.{start_of}
use Rattle.centroid.specs.Centroid.{centroid_of}
use Rattle.pass.specs.Stop.{passes_used}
use Rattle.pass.specs.Pass.{Scene, scene, pass_of}
use Rattle.pass.specs.declared.Margins.{Margins}
use Rattle.pass.specs.declared.Pose.{Pose}
use Rattle.pass.specs.declared.Step.{Step}
use Rattle.pass.specs.declared.Step.TheVariants.{Stop, Stay, Store}
use Rattle.pass_run.specs.declared.run.End.{End}

-- whether the room was full, the reason where it was not, the passes begun, and the points stored
pub record Trace : Type 0 where
  pub full : Bool
  pub reason : ℕ
  pub passes : ℕ
  pub path : List Float

abbrev pub ended : Bool → ℕ → ℕ → List Float → Trace
ended full reason passes path = record { full = full; reason = reason; passes = passes; path = path }

abbrev pub coordinates_of : Point → List Float
coordinates_of p = p.x ∷ p.y ∷ []

-- what follows a pass in a room for so many numbers; go is the rest of the trace
abbrev pub follow : Step → ℕ → ℕ → List Float → (Pose → List Float → Trace) → Trace
follow (Stop reason) room passes path go = ended false reason (passes + 1) path
follow (Stay pose) room passes path go = go pose path
follow (Store pose) room passes path go =
    cond (ltb (room - length path) 2) (ended true 0 (passes + 1) path) (go pose (path ++ coordinates_of pose.position))

-- at most k more passes, so many having been begun: each is the pass from the pose that the one before left, over the path so far
unfoldable pub trace_of : Scene → ℕ → ℕ → ℕ → Pose → List Float → Trace
trace_of s room zero passes pose path = ended false passes_used passes path
trace_of s room (suc k) passes pose path = follow (pass_of s path pose) room passes path (trace_of s room k (passes + 1))

-- a trace as a run ends it
abbrev pub end_of : Trace → End
end_of t = record { full = t.full; reason = t.reason; passes = t.passes; stored = count t.path }

-- what a trace is given: two polygons of 3 to 256 vertices, a pass limit, and a work room for one point at least
pub record TraceReady (st orb : List Float) (s : Settings) (work : ℕ) : Type 0 where
  pub st_even : length st % 2 ≡ 0
  pub st_least : 6 ≤ length st
  pub st_most : length st ≤ 512
  pub orb_even : length orb % 2 ≡ 0
  pub orb_least : 6 ≤ length orb
  pub orb_most : length orb ≤ 512
  pub limit : s.max_iterations ≤ 10000
  pub room : 2 ≤ work

-- before the first pass
abbrev pub at_start : Point → Pose
at_start p = record { position = p; previous = None; stuck = 0 }

abbrev pub margins_of : Settings → Margins
margins_of s = record { tolerance = s.contact_tolerance; smallest = s.min_translation }

-- the trace of two counter-clockwise polygons in a room for so many numbers: the path begins with the start
unfoldable pub trace_from : List Float → List Float → Settings → ℕ → Trace
trace_from st orb s room =
    let start = start_of st orb in
    trace_of (scene st orb (margins_of s) (centroid_of st) start) room s.max_iterations 0 (at_start start) (coordinates_of start)

-- the trace of two polygons, each made counter-clockwise first
unfoldable pub traced_of : List Float → List Float → Settings → ℕ → Trace
traced_of st orb s room = trace_from (ccw_of st) (ccw_of orb) s room

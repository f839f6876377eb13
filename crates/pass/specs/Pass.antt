-- One pass of the trace, in the order of `trace_nfp_boundary` of `nfp_sliding.rs`. Definitions only.
use Rattle.std.specs.Prelude.{◌+◌, cond, not, List, ltb, Float, Option, None, Some}
use Rattle.std.specs.Float.Ieee.{lt}
use Rattle.plane.specs.Vector.{distance_of}
use Rattle.plane.specs.declared.Point.{Point}
use Rattle.contacts.specs.Contacts.{has_contact}
use Rattle.vectors.specs.Fit.{fit_of}
use Rattle.selection.specs.Score.{preferred_of}
use Rattle.ring.specs.Moved.{moved_of}
use Rattle.recovery.specs.Recovery.{recover_of}
use Rattle.interlocking.specs.Interlocking.{interlock_of}
use Rattle.choose.specs.Choose.{choice_of}
use Rattle.pass.specs.Stop.{no_contact, no_vector}
use Rattle.pass.specs.Slide.{slide_of}
use Rattle.pass.specs.declared.Margins.{Margins}
use Rattle.pass.specs.declared.Pose.{Pose}
use Rattle.pass.specs.declared.Step.{Step}
use Rattle.pass.specs.declared.Step.TheVariants.{Stop, Stay, Store}
use Rattle.vectors.specs.declared.TranslationVector.{TranslationVector}

-- what stays the same from pass to pass: both polygons, counter-clockwise, the margins, the stationary one's centroid, the
-- start. How many passes there may be is no part of it
pub record Scene : Type 0 where
  pub stationary : List Float
  pub orbiting : List Float
  pub margins : Margins
  pub centroid : Point
  pub start : Point

abbrev pub scene : List Float → List Float → Margins → Point → Point → Scene
scene st orb m c p = record { stationary = st; orbiting = orb; margins = m; centroid = c; start = p }

-- where contact was recovered the trace goes on from there
unfoldable pub regained : Option Point → Pose → Step
regained None pose = Stop no_contact
regained (Some p) pose = Stay (record { position = p; previous = pose.previous; stuck = pose.stuck })

unfoldable pub regain_of : List Float → List Float → Float → Pose → Step
regain_of st moved tol pose = regained (recover_of st moved pose.position tol) pose

-- an interlocking position is stored where it is farther than the smallest move
unfoldable pub interlocked : Option Point → Margins → Pose → Step
interlocked None m pose = Stop no_vector
interlocked (Some p) m pose =
    cond (lt m.smallest (distance_of p pose.position))
    (Store (record { position = p; previous = pose.previous; stuck = pose.stuck + 1 }))
    (Stop no_vector)

-- no vector is left: the trace ends at the fourth time in a row
unfoldable pub unstick_of : List Float → List Float → Margins → Pose → Step
unstick_of st orb m pose =
    cond (ltb 3 (pose.stuck + 1)) (Stop no_vector) (interlocked (interlock_of st orb pose.position m.tolerance) m pose)

-- the slide along the vector chosen
unfoldable pub chosen : Option TranslationVector → Scene → List Float → List Float → Pose → Step
chosen None s moved path pose = unstick_of s.stationary s.orbiting s.margins pose
chosen (Some v) s moved path pose = slide_of s.stationary moved s.margins s.start path pose v

-- the pass of the moved polygon
unfoldable pub pass_at : Scene → List Float → List Float → Pose → Step
pass_at s moved path pose =
    let tol = s.margins.tolerance in
    cond (not (has_contact s.stationary moved tol))
    (regain_of s.stationary moved tol pose)
    (chosen
    (choice_of (fit_of s.stationary moved pose.position path tol) pose.previous (preferred_of s.centroid pose.position))
    s
    moved
    path
    pose)

-- the pass from a pose, with the path so far
unfoldable pub pass_of : Scene → List Float → Pose → Step
pass_of s path pose = pass_at s (moved_of s.orbiting pose.position) path pose

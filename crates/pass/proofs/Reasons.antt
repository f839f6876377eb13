-- A pass that stops does so for one of the reasons 1 to 4: the fifth, that the passes are used up, is the run's. Assumes nothing.
use Prim.Native.Nat.{ℕ, ◌+◌, ◌≤◌}
use native.Mathlib.Omega.{arith}
use mathlib.Core.Path.{◌≡◌}
use mathlib.Core.Bool.{Bool, true, false, not, cond}
use mathlib.Core.List.{List}
use lib.Dec.{ltb}
use lib.Ieee.{Float, lt}
use Rattle.scalar.specs.Scalar.{smaller_of}
use Rattle.plane.specs.Vector.{distance_of}
use Rattle.plane.specs.declared.Point.{Point}
use Rattle.contacts.specs.Contacts.{has_contact}
use Rattle.ring.specs.Moved.{moved_of}
use Rattle.std.specs.Prelude.{Option, None, Some}
use Rattle.vectors.specs.declared.TranslationVector.{TranslationVector}
use Rattle.pass.specs.Slide.{f1000, closes_of, land_of, slide_of}
use Rattle.pass.specs.Pass.{Scene, regained, regain_of, interlocked, unstick_of, chosen, pass_at, pass_of}
use Rattle.pass.specs.declared.Margins.{Margins}
use Rattle.pass.specs.declared.Pose.{Pose}
use Rattle.pass.specs.declared.Step.{Step}
use Rattle.pass.specs.declared.Step.TheVariants.{Stop, Stay, Store}

-- where a step stops, its reason is one of a pass's
data Reasoned : Step → Type 0 where
  stops : (reason : ℕ) → 1 ≤ reason → reason ≤ 4 → Reasoned (Stop reason)
  stays : (pose : Pose) → Reasoned (Stay pose)
  stores : (pose : Pose) → Reasoned (Store pose)

either : (b : Bool) {x y : Step} → Reasoned x → Reasoned y → Reasoned (cond b x y)
either true h k = h
either false h k = k

regains : (f : Option Point) (pose : Pose) → Reasoned (regained f pose)
unfolding regained
regains None pose = stops 1 (omega arith) (omega arith)
regains (Some p) pose = stays _

interlocks : (f : Option Point) (m : Margins) (pose : Pose) → Reasoned (interlocked f m pose)
unfolding interlocked
interlocks None m pose = stops 2 (omega arith) (omega arith)
interlocks (Some p) m pose =
    either (lt m.smallest (distance_of p pose.position)) (stores _) (stops 2 (omega arith) (omega arith))

lands : (m : Margins) (start : Point) (path : List Float) (pose : Pose) (dir at : Point) → Reasoned (land_of m start path pose dir at)
unfolding land_of
lands m start path pose dir at =
    either (closes_of path at start m.tolerance) (stops 4 (omega arith) (omega arith))
    (either (lt m.smallest (distance_of at pose.position)) (stores _) (stays _))

slides : (st moved : List Float) (m : Margins) (start : Point) (path : List Float) (pose : Pose) (v : TranslationVector)
    → Reasoned (slide_of st moved m start path pose v)
unfolding slide_of
slides st moved m start path pose v =
    either (lt (smaller_of v.distance f1000) m.smallest) (stops 3 (omega arith) (omega arith))
    (lands m start path pose v.direction _)

chooses : (c : Option TranslationVector) (s : Scene) (moved path : List Float) (pose : Pose) → Reasoned (chosen c s moved path pose)
unfolding chosen unstick_of
chooses None s moved path pose =
    either (ltb 3 (pose.stuck + 1)) (stops 2 (omega arith) (omega arith)) (interlocks _ s.margins pose)
chooses (Some v) s moved path pose = slides s.stationary moved s.margins s.start path pose v

passes : (s : Scene) (path : List Float) (pose : Pose) → Reasoned (pass_of s path pose)
unfolding pass_of pass_at regain_of
passes s path pose =
    either (not (has_contact s.stationary (moved_of s.orbiting pose.position) s.margins.tolerance))
    (regains _ pose)
    (chooses _ s _ path pose)

reason_of : (x : Step) → Reasoned x → (reason : ℕ) → x ≡ Stop reason → (1 ≤ reason) × (reason ≤ 4)
reason_of _ (stops r l m) reason h = let q : r ≡ reason = cc in (rw (← q) l, rw (← q) m)
reason_of _ (stays p) reason h = absurd (let z : ◌≡◌ {A = ℕ} 0 1 = cc in omega arith)
reason_of _ (stores p) reason h = absurd (let z : ◌≡◌ {A = ℕ} 0 1 = cc in omega arith)

-- the theorem
pub pass_reason : (s : Scene) (path : List Float) (pose : Pose) (reason : ℕ) → pass_of s path pose ≡ Stop reason
    → (1 ≤ reason) × (reason ≤ 4)
pass_reason s path pose reason h = reason_of (pass_of s path pose) (passes s path pose) reason h

-- What the call answers: the refusal of what is lent, or what the trace came to, with docs/SCOPE.md's number and values. Definitions only.
use Rattle.std.specs.Prelude.{ℕ, Bool, ◌||◌, cond, List, length, ltb, Result, Ok, Err, Float}
use Rattle.refusals.specs.Refusals.{refused_fit, refused_short_path, none, refuse, passed}
use Rattle.refusals.specs.Rows.{of_trace}
use Rattle.refusals.specs.Answers.{tells, left}
use Rattle.refusals.specs.Refusals.{Told}
use Rattle.refusals.specs.declared.Settings.{Settings}
use Rattle.ring.specs.Ring.{count}
use Rattle.ring.specs.Room.{laid}
use Rattle.simplify.specs.Simplify.{simplified}
use Rattle.nfp_sliding.specs.Path.{Trace, traced_of}
use Rattle.nfp_sliding.specs.declared.answer.Trace as answer
use Rattle.nfp_sliding.specs.declared.answer.Untraced.{Untraced}
use Rattle.nfp_sliding.specs.declared.answer.Untraced.TheVariants.{Refused, Full, Short}

-- the points of the result and of the path, the passes and the stop reason; a refusal of what is lent; the path does not fit, after so many passes; it has
-- under three points, after so many passes and for that reason
pub data Answer : Type 0 where
  traces : (points stored passes stop : ℕ) → Answer
  denied : Told → Answer
  overfull : (passes : ℕ) → Answer
  too_short : (passes stop : ℕ) → Answer

-- docs/SCOPE.md's number
unfoldable pub refusal_of : Answer → Told
refusal_of (traces points stored passes stop) = none
refusal_of (denied r) = r
refusal_of (overfull passes) = refuse refused_fit 0
refusal_of (too_short passes stop) = refuse refused_short_path 0

abbrev pub untraced : Untraced → Answer
untraced (Refused r) = denied (tells r)
untraced (Full passes) = overfull passes
untraced (Short passes stop) = too_short passes stop

abbrev pub traced : Result answer.Trace Untraced → Answer
traced (Ok t) = traces t.points t.stored t.passes t.stop
traced (Err e) = untraced e

-- the path has under three points
abbrev pub brief : Trace → Bool
brief t = ltb (count t.path) 3

-- what a trace came to
unfoldable pub came_to : Trace → Float → Answer
came_to t tol =
    cond t.full (overfull t.passes)
    (cond (brief t) (too_short t.passes t.reason)
    (traces (count (simplified t.path tol)) (count t.path) t.passes t.reason))

-- what the result room holds after it
unfoldable pub result_after : Trace → Float → List Float → List Float
result_after t tol held = cond (t.full || brief t) held (laid (simplified t.path tol) held)

unfoldable pub trace_call : List Float → List Float → Settings → ℕ → ℕ → Answer
trace_call st orb s work result =
    let r = of_trace st orb s work result in
    cond (passed r) (came_to (traced_of st orb s work) s.contact_tolerance) (denied r)

-- the work room holds the points stored, whatever the trace came to
unfoldable pub trace_work : List Float → List Float → Settings → List Float → ℕ → List Float
trace_work st orb s work result =
    left (of_trace st orb s (length work) result) (laid (traced_of st orb s (length work)).path work) work

unfoldable pub trace_result : List Float → List Float → Settings → ℕ → List Float → List Float
trace_result st orb s work result =
    left (of_trace st orb s work (length result)) (result_after (traced_of st orb s work) s.contact_tolerance result) result

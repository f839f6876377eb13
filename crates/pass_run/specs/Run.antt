-- The run of the passes over the room that holds the path. Definitions only.
use Rattle.std.specs.Prelude.{ℕ, zero, suc, ◌+◌, ◌*◌, ◌-◌, ◌≤◌, Bool, true, false, cond, List, length, take, ltb, Float}
use Rattle.ring.specs.Room.{put_at}
use Rattle.pass.specs.Stop.{passes_used}
use Rattle.pass.specs.Pass.{Scene, pass_of}
use Rattle.pass.specs.declared.Pose.{Pose}
use Rattle.pass.specs.declared.Step.{Step}
use Rattle.pass.specs.declared.Step.TheVariants.{Stop, Stay, Store}
use Rattle.pass_run.specs.declared.run.State.{State}
use Rattle.pass_run.specs.declared.run.After.{After}
use Rattle.pass_run.specs.declared.run.After.TheVariants.{Halt, Full, Go}
use Rattle.pass_run.specs.declared.run.End.{End}

abbrev pub state : Pose → ℕ → State
state pose stored = record { pose = pose; stored = stored }

-- what a pass leaves: its answer and the room
pub record Afterwards : Type 0 where
  pub answer : After
  pub room : List Float

abbrev pub afterwards : After → List Float → Afterwards
afterwards answer room = record { answer = answer; room = room }

-- a pass's point is stored where two numbers are left for it
unfoldable pub after_by : Step → State → List Float → Afterwards
after_by (Stop reason) st room = afterwards (Halt reason) room
after_by (Stay pose) st room = afterwards (Go (state pose st.stored)) room
after_by (Store pose) st room =
    cond (ltb (length room - 2 * st.stored) 2) (afterwards Full room)
    (afterwards (Go (state pose (st.stored + 1))) (put_at room st.stored pose.position))

unfoldable pub after_of : Scene → State → List Float → Afterwards
after_of s st room = after_by (pass_of s (take (2 * st.stored) room) st.pose) st room

-- what a run leaves
pub record Done : Type 0 where
  pub end : End
  pub room : List Float

abbrev pub done : Bool → ℕ → ℕ → State → List Float → Done
done full reason passes st room =
    record { end = record { full = full; reason = reason; passes = passes; stored = st.stored }; room = room }

abbrev pub onward : After → (State → Done) → Done → (ℕ → Done) → Done
onward (Halt reason) go full stop = stop reason
onward Full go full stop = full
onward (Go st) go full stop = go st

-- `trace_nfp_boundary`: at most k more passes, so many having been begun. The pass that ends the run counts
unfoldable pub run_of : Scene → ℕ → ℕ → State → List Float → Done
run_of s zero passes st room = done false passes_used passes st room
run_of s (suc k) passes st room =
    onward (after_of s st room).answer
    (λ st'. run_of s k (passes + 1) st' (after_of s st room).room)
    (done true 0 (passes + 1) st (after_of s st room).room)
    (λ reason. done false reason (passes + 1) st (after_of s st room).room)

-- what a pass's answer keeps: the stored points lie in the room
abbrev pub InRoom : After → ℕ → Type 0
InRoom (Halt reason) n = Unit
InRoom Full n = Unit
InRoom (Go st) n = 2 * st.stored ≤ n

-- A pass that comes to nothing new is repeated to the limit. Assumes nothing.
use Prim.Native.Nat.{ℕ, zero, suc, ◌+◌, ◌*◌, ◌-◌, ◌≤◌}
use native.Mathlib.Omega.{arith}
use mathlib.Core.Path.{◌≡◌, refl, sym, ap, ◌∙◌}
use mathlib.Core.Bool.{Bool, true, false, cond}
use mathlib.Core.List.{List}
use lib.ListN.{length, take}
use lib.Dec.{ltb}
use lib.Ieee.{Float}
use Rattle.ring.specs.Room.{put_at}
use Rattle.pass.specs.Stop.{passes_used}
use Rattle.pass.specs.Pass.{Scene, pass_of}
use Rattle.pass.specs.declared.Step.{Step}
use Rattle.pass.specs.declared.Step.TheVariants.{Stop, Stay, Store}
use Rattle.pass.specs.declared.Pose.{Pose}
use Rattle.pass_run.specs.declared.run.State.{State}
use Rattle.pass_run.specs.declared.run.After.{After}
use Rattle.pass_run.specs.declared.run.After.TheVariants.{Full, Go}
use Rattle.pass_run.specs.Run.{Afterwards, afterwards, after_by, after_of, run_of, done, state}

pub one_pose : (a b : Pose) → a.position ≡ b.position → a.stuck ≡ b.stuck → a.previous ≡ b.previous → a ≡ b
one_pose a b e f g = rw (e, f, g) refl

pub one_state : (a b : State) → a.pose ≡ b.pose → a.stored ≡ b.stored → a ≡ b
one_state a b e f = rw (e, f) refl

-- a pass that leaves the state as it was leaves the room as it was: nothing was stored
still_room : (s : Scene) (st : State) (room : List Float) → (after_of s st room).answer ≡ Go st → (after_of s st room).room ≡ room
unfolding after_of after_by
still_room s st room = by (pass_of s (take (2 * st.stored) room) st.pose)
  where
    full : (b : Bool) (pose : Pose)
        → (cond b (afterwards Full room) (afterwards (Go (state pose (st.stored + 1))) (put_at room st.stored pose.position))).answer ≡ Go st
        → (cond b (afterwards Full room) (afterwards (Go (state pose (st.stored + 1))) (put_at room st.stored pose.position))).room ≡ room
    full true pose h = refl
    full false pose h = absurd (let q : st.stored + 1 ≡ st.stored = cc in omega (arith, q))

    by : (o : Step) → (after_by o st room).answer ≡ Go st → (after_by o st room).room ≡ room
    by (Stop reason) h = refl
    by (Stay pose) h = refl
    by (Store pose) h = full (ltb (length room - 2 * st.stored) 2) pose h

one_afterwards : (t u : Afterwards) → t.answer ≡ u.answer → t.room ≡ u.room → t ≡ u
one_afterwards t u e f = rw (e, f) refl

-- the run from a state that a pass leaves as it was
pub run_still : (s : Scene) (k passes : ℕ) (st : State) (room : List Float) → after_of s st room ≡ afterwards (Go st) room
    → run_of s k passes st room ≡ done false passes_used (passes + k) st room
unfolding run_of
run_still s zero passes st room e = let z : passes + 0 ≡ passes = omega arith in rw z refl
run_still s (suc k) passes st room e =
    let z : passes + suc k ≡ passes + 1 + k = omega arith in
    rw (e, z) (run_still s k (passes + 1) st room e)

-- the pass in a run that comes to nothing new
pub run_stays : (s : Scene) (limit p : ℕ) (st next : State) (room room' : List Float) (r : After) → p ≤ limit
    → r ≡ (after_of s st room).answer → room' ≡ (after_of s st room).room → r ≡ Go next → next ≡ st
    → run_of s (limit - p) p st room ≡ done false passes_used limit st room'
run_stays s limit p st next room room' r l e f q z =
    let a : (after_of s st room).answer ≡ Go st = sym e ∙ q ∙ ap Go z in
    let b = still_room s st room a in
    let n : p + (limit - p) ≡ limit = omega arith in
    rw (f, b) (run_still s (limit - p) p st room (one_afterwards _ _ a b) ∙ (rw n refl))

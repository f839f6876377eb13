-- What comes after a pass, by what the pass came to, and one unfolding of `run_of` by what a pass left. Assumes nothing.
use Prim.Native.Nat.{ℕ, suc, ◌+◌, ◌*◌, ◌-◌, ◌≤◌, ◌<◌}
use native.Mathlib.Omega.{arith}
use mathlib.Core.Path.{◌≡◌, refl}
use mathlib.Core.Bool.{true, false}
use mathlib.Core.List.{List}
use lib.ListN.{length, take}
use lib.Ieee.{Float}
use borrow.Author.Tests.{lt-ltb, le-ltb}
use Rattle.ring.specs.Room.{put_at}
use Rattle.pass.specs.Stop.{passes_used}
use Rattle.pass.specs.Pass.{Scene, pass_of}
use Rattle.pass.specs.declared.Pose.{Pose}
use Rattle.pass.specs.declared.Step.{Step}
use Rattle.pass.specs.declared.Step.TheVariants.{Stop, Stay, Store}
use Rattle.pass_run.specs.declared.run.State.{State}
use Rattle.pass_run.specs.declared.run.After.{After}
use Rattle.pass_run.specs.declared.run.After.TheVariants.{Halt, Full, Go}
use Rattle.pass_run.specs.Run.{afterwards, after_by, after_of, run_of, done, state}

module _ (s : Scene) (st : State) (room : List Float) {o : Step} (e : o ≡ pass_of s (take (2 * st.stored) room) st.pose) where
  pub after_stop : {reason : ℕ} → o ≡ Stop reason → after_of s st room ≡ afterwards (Halt reason) room
  unfolding after_of after_by
  after_stop q = rw (← e, q) refl

  pub after_stay : {pose : Pose} → o ≡ Stay pose → after_of s st room ≡ afterwards (Go (state pose st.stored)) room
  unfolding after_of after_by
  after_stay q = rw (← e, q) refl

  pub after_full : {pose : Pose} → o ≡ Store pose → length room - 2 * st.stored < 2 → after_of s st room ≡ afterwards Full room
  unfolding after_of after_by
  after_full q h = rw (← e, q, lt-ltb _ _ h) refl

  pub after_store : {pose : Pose} → o ≡ Store pose → 2 ≤ length room - 2 * st.stored
      → after_of s st room ≡ afterwards (Go (state pose (st.stored + 1))) (put_at room st.stored pose.position)
  unfolding after_of after_by
  after_store q h = rw (← e, q, le-ltb _ _ h) refl

module _ (s : Scene) (limit p : ℕ) (st : State) (room room' : List Float) (r : After) (l : p < limit)
    (e : r ≡ (after_of s st room).answer) (f : room' ≡ (after_of s st room).room) where
  fuel : limit - p ≡ suc (limit - (p + 1))
  fuel = omega arith

  pub run_go : (st' : State) → r ≡ Go st' → run_of s (limit - p) p st room ≡ run_of s (limit - (p + 1)) (p + 1) st' room'
  unfolding run_of
  run_go st' q = rw (fuel, ← e, q, ← f) refl

  pub run_stop : (reason : ℕ) → r ≡ Halt reason → run_of s (limit - p) p st room ≡ done false reason (p + 1) st room'
  unfolding run_of
  run_stop reason q = rw (fuel, ← e, q, ← f) refl

  pub run_full : r ≡ Full → run_of s (limit - p) p st room ≡ done true 0 (p + 1) st room'
  unfolding run_of
  run_full q = rw (fuel, ← e, q, ← f) refl

pub run_out : (s : Scene) (limit p : ℕ) (st : State) (room : List Float) → limit ≤ p → run_of s (limit - p) p st room ≡ done false passes_used p st room
unfolding run_of
run_out s limit p st room h = let z : limit - p ≡ 0 = omega arith in rw z refl

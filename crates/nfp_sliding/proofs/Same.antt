-- The run over the room and the trace over the path say the same: what the room holds at the end is the path, and then what it held. The
-- invariant: the room is the path so far and the rest of what it held. Assumes nothing.
use Prim.Native.Nat.{ℕ, zero, suc, ◌+◌, ◌*◌, ◌-◌, ◌/◌, ◌≤◌}
use native.Mathlib.Omega.{arith}
use native.Mathlib.Numerals.{add-one}
use mathlib.Core.Path.{◌≡◌, refl, sym, ◌∙◌}
use mathlib.Core.Bool.{Bool, true, false}
use mathlib.Core.List.{List, ◌++◌}
use lib.ListN.{length, drop, length-append, length-drop}
use lib.Seq.{take_at, sets-eq, take-append_seam, drop-append-add, drop-drop}
use lib.Dec.{ltb}
use lib.Ieee.{Float}
use borrow.Author.Tests.{ltb-false}
use Rattle.plane.specs.declared.Point.{Point}
use Rattle.ring.specs.Ring.{count}
use Rattle.ring.specs.Room.{laid, put_at}
use Rattle.pass.specs.Stop.{passes_used}
use Rattle.pass.specs.Pass.{Scene, pass_of}
use Rattle.pass.specs.declared.Pose.{Pose}
use Rattle.pass.specs.declared.Step.{Step}
use Rattle.pass.specs.declared.Step.TheVariants.{Stop, Stay, Store}
use Rattle.pass_run.specs.declared.run.State.{State}
use Rattle.pass_run.specs.Run.{Done, after_of, after_by, run_of, done, onward, state}
use Rattle.nfp_sliding.specs.Path.{Trace, trace_of, follow, ended, coordinates_of, end_of}

-- what a run over the room and a trace have to do with each other
pub record Same (room : List Float) (d : Done) (t : Trace) : Type 0 where
  pub end : d.end ≡ end_of t
  pub left : d.room ≡ laid t.path room
  pub fits : length t.path ≤ length room
  pub whole : length t.path ≡ 2 * count t.path

pub put_path : (path rest : List Float) (n : ℕ) (p : Point) → 2 * n ≡ length path → length path + 2 ≤ length (path ++ rest)
    → put_at (path ++ rest) n p ≡ (path ++ coordinates_of p) ++ drop (length path + 2) (path ++ rest)
unfolding put_at
put_path path rest n p e l =
    rw (e, add-one) (sets-eq (coordinates_of p) (path ++ rest) (length path) l ∙ (rw take-append_seam refl))

-- the claim of the induction, at k more passes: whatever the path and the pose
abbrev Claim : Scene → List Float → ℕ → Type 0
Claim s held k =
    (passes stored : ℕ) (pose : Pose) (path : List Float) → length path ≤ length held → 2 * stored ≡ length path
    → Same held (run_of s k passes (state pose stored) (laid path held)) (trace_of s (length held) k passes pose path)

ends : (held : List Float) (full : Bool) (reason passes stored : ℕ) (pose : Pose) (path : List Float) → length path ≤ length held → 2 * stored ≡ length path
    → Same held (done full reason passes (state pose stored) (laid path held)) (ended full reason passes path)
ends held full reason passes stored pose path l e =
    let n : stored ≡ length path / 2 = omega (arith, e) in
    record { end = rw n refl; left = refl; fits = l; whole = omega (arith, e) }

pub same_run : (s : Scene) (held : List Float) (k : ℕ) → Claim s held k
unfolding run_of trace_of after_of after_by
same_run s held zero passes stored pose path l e = ends held false passes_used passes stored pose path l e
same_run s held (suc k) passes stored pose path l e = go (same_run s held k) (pass_of s path pose) refl
  where
    room : List Float
    room = laid path held

    size : length room ≡ length held
    size = simp (length-append, length-drop) (omega arith)

    st : State
    st = state pose stored

    passed_so : (o : Step) → pass_of s path pose ≡ o → after_of s st room ≡ after_by o st room
    passed_so o h = rw (take_at path (drop (length path) held) (2 * stored) (sym e), h) refl

    long : (p : Point) → length (path ++ coordinates_of p) ≡ length path + 2
    long p = length-append path (coordinates_of p)

    put : (p : Point) → length path + 2 ≤ length held → put_at room stored p ≡ laid (path ++ coordinates_of p) held
    put p h =
        put_path path (drop (length path) held) stored p e (rw size h)
        ∙ (rw (drop-append-add, drop-drop, long) refl)

    store : Claim s held k → (q : Pose) (b : Bool) → ltb (length held - length path) 2 ≡ b → after_of s st room ≡ after_by (Store q) st room
        → Same held
        (onward (after_of s st room).answer
        (λ st'. run_of s k (passes + 1) st' (after_of s st room).room)
        (done true 0 (passes + 1) st (after_of s st room).room)
        (λ reason. done false reason (passes + 1) st (after_of s st room).room))
        (follow (Store q) (length held) passes path (trace_of s (length held) k (passes + 1)))
    store ih q true b t = rw (t, size, e, b) (ends held true 0 (passes + 1) stored pose path l e)
    store ih q false b t =
        let b' : 2 ≤ length held - length path = ltb-false _ _ b in
        rw (t, size, e, b, put q.position (omega arith))
        (ih (passes + 1) (stored + 1) q (path ++ coordinates_of q.position) (omega (arith, long q.position)) (omega (arith, long q.position)))

    go : Claim s held k → (o : Step) → pass_of s path pose ≡ o
        → Same held (run_of s (suc k) passes st room) (trace_of s (length held) (suc k) passes pose path)
    go ih (Stop reason) h = rw (passed_so (Stop reason) h, h) (ends held false reason (passes + 1) stored pose path l e)
    go ih (Stay q) h = rw (passed_so (Stay q) h, h) (ih (passes + 1) stored q path l e)
    go ih (Store q) h = rw h (store ih q (ltb (length held - length path) 2) refl (passed_so (Store q) h))

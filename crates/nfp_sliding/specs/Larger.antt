-- A trace in larger rooms and under a larger limit: which answers this is about, what may grow, and what stays. Definitions only.
use Rattle.std.specs.Prelude.{ℕ, ◌*◌, ◌≤◌, ◌<◌, ◌≡◌, true, List, [], length, Float}
use Rattle.refusals.specs.Refusals.{passed}
use Rattle.refusals.specs.Screens.{wrong_work, wrong_result}
use Rattle.refusals.specs.declared.Settings.{Settings}
use Rattle.ring.specs.Room.{laid}
use Rattle.pass.specs.Stop.{passes_used}
use Rattle.nfp_sliding.specs.Calls.{Answer, traces, denied, overfull, too_short, trace_call, trace_work, trace_result}

-- a success, or refusal 6
abbrev pub Complete : Answer → Type 0
Complete (traces points stored passes stop) = Unit
Complete (too_short passes stop) = Unit
Complete (overfull passes) = ⊥
Complete (denied r) = ⊥

-- it stopped with the passes used up
abbrev pub UsedUp : Answer → Type 0
UsedUp (traces points stored passes stop) = stop ≡ passes_used
UsedUp (too_short passes stop) = stop ≡ passes_used
UsedUp (overfull passes) = ⊥
UsedUp (denied r) = ⊥

-- the settings with another pass limit
abbrev pub limited_to : Settings → ℕ → Settings
limited_to s limit =
    record { contact_tolerance = s.contact_tolerance; min_translation = s.min_translation; max_iterations = limit }

-- After an answer under a limit and with a work room of so many numbers: another limit that is no lower, and the same one where the
-- passes were used up; a work room that is no shorter; and a result room, both of which refusal 4 lets pass
pub record Larger (answer : Answer) (limit work limit' work' result' : ℕ) : Type 0 where
  pub higher : limit ≤ limit'
  pub bounded : limit' ≤ 10000
  pub unless_used : UsedUp answer → limit' ≡ limit
  pub longer : work ≤ work'
  pub whole : passed (wrong_work work') ≡ true
  pub enough : passed (wrong_result work' result') ≡ true

-- the points of the path and of the result are as many as the answer says; after refusal 6 the path has under three, and the result none
abbrev pub Counts : Answer → List Float → List Float → Type 0
Counts (traces points stored passes stop) path outline = (length path ≡ 2 * stored) × (length outline ≡ 2 * points)
Counts (too_short passes stop) path outline = (length path < 6) × (outline ≡ [])
Counts (overfull passes) path outline = Unit
Counts (denied r) path outline = Unit

-- Two calls with the same polygons answer the same and store the same points, and beyond the points each room holds what it held
pub record Unchanged (st orb : List Float) (s s' : Settings) (work result work' result' : List Float) : Type 0 where
  pub path : List Float
  pub outline : List Float
  pub answer : trace_call st orb s' (length work') (length result') ≡ trace_call st orb s (length work) (length result)
  pub counts : Counts (trace_call st orb s (length work) (length result)) path outline
  pub path_fits : (length path ≤ length work) × (length path ≤ length work')
  pub outline_fits : (length outline ≤ length result) × (length outline ≤ length result')
  pub stored : trace_work st orb s work (length result) ≡ laid path work
  pub stored' : trace_work st orb s' work' (length result') ≡ laid path work'
  pub written : trace_result st orb s (length work) result ≡ laid outline result
  pub written' : trace_result st orb s' (length work') result' ≡ laid outline result'
